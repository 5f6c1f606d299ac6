-- R17.9: a layer's coefficients to a file and back, by `kan_npy_write` and `kan_npy_read`, in the words of their contracts: the
-- numbers, and all that was lent. Definitions only.
use Rattle.std.specs.Prelude.{ℕ, ◌≡◌, true, List, length, Float}
use Rattle.floats.specs.Sums.{at, all_finite}
use Rattle.refusals.specs.Refusals.{refusal_of}
use Rattle.spline.specs.declared.Grid.{Grid}
use Rattle.npy_writing.specs.Writing.{NpyWritten}
use Rattle.npy_reading.specs.Reader.{NpyRead}
use Rattle.npy_round_trip.specs.RoundTrip.{Held, place_of, IsCoefficient, SameElsewhere}
use Rattle.estimator.specs.Linkage.{Linked}

-- the model qs, into which the file of layer l of ps was read with the answer m
pub record Exchanged (ws : List ℕ) (g : Grid) (l : ℕ) (ps qs : List Float) (m : ℕ) (qs' : List Float) : Type 0 where
  pub accepted : m ≡ 0
  pub element : (o i k : ℕ) → IsCoefficient ws g l o i k → at qs' (place_of ws g l o i k) ≡ at ps (place_of ws g l o i k)
  pub elsewhere : SameElsewhere ws g l qs qs'

pub record LinkedExchange : Type 0 where
  -- wherever `kan_npy_write` answers 0, for any sound model of the configuration
  pub read_back : (ws : List ℕ) (g : Grid) (l : ℕ) (ps qs : List Float) (bs file : List ℕ) (n c : ℕ)
      → Linked refusal_of n c (λ o. NpyWritten ws g ps l bs o file) → n ≡ 0 → Held ps → length qs ≡ length ps
      → all_finite qs ≡ true → (m d : ℕ) (qs' : List Float) → Linked refusal_of m d (λ o. NpyRead ws g qs l file o qs')
      → Exchanged ws g l ps qs m qs'
