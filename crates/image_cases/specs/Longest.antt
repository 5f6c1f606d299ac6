-- R16.5: 8,388,609 zero bytes are 24, 8,388,608 are 25 carrying 0: images that a program's stack does not hold, so that
-- no stored case gives them. Their answers by the definition that `describe` meets. Definitions only.
use Rattle.std.specs.Prelude.{ℕ, ◌<◌, ◌≡◌, List, length, get_or}
use Rattle.image_reading.specs.Image.{describe_of}
use Rattle.image_reading.specs.Stages.{refused_by}

-- every byte is zero; beyond a list's end `get_or` is zero by itself
abbrev pub Zeros : List ℕ → Type 0
Zeros bs = (i : ℕ) → get_or bs i 0 ≡ 0

pub record Longest : Type 0 where
  -- one byte too many, or more: 24, whatever the bytes are
  pub too_long : (bs : List ℕ) → 8388608 < length bs → describe_of bs ≡ refused_by 24 0
  -- as many as an image may have: the version is read, and it is 0
  pub longest : (bs : List ℕ) → length bs ≡ 8388608 → Zeros bs → describe_of bs ≡ refused_by 25 0
