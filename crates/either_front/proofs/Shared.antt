-- A `&mut [f32]` is shared for all the time that it has left. Its own name ends at its elements as they are.
-- Assumes `Logic`.
use mathlib.Core.Path.{refl}
use mathlib.Core.List.{List, [], ◌∷◌}
use Prim.Native.Nat.{ℕ}
use lib.ListN.{length}
use lib.Ieee.{Float, binary32}
use seplogic.Ra.Ura.{Ura}
use mir.Syntax.{named, erased}
use mir.Val.{Val}
use base.Fraction.{full_share}
use base.Logic.{SProp, ent, sep}
use base.Fml.{Lft, GName, Share, flft}
use types.Logic.{Logic, sem}
use types.Kit.{‵, ◌⊛◌, ◌$◌, !, qed, use2, split, later, await, now, updating, fsplit, fsplit3}
use types.Kit.{fjoin, fjoin3, feq_l, feq_i, done}
use denote.Builtin.{f32}
use denote.Copied.{float_Copied}
use denote.Floats.{float_row_laws}
use denote.Ref.{Bor, MutBor}
use denote.Slice.{slice_val, finally, MutSlice, ShrSlice}
use borrow.Table.Owned as O
use borrow.Rule.Slice.Handed.{sl_Share}

module _ {M : Type 1} {𝓤 : Ura M} (𝓛 : Logic 𝓤) (κ : Lft) (q : Share) (b o : ℕ)
    (γ : GName) (xs : List Float) where
  open 𝓛 use {H, A}

  -- the slice as it is lent, and as it is shared: a `&` has no ghost name
  abbrev lent : MutBor (List Float)
  lent = record { ref_ptr = (b, o); ghost_name = γ; now = xs }

  abbrev shown : Bor (List Float)
  shown = record { ref_ptr = (b, o); now = xs }

  abbrev v : Val
  v = slice_val (b, o) (length xs)

  abbrev pub Shared : SProp 𝓤
  Shared = sep 𝓤 (sem 𝓛 ((ShrSlice (named 0) κ f32).own_val shown (v ∷ [])))
      (sep 𝓤 (sem 𝓛 (finally f32 γ xs)) (A.lft κ q))

  pub shares : ent 𝓤 (sep 𝓤 (sem 𝓛 ((MutSlice (named 0) κ f32).own_val lent (v ∷ []))) (A.lft κ q))
      (H.⇛ Shared)
  shares =
      qed 𝓛 (‵ ((MutSlice (named 0) κ f32).own_val lent (v ∷ [])) ∷ ‵ (flft κ q) ∷ []) {P = H.⇛ Shared} (
      updating ! $ fsplit3 ! $ fsplit ! $ feq_l ! (λ _. fjoin3 ! $
      -- [what the slice owns, apart from its value; the token]
      use2 𝓛 (later (‵ ((O.ShrSlice erased κ f32).own_val shown) ⊛ (‵ (finally f32 γ xs) ⊛ ‵ (flft κ q))))
      (sl_Share 𝓛 f32 b o γ xs (float_row_laws binary32) κ q ((float_Copied 𝓛 binary32).shares full_share κ)) $
      await ! tt $ split ! $
      -- [the shared slice; how the name ends, and the token]
      fsplit ! $ feq_i ! (List Val) (v ∷ []) (v ∷ []) refl $ fjoin ! $ fjoin ! $ now ! $ done !))
