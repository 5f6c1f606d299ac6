-- The call where both slices have the room that an image asks for: what they then hold. Assumes nothing.
use Rattle.std.specs.Prelude.{Ok}
use Prim.Native.Nat.{ℕ, ◌*◌}
use mathlib.Core.Path.{◌≡◌, sym, ap, ◌∙◌, subst}
use mathlib.Core.Bool.{true, ◌&&◌}
use mathlib.Core.List.{List}
use lib.Dec.{eqb}
use lib.ListN.{length}
use lib.Ieee.{Float}
use borrow.Author.Tests.{eqb-true}
use Rattle.refusals.specs.Refusals.{◌otherwise◌, outcome_of}
use Rattle.refusals.proofs.Firsts.{not_refused, test_passes}
use Rattle.words.specs.Words.{words_from, floats_in}
use Rattle.image_reading.specs.declared.Description.{Description}
use Rattle.image_reading.specs.Image.{description_in, describe_of, widths_of, parameters_of}
use Rattle.image_reading.proofs.Parts.{described}
use Rattle.image_unpacking.specs.Unpacking.{unpack_fault, Unpacked}

-- 10, of one of the slices
roomy : (n m : ℕ) → outcome_of (eqb n m otherwise 10) 0 ≡ Ok tt → eqb n m ≡ true
roomy n m e = test_passes (eqb n m) 9 (not_refused _ 0 e)

pub filled : (bs ws : List ℕ) (ps : List Float) (d : Description) (ws' : List ℕ) (ps' : List Float)
    → describe_of bs ≡ Ok d → outcome_of (eqb (length ws) d.widths otherwise 10) 0 ≡ Ok tt
    → outcome_of (eqb (length ps) d.parameters otherwise 10) 0 ≡ Ok tt
    → ws' ≡ words_from bs (4 * d.parameters) (length ws) → ps' ≡ floats_in bs (length ps)
    → Unpacked bs ws ps (Ok tt) ws' ps'
unfolding unpack_fault widths_of parameters_of
filled bs ws ps d ws' ps' e k n x y =
    let a = described bs d e in
    let some = roomy (length ws) d.widths k in
    let all = roomy (length ps) d.parameters n in
    let own : eqb (length ws) (description_in bs).widths && eqb (length ps) (description_in bs).parameters ≡ true =
    subst (λ (z : Description). eqb (length ws) z.widths && eqb (length ps) z.parameters ≡ true) (sym a.same)
    (rw (some, all)) in
    let widths = x ∙ ap (words_from bs (4 * d.parameters)) (eqb-true _ _ some) ∙ ap (widths_of bs) (sym a.same) in
    let model = y ∙ ap (floats_in bs) (eqb-true _ _ all) ∙ ap (parameters_of bs) (sym a.same) in
    record { answer = rw (a.passed, own); widths = rw (a.passed, own) widths; model = rw (a.passed, own) model }
