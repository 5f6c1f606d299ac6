-- The ten steps are the recursion's, each degree's from the one below.
use Rattle.std.proofs.Common.{◌≡◌, ◌+◌, refl, ◌∙◌, arith}
use Rattle.spline.specs.Spline.{knot_of, rise_of}
use Rattle.spline.proofs.Unrolled.{at_degree_0, a_degree_up}
use Rattle.spline.proofs.triangle.cubic_at.Goals as goal

pub returns : goal.returns
unfolding knot_of rise_of
returns c =
    let g = c.args.grid in
    let i = c.args.i in
    let x = c.args.x in
    let w = c.width-w.ensures in
    let k1 : c.knot_by-k1.result ≡ knot_of g i = rw (c.knot_by-k1.ensures, w) in
    let k2 : c.knot_by-k2.result ≡ knot_of g (i + 1) = rw (c.knot_by-k2.ensures, w) in
    let k3 : c.knot_by-k3.result ≡ knot_of g (i + 2) = rw (c.knot_by-k3.ensures, w) in
    let k4 : c.knot_by-k4.result ≡ knot_of g (i + 3) = rw (c.knot_by-k4.ensures, w) in
    let k5 : c.knot_by-k5.result ≡ knot_of g (i + 4) = rw (c.knot_by-k5.ensures, w) in
    let in1 = c.indicator-in1.ensures ∙ at_degree_0 g x i (i + 1) refl k1 k2 in
    let in2 = c.indicator-in2.ensures ∙ at_degree_0 g x (i + 1) (i + 2) (omega arith) k2 k3 in
    let in3 = c.indicator-in3.ensures ∙ at_degree_0 g x (i + 2) (i + 3) (omega arith) k3 k4 in
    let in4 = c.indicator-in4.ensures ∙ at_degree_0 g x (i + 3) (i + 4) (omega arith) k4 k5 in
    let line1 = c.blend-line1.ensures
    ∙ a_degree_up g x 0 i (i + 1) (i + 1) (i + 2) refl (omega arith) (omega arith) k1 k2 k2 k3 in1 in2 in
    let line2 = c.blend-line2.ensures
    ∙ a_degree_up g x 0 (i + 1) (i + 2) (i + 2) (i + 3) (omega arith) (omega arith) (omega arith) k2 k3 k3 k4 in2 in3 in
    let line3 = c.blend-line3.ensures
    ∙ a_degree_up g x 0 (i + 2) (i + 3) (i + 3) (i + 4) (omega arith) (omega arith) (omega arith) k3 k4 k4 k5 in3 in4 in
    let square1 = c.blend-square1.ensures
    ∙ a_degree_up g x 1 i (i + 1) (i + 2) (i + 3) refl (omega arith) (omega arith) k1 k2 k3 k4 line1 line2 in
    let square2 = c.blend-square2.ensures
    ∙ a_degree_up g x 1 (i + 1) (i + 2) (i + 3) (i + 4) (omega arith) (omega arith) (omega arith) k2 k3 k4 k5 line2 line3 in (
      c.blend.ensures
          ∙ a_degree_up g x 2 i (i + 1) (i + 3) (i + 4) refl (omega arith) (omega arith) k1 k2 k4 k5 square1 square2,
      rw (c.portion.ensures, c.portion-2.ensures, square1, square2, k1, k2, k4, k5),
    )
