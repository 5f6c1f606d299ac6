-- The cursor stands at the layer that comes next.
use Rattle.layer_cursor.specs.Cursor.{Stands}
use Rattle.row_gradients.proofs.walk_end.Given as goal

abbrev pub invariant-loop : goal.invariant-loop
invariant-loop l = Stands l.grid l.widths l.counter l.layer
