-- `clmul::sixteen::halves` meets its contract. The loop's invariant: the first n columns hold the halves of the first n numbers. Rests on RowLaws.
use mathlib.Core.Path.{refl}
use native.Mathlib.Omega.{arith}
use Rattle.clmul.proofs.Columns.{columns_start, columns_next}
use Rattle.clmul.proofs.RowLaws.{halves_done}
use Rattle.clmul.proofs.sixteen.halves.Goals as goal

pub loop-n-init : goal.loop-n-init
loop-n-init c = columns_start 16 9 _ _ refl

pub loop-n-preserved : goal.loop-n-preserved
loop-n-preserved c = rw c.write_column.ensures (columns_next _ c.loop-n.invariant (omega arith) c.nine_halves.ensures)

pub returns : goal.returns
returns c = halves_done c.loop-n.invariant (omega arith)
