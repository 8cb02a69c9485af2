-- `clmul::sixteen::row_sum` meets its contract. The loop's invariant: the mixtures are those of the sum of the first n products. Rests on RowLaws.
use native.Mathlib.Omega.{arith}
use Rattle.clmul.proofs.RowLaws.{summed_start, summed_next, summed_done}
use Rattle.clmul.proofs.sixteen.row_sum.Goals as goal

pub loop-n-init : goal.loop-n-init
loop-n-init c = summed_start _ _ _

pub loop-n-preserved : goal.loop-n-preserved
loop-n-preserved c = summed_next c.loop-n.invariant (omega arith) c.mixed.ensures c.mixtures_at.ensures c.added-next.ensures

pub returns : goal.returns
returns c = summed_done c.loop-n.invariant (omega arith) c.unmixed.ensures
