-- `clmul::sixteen::write_column` meets its contract. The loop's invariant is `Writing` of `Columns`: what is still to be written.
use native.Mathlib.Omega.{arith}
use Rattle.clmul.proofs.Columns.{writing_start, writing_next, writing_done}
use Rattle.clmul.proofs.sixteen.write_column.Goals as goal

pub loop-j-init : goal.loop-j-init
loop-j-init g c = writing_start _ _ _ _

pub loop-j-preserved : goal.loop-j-preserved
loop-j-preserved g c = writing_next c.loop-j.invariant (omega arith)

pub returns : goal.returns
returns g c = writing_done c.loop-j.invariant (omega arith)
