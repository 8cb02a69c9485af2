-- `planes::packing::gathered` meets its contract. The loop's invariant: the word is made of the bytes from place p up, and no step to the byte
-- below them is too long. Rests on ByteWords.
use Rattle.planes.proofs.ByteWords.{gathered_start, gathered_next, gathered_done, steps, at_place}
use native.Mathlib.Omega.{arith}
use Rattle.planes.proofs.packing.gathered.Goals as goal

pub loop-p-init : goal.loop-p-init
loop-p-init c = (gathered_start _, steps _ _ _ 7 (omega arith))

pub loop-p-preserved : goal.loop-p-preserved
loop-p-preserved c = (
  gathered_next _ _ _ c.loop-p.invariant.0 _ (omega arith) (omega arith)
      (at_place c.args.s.now _ _ _ _ _),
  steps _ _ _ _ (omega arith),
)

pub returns : goal.returns
returns c = gathered_done _ _ _ c.loop-p.invariant.0 (omega arith)
