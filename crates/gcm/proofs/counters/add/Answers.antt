-- `gcm::counters::add` meets its contract. The loop's invariant: the first k bytes of the sum are written (`Batches`).
use native.Mathlib.Omega.{arith}
use Rattle.gcm.proofs.Batches.{added_next, added_done}
use Rattle.gcm.proofs.counters.add.Goals as goal

pub loop-k-preserved : goal.loop-k-preserved
loop-k-preserved c = added_next _ _ c.requires.0 c.loop-k.invariant (omega arith)

pub returns : goal.returns
returns c = added_done _ _ c.requires.0 c.loop-k.invariant (omega arith) (omega arith)
