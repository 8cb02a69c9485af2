-- `gcm::counters::fill_counters` meets its contract. The loop's invariant: i counter blocks are written (`Batches`).
use native.Mathlib.Omega.{arith}
use Rattle.gcm.proofs.Batches.{counting_start, counting_next, counting_done}
use Rattle.gcm.proofs.counters.fill_counters.Goals as goal

pub loop-i-init : goal.loop-i-init
loop-i-init c = counting_start _ _ _

pub loop-i-preserved : goal.loop-i-preserved
loop-i-preserved c = rw c.write.ensures (counting_next _ _ _ _ c.loop-i.invariant c.counter_block.ensures)

pub returns : goal.returns
returns c = counting_done _ _ _ c.loop-i.invariant (omega arith)
