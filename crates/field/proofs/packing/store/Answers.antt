-- `field::packing::store` meets its contract. The loop's invariant is `Writing` of `Packed`: with the k bytes of rest stored yet,
-- out holds what it is to hold.
use native.Mathlib.Omega.{arith}
use Rattle.field.proofs.Packed.{writing_next, writing_done}
use Rattle.field.proofs.packing.store.Goals as goal

pub loop-k-preserved : goal.loop-k-preserved
loop-k-preserved c = writing_next c.loop-k.invariant (omega arith)

pub returns : goal.returns
returns c = writing_done c.loop-k.invariant (omega arith)
