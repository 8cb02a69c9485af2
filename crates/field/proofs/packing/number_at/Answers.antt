-- `field::packing::number_at` meets its contract. The loop's invariant is `Reading` of `Packed`: n is the number of the k bytes
-- read so far.
use native.Mathlib.Omega.{arith}
use Rattle.field.proofs.Packed.{reading_start, reading-lt, reading_next}
use Rattle.field.proofs.packing.number_at.Goals as goal

pub loop-k-init : goal.loop-k-init
loop-k-init c = reading_start _ _ _

pub overflow_mul-n : goal.overflow_mul-n
overflow_mul-n c = omega (arith, reading-lt c.loop-k.invariant (omega arith) (omega arith))

pub overflow_add-n : goal.overflow_add-n
overflow_add-n c = omega (arith, reading-lt c.loop-k.invariant (omega arith) (omega arith))

pub loop-k-preserved : goal.loop-k-preserved
loop-k-preserved c = reading_next _ c.loop-k.invariant (omega arith) (omega arith) c.byte_at-b.ensures
