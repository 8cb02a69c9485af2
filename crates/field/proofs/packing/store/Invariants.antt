-- `field::packing::store` meets its contract. The loop's invariant is `Writing` of `Packed`: with the k bytes of rest stored yet,
-- out holds what it is to hold.
use Rattle.field.proofs.Packed.{Writing}
use Rattle.field.proofs.packing.store.Given as goal

abbrev pub invariant-loop-k : goal.invariant-loop-k
invariant-loop-k l = Writing l.initial.out l.at l.size l.v l.out l.rest l.k
