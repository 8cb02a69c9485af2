-- `field::packing::number_at` meets its contract. The loop's invariant is `Reading` of `Packed`: n is the number of the k bytes
-- read so far.
use mathlib.Core.List.{◌++◌}
use lib.ListN.{replicate}
use Rattle.field.proofs.Packed.{Reading}
use Rattle.field.proofs.packing.number_at.Given as goal

abbrev pub invariant-loop-k : goal.invariant-loop-k
invariant-loop-k l = Reading (replicate l.lead 0 ++ l.s) l.at l.size l.n l.k
