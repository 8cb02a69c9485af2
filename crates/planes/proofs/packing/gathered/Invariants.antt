-- `planes::packing::gathered` meets its contract. The loop's invariant: the word is made of the bytes from place p up, and no step to the byte
-- below them is too long. Rests on ByteWords.
use Rattle.planes.proofs.ByteWords.{Gathered, Steps}
use Rattle.planes.specs.Lanes.{strided}
use Rattle.planes.specs.Tables.{at}
use Prim.Native.Nat.{◌+◌, ◌-◌}
use Rattle.planes.proofs.packing.gathered.Given as goal

abbrev pub invariant-loop-p : goal.invariant-loop-p
invariant-loop-p l = Gathered (λ k. at l.s (l.start + strided l.a l.b l.c k)) l.n l.p × Steps l.a l.b l.c (l.p - 1)
