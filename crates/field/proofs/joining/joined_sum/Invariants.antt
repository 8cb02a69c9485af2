-- `field::joining::joined_sum` meets its contract. The loop's invariant is `Joining` of `Parts`.
use Rattle.field.proofs.Parts.{Joining}
use Rattle.field.proofs.joining.joined_sum.Given as goal

abbrev pub invariant-loop-i : goal.invariant-loop-i
invariant-loop-i l = Joining l.h l.sums l.lengths l.sum l.i
