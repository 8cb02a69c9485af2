-- `field::joining::total` meets its contract. The loop's invariant is `Totalling` of `PartLengths`.
use Rattle.field.proofs.PartLengths.{Totalling}
use Rattle.field.proofs.joining.total.Given as goal

abbrev pub invariant-loop-n : goal.invariant-loop-n
invariant-loop-n l = Totalling l.lengths l.sum l.n-index
