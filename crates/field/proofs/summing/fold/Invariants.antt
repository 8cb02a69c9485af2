-- `field::summing::fold` meets its contract. The loop's invariant is `Folding` of `Folds`: y is Y after the i blocks read, and the
-- running count has their products in it.
use Rattle.field.proofs.Folds.{Folding}
use Rattle.field.proofs.summing.fold.Given as goal

abbrev pub invariant-loop-i : goal.invariant-loop-i
invariant-loop-i l = Folding l.h l.initial.y l.lead l.a l.b l.q l.initial.running l.y l.running l.i
