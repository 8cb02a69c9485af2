-- `field::batches::powers` meets its contract. The loop's invariant is `Raising` of `BatchLaws`: the last 2k - 1 places hold their
-- powers.
use Rattle.field.proofs.BatchLaws.{Raising}
use Rattle.field.proofs.batches.powers.Given as goal

abbrev pub invariant-loop-k : goal.invariant-loop-k
invariant-loop-k l = Raising l.h l.p l.k
