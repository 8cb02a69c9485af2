-- `clmul::sixteen::row_sum` meets its contract. The loop's invariant: the mixtures are those of the sum of the first n products. Rests on RowLaws.
use Rattle.clmul.proofs.RowLaws.{Summed}
use Rattle.clmul.proofs.sixteen.row_sum.Given as goal

abbrev pub invariant-loop-n : goal.invariant-loop-n
invariant-loop-n l = Summed l.x l.t l.at l.n l.sum
