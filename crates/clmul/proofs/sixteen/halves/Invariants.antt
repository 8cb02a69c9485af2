-- `clmul::sixteen::halves` meets its contract. The loop's invariant: the first n columns hold the halves of the first n numbers. Rests on RowLaws.
use Rattle.clmul.specs.Tables.{half}
use Rattle.clmul.proofs.Columns.{Columns}
use Rattle.clmul.proofs.RowLaws.{joined}
use Rattle.clmul.proofs.sixteen.halves.Given as goal

abbrev pub invariant-loop-n : goal.invariant-loop-n
invariant-loop-n l = Columns 16 9 (λ w k. half w (joined l.hi l.lo k)) l.n l.x
