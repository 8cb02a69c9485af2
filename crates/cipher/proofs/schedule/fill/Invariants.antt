-- `cipher::schedule::fill` meets its contract. The loop's invariant: the first r rows are the schedule's.
use Rattle.planes.proofs.Tables.{Filled}
use Rattle.cipher.specs.Clauses.{row_of}
use lib.ListN.{length}
use Rattle.cipher.proofs.schedule.fill.Given as goal

abbrev pub invariant-loop-r : goal.invariant-loop-r
invariant-loop-r l = Filled (λ _ j. row_of l.key j) (length l.initial.rows) l.initial.rows l.r l.rows
