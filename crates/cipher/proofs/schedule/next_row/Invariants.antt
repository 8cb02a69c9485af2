-- `cipher::schedule::next_row` meets its contract. The loop's invariant: the first i bytes are the next row's.
use Rattle.planes.proofs.Tables.{Filled}
use Rattle.cipher.specs.Clauses.{carried}
use Rattle.planes.specs.Planes.{xor}
use Rattle.planes.specs.Tables.{at}
use Rattle.cipher.proofs.schedule.next_row.Given as goal

abbrev pub invariant-loop-i : goal.invariant-loop-i
invariant-loop-i l = Filled (λ before j. xor (at l.back j) (carried l.t before j)) 16 l.initial.row l.i l.row
