-- `clmul::sixteen::fill_table` meets its contract. The loop's invariant: the first i columns hold the mixtures of the first i numbers. Rests on RowLaws.
use lib.ListN.{get_or}
use Rattle.clmul.proofs.Columns.{Columns}
use Rattle.clmul.proofs.RowLaws.{mixture}
use Rattle.clmul.proofs.sixteen.fill_table.Given as goal

abbrev pub invariant-loop-i : goal.invariant-loop-i
invariant-loop-i l = Columns 144 9 (mixture (λ k. get_or l.x k 0)) l.i l.t
