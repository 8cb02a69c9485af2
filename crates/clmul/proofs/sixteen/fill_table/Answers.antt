-- `clmul::sixteen::fill_table` meets its contract. The loop's invariant: the first i columns hold the mixtures of the first i numbers. Rests on RowLaws.
use mathlib.Core.Path.{◌∙◌}
use native.Mathlib.Omega.{arith}
use lib.ListN.{length-set}
use Rattle.clmul.proofs.Columns.{columns_start}
use Rattle.clmul.proofs.RowLaws.{table_next, table_done}
use Rattle.clmul.proofs.sixteen.fill_table.Goals as goal

pub loop-i-init : goal.loop-i-init
loop-i-init c = columns_start 144 9 _ _ (length-set _ _ _ ∙ length-set _ _ _ ∙ c.told-t)

pub loop-i-preserved : goal.loop-i-preserved
loop-i-preserved c = rw c.write_column.ensures (table_next _ _ c.loop-i.invariant (omega arith) c.mixed.ensures)

pub returns : goal.returns
returns c = table_done c.loop-i.invariant (omega arith)
