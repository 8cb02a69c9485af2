-- `clmul::sixteen::Table::new` meets its contract. Rests on RowLaws.
use mathlib.Core.Path.{◌∙◌}
use Rattle.clmul.proofs.RowLaws.{sixteen_at, zeros, small_zeros, tabled_is, is-tabled}
use Rattle.clmul.proofs.sixteen.Table.new.Goals as goal

pub invariant_of-result : goal.invariant_of-result
invariant_of-result c = is-tabled _ zeros small_zeros

pub returns : goal.returns
returns c n l = sixteen_at _ l ∙ tabled_is _ zeros small_zeros l
