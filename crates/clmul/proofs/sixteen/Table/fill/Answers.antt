-- `clmul::sixteen::Table::fill` meets its contract, by that of `fill_table`. Rests on RowLaws.
use mathlib.Core.Path.{sym, ◌∙◌}
use Rattle.clmul.proofs.RowLaws.{sixteen_at, shown, table_in, tabled_is, is-tabled}
use Rattle.clmul.proofs.sixteen.Table.fill.Goals as goal

pub invariant_of-self : goal.invariant_of-self
invariant_of-self c = is-tabled _ (table_in c.x.invariant c.fill_table.ensures) c.x.invariant.small

pub returns : goal.returns
returns c n l =
    sixteen_at _ l
    ∙ tabled_is _ (table_in c.x.invariant c.fill_table.ensures) c.x.invariant.small l
    ∙ sym (shown _ c.x.view_is l)
