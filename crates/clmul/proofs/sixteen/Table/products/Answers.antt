-- `clmul::sixteen::Table::products` meets its contract, by that of `sum_of_products`. Rests on RowLaws.
use Rattle.clmul.proofs.RowLaws.{shown_total}
use Rattle.clmul.proofs.sixteen.Table.products.Goals as goal

pub returns : goal.returns
returns c = shown_total c.x.invariant c.x.view_is c.self.invariant c.self.view_is c.sum_of_products.ensures
