-- `clmul::sixteen::mixtures_at` meets its contract: a column of the table is read. Rests on RowLaws.
use Rattle.std.proofs.Common.{rules}
use Rattle.clmul.proofs.RowLaws.{table-read}
use Rattle.clmul.proofs.sixteen.mixtures_at.Goals as goal

pub returns : goal.returns
returns c y m = table-read y _ m c.requires _ c.from_fn.ensures.items.long (search rules)
