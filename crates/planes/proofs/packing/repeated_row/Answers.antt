-- `planes::packing::repeated_row` meets its contract: planes filled from one gathered word show the row. Rests on ByteWords.
use Rattle.std.proofs.Common.{rules}
use Rattle.planes.proofs.ByteWords.{shows-repeated}
use Rattle.planes.proofs.packing.repeated_row.Goals as goal

pub returns : goal.returns
returns c = shows-repeated c.args.s _ _ _ c.gathered-n.ensures (λ j h. let plane = c.from_fn.ensures j h in search rules)
