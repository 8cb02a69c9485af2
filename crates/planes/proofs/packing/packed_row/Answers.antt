-- `planes::packing::packed_row` meets its contract: eight gathered words show the row. Rests on ByteWords.
use Rattle.std.proofs.Common.{rules}
use Rattle.planes.proofs.ByteWords.{shows-row}
use Rattle.planes.proofs.packing.packed_row.Goals as goal

pub returns : goal.returns
returns c = shows-row c.args.s.now _ _ _ c.turned.ensures (λ k h. let word = c.from_fn.ensures k h in search rules)
