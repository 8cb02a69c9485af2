-- `planes::packing::packed` meets its contract: four gathered words, each taken twice, show the block. Rests on ByteWords.
use Rattle.std.proofs.Common.{rules}
use Rattle.planes.proofs.ByteWords.{shows-block}
use Rattle.planes.proofs.packing.packed.Goals as goal

pub returns : goal.returns
returns c = shows-block c.args.s _ _ c.turned.ensures (λ k h. let word = c.from_fn.ensures k h in search rules)
