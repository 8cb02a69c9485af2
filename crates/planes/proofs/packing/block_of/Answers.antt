-- `planes::packing::block_of` meets its contract: the bytes are those of the rows' words. Rests on Tables.
use Rattle.std.proofs.Common.{rules}
use Rattle.planes.specs.Lanes.{byte_of}
use Rattle.planes.proofs.FromFn.{tab_made}
use Rattle.planes.proofs.packing.block_of.Goals as goal

pub returns : goal.returns
unfolding byte_of
returns c = tab_made _ _ _ (λ i y f' k. search rules) 16 0 _ c.from_fn.ensures.items
