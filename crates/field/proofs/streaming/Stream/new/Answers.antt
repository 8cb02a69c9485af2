-- `field::streaming::Stream::new` meets its contract. The zero block is the sum of nothing (`Stream`).
use Rattle.field.specs.Blocks.{zero_block, block}
use Rattle.field.proofs.Stream.{streamed_start}
use Rattle.field.proofs.streaming.Stream.new.Goals as goal

pub returns : goal.returns
unfolding zero_block block
returns c = streamed_start _
