-- `field::blocks::Block::from_words` meets its contract. A block is its two words (`Values`).
use Rattle.field.proofs.Values.{block_words}
use Rattle.field.proofs.blocks.Block.from_words.Goals as goal

pub returns : goal.returns
returns c = block_words _ _ c.ranges.lo.fits
