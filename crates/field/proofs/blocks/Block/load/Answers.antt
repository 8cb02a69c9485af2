-- `field::blocks::Block::load` meets its contract. A list's block is the two words that are read, and nothing past the list's end
-- (`Packed`).
use native.Mathlib.Omega.{arith}
use Rattle.field.proofs.Packed.{block_at-words, block_at-inside, block_at-outside}
use Rattle.field.proofs.blocks.Block.load.Goals as goal

pub returns-then-s-at : goal.returns-then-s-at
returns-then-s-at c = block_at-outside _ _ _ c.if-lead-from.true c.if-s-at.true

pub returns-then-s-at-ge16 : goal.returns-then-s-at-ge16
returns-then-s-at-ge16 c = block_at-inside _ _ _ (omega arith) c.word_at-hi.ensures c.word_at-lo.ensures

pub returns : goal.returns
returns c = block_at-words _ _ _ _ c.number_at-hi.ensures c.number_at-lo.ensures
