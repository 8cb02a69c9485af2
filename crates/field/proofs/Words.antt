-- Blocks as code works on them, word by word: the sum of two blocks.
-- Rests on the laws of blocks (`Values`) and of exclusive or.
use mathlib.Core.Path.{◌≡◌, sym, ap, ap₂, ◌∙◌}
use lib.Bits.{bit_xor}
use Rattle.field.specs.declared.blocks.Block.{Block}
use Rattle.clmul.specs.Xor.{xor}
use Rattle.clmul.proofs.Xor.{xor_lt, xor-split}
use Rattle.field.specs.Blocks.{◌⊕◌, Small, block}
use Rattle.field.proofs.Values.{words, block_words, value-small}

-- the sum of two blocks, word by word
pub ⊕-words : (a b : Block) → Small a → Small b → words (bit_xor a.hi b.hi) (bit_xor a.lo b.lo) ≡ a ⊕ b
unfolding ◌⊕◌ xor
⊕-words a b p q =
    block_words (xor a.hi b.hi) (xor a.lo b.lo) (xor_lt 64 a.lo b.lo p.lo q.lo)
    ∙ ap block (sym (ap₂ xor (value-small a p) (value-small b q) ∙ xor-split 64 a.hi b.hi a.lo b.lo p.lo q.lo))
