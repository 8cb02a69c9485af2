-- Blocks and their numbers: the block with two words, `value` and `block` undo each other, and what is small.
-- Rests on lib.Pow's digits.
use mathlib.Core.Path.{◌≡◌, sym, ap, ap₂, ◌∙◌}
use Prim.Native.Nat.{ℕ, ◌+◌, ◌*◌, ◌^◌, ◌<◌}
use native.Mathlib.Nat.{mod-lt, mod-mod, mod-eq_of_lt}
use lib.Arith.{digits_lt}
use lib.Pow.{pow_pos, shr_lt, high, low, recompose}
use lib.Dec.{lit<}
use Rattle.field.specs.declared.blocks.Block.{Block}
use Rattle.field.specs.Blocks.{value, block, Small, zero_block, one}

-- the block with these words
abbrev pub words : ℕ → ℕ → Block
words h l = record { hi = h; lo = l }

-- the words are the digits of the block's number
pub block_words : (h l : ℕ) → l < 2 ^ 64 → words h l ≡ block (h * 2 ^ 64 + l)
unfolding block
block_words h l p = sym (ap₂ words (high h 64 p) (low h 64 p))

pub value-lt : (b : Block) → value b < 2 ^ 128
unfolding value
value-lt b = digits_lt (mod-lt b.hi (pow_pos 64)) (mod-lt b.lo (pow_pos 64))

-- `value` undoes `block` below 2 ^ 128, and `block` undoes `value` where the words are small

pub value-block : (v : ℕ) → v < 2 ^ 128 → value (block v) ≡ v
unfolding value block
value-block v h = rw mod-mod (recompose 64 64 h)

-- the number of two small words
pub value-small : (b : Block) → Small b → value b ≡ b.hi * 2 ^ 64 + b.lo
unfolding value
value-small b s = ap₂ (λ (x y : ℕ). x * 2 ^ 64 + y) (mod-eq_of_lt s.hi) (mod-eq_of_lt s.lo)

pub block-value : (b : Block) → Small b → block (value b) ≡ b
block-value b s = ap block (value-small b s) ∙ sym (block_words b.hi b.lo s.lo)

pub small-block : (v : ℕ) → v < 2 ^ 128 → Small (block v)
unfolding block
small-block v h = record { hi = shr_lt 64 64 h; lo = mod-lt v (pow_pos 64) }

pub small-zero : Small zero_block
unfolding zero_block
small-zero = small-block 0 (pow_pos 128)

pub small_one : Small one
unfolding one
small_one = small-block (2 ^ 127) (lit< tt)

pub value-zero : value zero_block ≡ 0
unfolding zero_block
value-zero = value-block 0 (pow_pos 128)

-- the zero block's words, as code writes them
pub zero-words : words 0 0 ≡ zero_block
zero-words = block_words 0 0 (pow_pos 64) ∙ ap block (sym value-zero) ∙ block-value zero_block small-zero

pub value-one : value one ≡ 2 ^ 127
unfolding one
value-one = value-block (2 ^ 127) (lit< tt)
