-- Blocks: what a pair of words stands for, sum, product, and the blocks of a byte list (document 01, "Field"; SP 800-38D, 6.3).
use Rattle.std.specs.Prelude.{List, ℕ, ◌+◌, ◌*◌, ◌/◌, ◌%◌, ◌^◌, ◌<◌}
use Rattle.field.specs.declared.blocks.Block.{Block}
use Rattle.clmul.specs.Xor.{xor}
use Rattle.field.specs.Elements.{times}
use Rattle.field.specs.Bytes.{number, bytes}

infixl 65 ◌⊕◌
infixl 70 ◌•◌
-- the 128 bits of a block as a number (document 01, "Field"): each word has 64 bits, the first word's to the left
unfoldable pub value : Block → ℕ
value b = b.hi % 2 ^ 64 * 2 ^ 64 + b.lo % 2 ^ 64

-- the block with these 128 bits (document 01, "Field")
unfoldable pub block : ℕ → Block
block v = record { hi = v / 2 ^ 64; lo = v % 2 ^ 64 }

-- both words are words of 64 bits, as those of every block that code holds; laws alone ask it, no standard
pub record Small (b : Block) : Type 0 where
  pub hi : b.hi < 2 ^ 64
  pub lo : b.lo < 2 ^ 64

-- addition is exclusive or (document 01, "Field")
unfoldable pub ◌⊕◌ : Block → Block → Block
◌⊕◌ a b = block (xor (value a) (value b))

-- the product modulo x^128 + x^7 + x^2 + x + 1 (SP 800-38D, 6.3, Algorithm 1)
unfoldable pub ◌•◌ : Block → Block → Block
◌•◌ a b = block (times (value a) (value b))

-- the block of zero bits, 0^128 (SP 800-38D, 4.2.2)
unfoldable pub zero_block : Block
zero_block = block 0

-- the field's one: byte 80 (hexadecimal) followed by fifteen zero bytes (document 01, "Field")
unfoldable pub one : Block
one = block (2 ^ 127)

-- block i of a byte list, counted from 0, the last one padded with zero bytes (document 01, "Sum, hash, tag")
unfoldable pub block_at : List ℕ → ℕ → Block
block_at s i = block (number s (16 * i) 16)

-- the sixteen bytes of a block (document 01, "Field")
unfoldable pub bytes_of : Block → List ℕ
bytes_of b = bytes 16 (value b)
