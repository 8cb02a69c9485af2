-- The running sum S of a file (document 01, "Sum, hash, tag").
use Rattle.std.specs.Prelude.{List, ℕ, zero, suc, ◌+◌, ◌-◌, ◌/◌, length}
use Rattle.field.specs.declared.blocks.Block.{Block}
use Rattle.field.specs.Blocks.{◌⊕◌, ◌•◌, zero_block, block_at}
use Rattle.field.specs.Powers.{power}

-- Blocks(n): n / 16 rounded up (document 01, "Sum, hash, tag")
unfoldable pub blocks : ℕ → ℕ
blocks n = (n + 15) / 16

-- of the sum S over m blocks, the first i terms (document 01, "Sum, hash, tag")
unfoldable pub terms : Block → List ℕ → ℕ → ℕ → Block
terms h s m zero = zero_block
terms h s m (suc i) = terms h s m i ⊕ block_at s i • power h (m - i)

-- S: the sum of block i times H^(m − i), over all m blocks; S of nothing is 0 (document 01, "Sum, hash, tag")
unfoldable pub sum : Block → List ℕ → Block
sum h s = terms h s (blocks (length s)) (blocks (length s))
