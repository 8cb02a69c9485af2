-- GHASH (NIST SP 800-38D, section 6.4, Algorithm 2) and the input that GCM gives it (section 7.1, step 5).
use Rattle.std.specs.Prelude.{List, ◌++◌, ℕ, zero, suc, ◌+◌, ◌-◌, ◌*◌, ◌/◌, ◌^◌, length, replicate}
use Rattle.field.specs.declared.blocks.Block.{Block}
use Rattle.field.specs.Bytes.{bytes}
use Rattle.field.specs.Blocks.{◌⊕◌, ◌•◌, zero_block, block, block_at}
use Rattle.field.specs.Sums.{blocks}

-- Y_i from a start Y_0 (6.4, steps 2 and 3): Y_(i+1) = (Y_i + X_(i+1)) • H. The standard numbers the blocks from 1, this list from
-- 0.
unfoldable pub Yᵢ : Block → Block → List ℕ → ℕ → Block
Yᵢ h y x zero = y
Yᵢ h y x (suc i) = (Yᵢ h y x i ⊕ block_at x i) • h

-- a byte list padded to whole blocks with zero bytes (7.1, steps 4 and 5)
unfoldable pub padded : List ℕ → List ℕ
padded s = s ++ replicate (16 * blocks (length s) - length s) 0

-- A padded, C padded, and their bit lengths in 64 bits each (7.1, step 5)
unfoldable pub ghash_input : List ℕ → List ℕ → List ℕ
ghash_input a c = padded a ++ padded c ++ bytes 8 (8 * length a) ++ bytes 8 (8 * length c)

-- the block with which every such input ends: the bit lengths of m and of n bytes in 64 bits each, [len(A)]64 || [len(C)]64 (7.1,
-- step 5; document 01, "Sum, hash, tag": L is the one of n bytes and none)
unfoldable pub length_block : (m n : ℕ) → Block
length_block m n = block (8 * m * 2 ^ 64 + 8 * n)

-- GHASH(H, A, C): Y of all the blocks, from Y_0 = 0 (6.4, step 4; document 01, "Sum, hash, tag")
unfoldable pub ghash : Block → List ℕ → List ℕ → Block
ghash h a c = Yᵢ h zero_block (ghash_input a c) (length (ghash_input a c) / 16)
