-- Laws of a byte list's blocks: the blocks of a joined, a padded and an added list, that every block is small, and that a block's
-- bytes are read back as the block. They rest on the laws of numbers as bytes (`Bytes`, `XorBytes`) and of blocks (`Values`).
use mathlib.Core.Path.{◌≡◌, refl, sym, ap, ◌∙◌}
use mathlib.Core.List.{List, ◌++◌}
use Prim.Native.Nat.{ℕ, suc, ◌+◌, ◌*◌, ◌%◌, ◌^◌, ◌≤◌, ◌<◌}
use native.Mathlib.Nat.{mod-eq_of_lt}
use native.Mathlib.Omega.{arith}
use lib.ListN.{length, get_or, take, drop, replicate}
use lib.Seq.{take_all}
use Rattle.field.specs.declared.blocks.Block.{Block}
use Rattle.field.specs.Bytes.{number, bytes, xor_bytes}
use Rattle.field.specs.Blocks.{◌⊕◌, zero_block, Small, value, block, block_at, bytes_of}
use Rattle.field.proofs.Values.{value-lt, value-block, block-value, small-block}
use Rattle.field.proofs.Ring.{value-⊕, block-xor}
use Rattle.field.proofs.Bytes.{number_lt, number-append_left, number-append_right, number-drop, number_past, number-padded, number-zeros}
use Rattle.field.proofs.Bytes.{number_same, number-bytes, bytes-number, length-bytes}
use Rattle.field.proofs.XorBytes.{number-xor, bytes-xor}

-- ---- the blocks of a list

-- every block of a list is of two words, whatever the list's elements are
pub small-block_at : (s : List ℕ) (i : ℕ) → Small (block_at s i)
unfolding block_at
small-block_at s i = small-block (number s (16 * i) 16) (number_lt s (16 * i) 16)

-- a block that lies in the first of two joined lists
pub block_at-append_left : (s t : List ℕ) (i : ℕ) → 16 * suc i ≤ length s → block_at (s ++ t) i ≡ block_at s i
unfolding block_at
block_at-append_left s t i h = ap block (number-append_left s t (16 * i) 16 (omega arith))

-- a block of the second of two joined lists, where the first ends with a block
pub block_at-append_right : (s t : List ℕ) (j i : ℕ) → length s ≡ 16 * j → block_at (s ++ t) (j + i) ≡ block_at t i
unfolding block_at
block_at-append_right s t j i e =
    let at : 16 * (j + i) ≡ length s + 16 * i = omega arith in
    ap block (ap (λ (x : ℕ). number (s ++ t) x 16) at ∙ number-append_right s t (16 * i) 16)

-- a block of what is left of a list without its first j blocks
pub block_at-drop : (s : List ℕ) (j i : ℕ) → block_at (drop (16 * j) s) i ≡ block_at s (j + i)
unfolding block_at
block_at-drop s j i =
    let at : 16 * j + 16 * i ≡ 16 * (j + i) = omega arith in
    ap block (number-drop s (16 * j) (16 * i) 16 ∙ ap (λ (x : ℕ). number s x 16) at)

-- zero bytes behind a list change no block of it
pub block_at-padded : (s : List ℕ) (r i : ℕ) → block_at (s ++ replicate r 0) i ≡ block_at s i
unfolding block_at
block_at-padded s r i = ap block (number-padded s r (16 * i) 16)

-- past the end of a list there are zero blocks
pub block_at-past : (s : List ℕ) (i : ℕ) → length s ≤ 16 * i → block_at s i ≡ zero_block
unfolding block_at zero_block
block_at-past s i h = ap block (number_past s (16 * i) 16 h)

pub block_at-zeros : (r i : ℕ) → block_at (replicate r 0) i ≡ zero_block
unfolding block_at zero_block
block_at-zeros r i = ap block (number-zeros r (16 * i) 16)

-- one block is of the same bytes, each by its eight bits
pub block_at_same : (s t : List ℕ) (i j : ℕ) → block_at s i ≡ block_at t i → j < 16 → get_or s (16 * i + j) 0 % 256 ≡ get_or t (16 * i + j) 0 % 256
unfolding block_at
block_at_same s t i j e =
    number_same s t (16 * i) 16
    (sym (value-block _ (number_lt s (16 * i) 16)) ∙ ap value e ∙ value-block _ (number_lt t (16 * i) 16)) j

-- the block of a sum is the sum of the blocks
pub block_at-xor : (s t : List ℕ) (i : ℕ) → block_at (xor_bytes s t) i ≡ block_at s i ⊕ block_at t i
unfolding block_at
block_at-xor s t i =
    ap block (number-xor s t (16 * i) 16) ∙ block-xor _ _ (number_lt s (16 * i) 16) (number_lt t (16 * i) 16)

-- ---- sixteen bytes

pub length-block_bytes : (b : Block) → length (bytes_of b) ≡ 16
unfolding bytes_of
length-block_bytes b = length-bytes 16 (value b)

-- they are those of its number
pub bytes_of-value : (b : Block) → bytes_of b ≡ bytes 16 (value b)
unfolding bytes_of
bytes_of-value b = refl

-- the bytes of a sum are the sum of the bytes
pub bytes_of-⊕ : (a b : Block) → bytes_of (a ⊕ b) ≡ xor_bytes (bytes_of a) (bytes_of b)
unfolding bytes_of
bytes_of-⊕ a b = ap (bytes 16) (value-⊕ a b) ∙ bytes-xor 16 (value a) (value b)

-- sixteen bytes written are read as the number's block
pub block_at-bytes : (v : ℕ) → v < 2 ^ 128 → block_at (bytes 16 v) 0 ≡ block v
unfolding block_at
block_at-bytes v h = ap block (number-bytes 16 v ∙ mod-eq_of_lt h)

pub block_at-bytes_of : (b : Block) → Small b → block_at (bytes_of b) 0 ≡ b
unfolding bytes_of
block_at-bytes_of b h = block_at-bytes (value b) (value-lt b) ∙ block-value b h

-- and a block that was read is written back as the bytes that stand there, where each is a byte
pub bytes_of-block_at : (s : List ℕ) (i : ℕ) → ((j : ℕ) → j < length s → get_or s j 0 < 256) → 16 * i + 16 ≤ length s
    → bytes_of (block_at s i) ≡ take 16 (drop (16 * i) s)
unfolding block_at bytes_of
bytes_of-block_at s i small h =
    ap (bytes 16) (value-block _ (number_lt s (16 * i) 16)) ∙ bytes-number s (16 * i) 16 small h

-- so sixteen bytes are those of the block that was read there
pub bytes_of_whole : (s : List ℕ) {b : Block} → length s ≡ 16 → ((j : ℕ) → j < length s → get_or s j 0 < 256) → b ≡ block_at s 0 → bytes_of b ≡ s
bytes_of_whole s l small e = ap bytes_of e ∙ bytes_of-block_at s 0 small (omega arith) ∙ take_all 16 s (omega arith)
