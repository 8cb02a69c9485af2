-- GHASH without its padded list: Y over A, on over C and over one block more, as code computes it that reads A and C where they
-- lie; and what that is for no C and for nothing. It rests on the laws of Y (`Horner`) and of a list's blocks (`BlockAt`).
use mathlib.Core.Path.{◌≡◌, sym, ap, ap₂, ◌∙◌}
use mathlib.Core.List.{List, [], ◌++◌, append_assoc}
use Prim.Native.Nat.{ℕ, ◌+◌, ◌-◌, ◌*◌, ◌/◌, ◌^◌, ◌≤◌, ◌<◌}
use native.Mathlib.Omega.{arith}
use lib.ListN.{length, length-append, length-replicate}
use lib.Arith.{digits_lt}
use Rattle.field.specs.declared.blocks.Block.{Block}
use Rattle.field.specs.Bytes.{bytes}
use Rattle.field.specs.Blocks.{◌⊕◌, ◌•◌, zero_block}
use Rattle.field.specs.Sums.{blocks, sum}
use Rattle.field.specs.Ghash.{Yᵢ, padded, ghash_input, length_block, ghash}
use Rattle.field.specs.Answers.{max_bytes}
use Rattle.field.proofs.Ring.{⊕-self, zero-•}
use Rattle.field.proofs.Bytes.{length-bytes, bytes-append}
use Rattle.field.proofs.BlockAt.{block_at-bytes}
use Rattle.field.proofs.BlockCounts.{le-blocks}
use Rattle.field.proofs.Horner.{Yᵢ-append, Yᵢ-padded, horner}
use Rattle.field.proofs.Sums.{sum_zeros}

-- a padded list is whole blocks
pub length-padded : (s : List ℕ) → length (padded s) ≡ 16 * blocks (length s)
unfolding padded
length-padded s = rw (length-append, length-replicate) (omega (arith, le-blocks (length s)))

-- padding changes no block
Yᵢ_whole : (h y : Block) (s : List ℕ) (i : ℕ) → Yᵢ h y (padded s) i ≡ Yᵢ h y s i
unfolding padded
Yᵢ_whole h y s i = Yᵢ-padded h y s (16 * blocks (length s) - length s) i

-- Y over both padded lists goes over the blocks of the first and then over those of the second
Yᵢ-both : (h : Block) (a c : List ℕ)
    → Yᵢ h zero_block (padded a ++ padded c) (blocks (length a) + blocks (length c)) ≡ Yᵢ h (Yᵢ h zero_block a (blocks (length a))) c (blocks (length c))
Yᵢ-both h a c =
    let m = blocks (length a) in
    let n = blocks (length c) in
    Yᵢ-append h zero_block (padded a) (padded c) m n (length-padded a)
    ∙ Yᵢ_whole h (Yᵢ h zero_block (padded a) m) c n
    ∙ ap (λ (y : Block). Yᵢ h y c n) (Yᵢ_whole h zero_block a m)

-- GHASH's input ends with the sixteen bytes of the two bit lengths
ghash_input-lengths : (a c : List ℕ) → length c ≤ max_bytes
    → ghash_input a c ≡ padded a ++ padded c ++ bytes 16 (8 * length a * 2 ^ 64 + 8 * length c)
unfolding ghash_input
ghash_input-lengths a c l =
    append_assoc (padded a ++ padded c) (bytes 8 (8 * length a)) (bytes 8 (8 * length c))
    ∙ ap (λ (t : List ℕ). padded a ++ padded c ++ t) (sym (bytes-append 8 8 (8 * length a) (8 * length c) (omega arith)))

-- GHASH is Y over A's blocks, on over C's blocks, and then over the block of the two bit lengths
pub ghash-Yᵢ : (h : Block) (a c : List ℕ) → length a ≤ max_bytes → length c ≤ max_bytes
    → ghash h a c ≡ (Yᵢ h (Yᵢ h zero_block a (blocks (length a))) c (blocks (length c)) ⊕ length_block (length a) (length c)) • h
unfolding ghash Yᵢ length_block
ghash-Yᵢ h a c la lc =
    let m = blocks (length a) in
    let n = blocks (length c) in
    let v = 8 * length a * 2 ^ 64 + 8 * length c in
    let z = padded a ++ padded c in
    let small : v < 2 ^ 128 = digits_lt {q = 8 * length a} {m = 2 ^ 64} (omega arith) (omega arith) in
    let whole : length z ≡ 16 * (m + n) = rw (length-append, length-padded a, length-padded c) (omega arith) in
    let count : length (z ++ bytes 16 v) / 16 ≡ m + n + 1 = rw (length-append, whole, length-bytes) (omega arith) in
    ap (λ (x : List ℕ). Yᵢ h zero_block x (length x / 16)) (ghash_input-lengths a c lc)
    ∙ ap (Yᵢ h zero_block (z ++ bytes 16 v)) count
    ∙ Yᵢ-append h zero_block z (bytes 16 v) (m + n) 1 whole
    ∙ ap₂ (λ (x y : Block). (x ⊕ y) • h) (Yᵢ-both h a c) (block_at-bytes v small)

-- so code gets it: y after A's blocks, z after C's, and r the last product
pub ghash-run : (h : Block) (a c : List ℕ) {y z r : Block} → length a ≤ max_bytes → length c ≤ max_bytes
    → y ≡ Yᵢ h zero_block a (blocks (length a)) → z ≡ Yᵢ h y c (blocks (length c)) → r ≡ (z ⊕ length_block (length a) (length c)) • h
    → r ≡ ghash h a c
ghash-run h a c {y} {z} {r} la lc ey ez er =
    er
    ∙ ap (λ (b : Block). (b ⊕ length_block (length a) (length c)) • h) (ez ∙ ap (λ (b : Block). Yᵢ h b c (blocks (length c))) ey)
    ∙ sym (ghash-Yᵢ h a c la lc)

-- with no C, it is the sum and the block of A's bit length, times H
pub ghash-empty : (h : Block) (a : List ℕ) → length a ≤ max_bytes → ghash h a [] ≡ (sum h a ⊕ length_block (length a) 0) • h
unfolding Yᵢ blocks
ghash-empty h a l =
    ghash-Yᵢ h a [] l (omega arith) ∙ ap (λ (x : Block). (x ⊕ length_block (length a) 0) • h) (horner h a)

-- of nothing it is nothing
pub ghash-nothing : (h : Block) → ghash h [] [] ≡ zero_block
unfolding zero_block length_block
ghash-nothing h =
    ghash-empty h [] (omega arith)
    ∙ ap (λ (x : Block). (x ⊕ zero_block) • h) (sum_zeros h 0)
    ∙ ap (λ (x : Block). x • h) (⊕-self zero_block)
    ∙ zero-• h
