-- Y, by which GHASH and code go over a list's blocks, from any start: over joined and padded lists, past a list's end, of added
-- lists; and Horner's rule, by which Y of all the blocks from nothing is document 01's sum (`horner`).
-- They rest on the laws of the field (`Ring`) and of a list's blocks (`BlockAt`).
use mathlib.Core.Path.{◌≡◌, refl, sym, ap, ap₂, ◌∙◌}
use mathlib.Core.List.{List, ◌++◌}
use Prim.Native.Nat.{ℕ, zero, suc, ◌+◌, ◌-◌, ◌*◌, ◌≤◌, ◌<◌}
use native.Mathlib.Nat.{le_refl, le_step, le_of_lt, add-zero, add-suc}
use native.Mathlib.Omega.{arith}
use lib.ListN.{length, drop, replicate, length-append, length-drop}
use Rattle.field.specs.declared.blocks.Block.{Block}
use Rattle.field.specs.Bytes.{xor_bytes}
use Rattle.field.specs.Blocks.{◌⊕◌, ◌•◌, zero_block, one, Small, block_at}
use Rattle.field.specs.Powers.{power}
use Rattle.field.specs.Sums.{blocks, terms, sum}
use Rattle.field.specs.Ghash.{Yᵢ}
use Rattle.field.proofs.Values.{small-zero}
use Rattle.field.proofs.Ring.{⊕-assoc, ⊕-swap, ⊕-self, ⊕-zero, zero-⊕, •-assoc, ⊕-•, zero-•, •-one, small-⊕, small-•}
use Rattle.field.proofs.BlockAt.{small-block_at, block_at-append_left, block_at-append_right, block_at-drop, block_at-padded, block_at-past}
use Rattle.field.proofs.BlockAt.{block_at-zeros, block_at-xor}
use Rattle.field.proofs.BlockCounts.{blocks_whole, blocks-times}

-- ---- Y from any start

pub small-Yᵢ : (h y : Block) (s : List ℕ) (i : ℕ) → Small y → Small (Yᵢ h y s i)
unfolding Yᵢ
small-Yᵢ h y s zero k = k
small-Yᵢ h y s (suc i) k = small-• (Yᵢ h y s i ⊕ block_at s i) h

-- Y rests on the start and on the blocks that are read
pub Yᵢ_cong : (h y : Block) (s t : List ℕ) (i : ℕ) → ((n : ℕ) → n < i → block_at s n ≡ block_at t n) → Yᵢ h y s i ≡ Yᵢ h y t i
unfolding Yᵢ
Yᵢ_cong h y s t zero f = refl
Yᵢ_cong h y s t (suc i) f =
    ap₂ (λ (a b : Block). (a ⊕ b) • h) (Yᵢ_cong h y s t i (λ n l. f n (le_step l))) (f i (le_refl (suc i)))

-- Y over two joined lists, the first of j whole blocks, goes on over the second from where the first left it
pub Yᵢ-append : (h y : Block) (s t : List ℕ) (j i : ℕ) → length s ≡ 16 * j → Yᵢ h y (s ++ t) (j + i) ≡ Yᵢ h (Yᵢ h y s j) t i
unfolding Yᵢ
Yᵢ-append h y s t j zero e =
    ap (Yᵢ h y (s ++ t)) (add-zero j) ∙ Yᵢ_cong h y (s ++ t) s j (λ n l. block_at-append_left s t n (omega arith))
Yᵢ-append h y s t j (suc i) e =
    ap (Yᵢ h y (s ++ t)) (add-suc j i)
    ∙ ap₂ (λ (a b : Block). (a ⊕ b) • h) (Yᵢ-append h y s t j i e) (block_at-append_right s t j i e)

-- the same with every block of each list
pub Yᵢ-append-all : (h y : Block) (s t : List ℕ) (j : ℕ) → length s ≡ 16 * j
    → Yᵢ h y (s ++ t) (blocks (length (s ++ t))) ≡ Yᵢ h (Yᵢ h y s (blocks (length s))) t (blocks (length t))
Yᵢ-append-all h y s t j e =
    let all : blocks (length (s ++ t)) ≡ j + blocks (length t) = rw (length-append, e) (blocks_whole j (length t)) in
    let front : j ≡ blocks (length s) = rw e (sym (blocks-times j)) in
    ap (Yᵢ h y (s ++ t)) all
    ∙ Yᵢ-append h y s t j (blocks (length t)) e
    ∙ ap (λ (n : ℕ). Yᵢ h (Yᵢ h y s n) t (blocks (length t))) front

-- the same over one list: past its first j blocks, it goes on over what is left of the list
pub Yᵢ-drop : (h y : Block) (s : List ℕ) (j i : ℕ) → Yᵢ h y s (j + i) ≡ Yᵢ h (Yᵢ h y s j) (drop (16 * j) s) i
unfolding Yᵢ
Yᵢ-drop h y s j zero = ap (Yᵢ h y s) (add-zero j)
Yᵢ-drop h y s j (suc i) =
    ap (Yᵢ h y s) (add-suc j i) ∙ ap₂ (λ (a b : Block). (a ⊕ b) • h) (Yᵢ-drop h y s j i) (sym (block_at-drop s j i))

-- and with every block
pub Yᵢ-drop-all : (h y : Block) (s : List ℕ) (j : ℕ) → 16 * j ≤ length s
    → Yᵢ h (Yᵢ h y s j) (drop (16 * j) s) (blocks (length (drop (16 * j) s))) ≡ Yᵢ h y s (blocks (length s))
Yᵢ-drop-all h y s j l =
    let r = length (drop (16 * j) s) in
    let all : 16 * j + r ≡ length s = omega (arith, length-drop (16 * j) s) in
    sym (Yᵢ-drop h y s j (blocks r)) ∙ ap (Yᵢ h y s) (sym (blocks_whole j r) ∙ ap blocks all)

-- zero bytes behind a list change no block
pub Yᵢ-padded : (h y : Block) (s : List ℕ) (r i : ℕ) → Yᵢ h y (s ++ replicate r 0) i ≡ Yᵢ h y s i
Yᵢ-padded h y s r i = Yᵢ_cong h y (s ++ replicate r 0) s i (λ n l. block_at-padded s r n)

-- d blocks past the end of a list each multiply by H
pub Yᵢ-past : (h y : Block) (s : List ℕ) (m d : ℕ) → Small y → length s ≤ 16 * m → Yᵢ h y s (m + d) ≡ Yᵢ h y s m • power h d
unfolding Yᵢ power
Yᵢ-past h y s m zero k l = ap (Yᵢ h y s) (add-zero m) ∙ sym (•-one (Yᵢ h y s m) (small-Yᵢ h y s m k))
Yᵢ-past h y s m (suc d) k l =
    ap (Yᵢ h y s) (add-suc m d)
    ∙ ap (λ (b : Block). (Yᵢ h y s (m + d) ⊕ b) • h) (block_at-past s (m + d) (omega arith))
    ∙ ap (λ (a : Block). a • h) (⊕-zero (Yᵢ h y s (m + d)) (small-Yᵢ h y s (m + d) k) ∙ Yᵢ-past h y s m d k l)
    ∙ •-assoc (Yᵢ h y s m) (power h d) h

-- Y of nothing but zero bytes, from nothing, is nothing
pub Yᵢ-zeros : (h : Block) (r i : ℕ) → Yᵢ h zero_block (replicate r 0) i ≡ zero_block
unfolding Yᵢ
Yᵢ-zeros h r zero = refl
Yᵢ-zeros h r (suc i) =
    ap₂ (λ (a b : Block). (a ⊕ b) • h) (Yᵢ-zeros h r i) (block_at-zeros r i)
    ∙ ap (λ (a : Block). a • h) (⊕-self zero_block)
    ∙ zero-• h

-- Y is linear, in the start and the list together
pub Yᵢ_linear : (h y z : Block) (s t : List ℕ) (i : ℕ) → Yᵢ h (y ⊕ z) (xor_bytes s t) i ≡ Yᵢ h y s i ⊕ Yᵢ h z t i
unfolding Yᵢ
Yᵢ_linear h y z s t zero = refl
Yᵢ_linear h y z s t (suc i) =
    ap₂ (λ (a b : Block). (a ⊕ b) • h) (Yᵢ_linear h y z s t i) (block_at-xor s t i)
    ∙ ap (λ (a : Block). a • h) (⊕-swap (Yᵢ h y s i) (Yᵢ h z t i) (block_at s i) (block_at t i))
    ∙ ⊕-• (Yᵢ h y s i ⊕ block_at s i) (Yᵢ h z t i ⊕ block_at t i) h

-- Y from nothing is a multiple of H
pub Yᵢ-multiple : (h : Block) (s : List ℕ) (i : ℕ) → (x : Block) × Small x × (Yᵢ h zero_block s i ≡ x • h)
unfolding Yᵢ
Yᵢ-multiple h s zero = (zero_block, small-zero, sym (zero-• h))
Yᵢ-multiple h s (suc i) = (Yᵢ h zero_block s i ⊕ block_at s i, small-⊕ (Yᵢ h zero_block s i) (block_at s i), refl)

-- ---- Horner's rule

pub small-terms : (h : Block) (s : List ℕ) (m i : ℕ) → Small (terms h s m i)
unfolding terms
small-terms h s m zero = small-zero
small-terms h s m (suc i) = small-⊕ _ _

-- one power of H more in every term
terms-suc : (h : Block) (s : List ℕ) (m i : ℕ) → i ≤ m → terms h s (suc m) i ≡ terms h s m i • h
unfolding terms power
terms-suc h s m zero l = sym (zero-• h)
terms-suc h s m (suc i) l =
    let e : suc m - i ≡ suc (m - i) = omega arith in
    ap₂ (λ (a : Block) (x : ℕ). a ⊕ block_at s i • power h x) (terms-suc h s m i (le_of_lt l)) e
    ∙ ap (λ (a : Block). terms h s m i • h ⊕ a) (sym (•-assoc (block_at s i) (power h (m - i)) h))
    ∙ sym (⊕-• (terms h s m i) (block_at s i • power h (m - i)) h)

-- the last block is taken times H
last_term : (h : Block) (s : List ℕ) (i : ℕ) → block_at s i • power h (suc i - i) ≡ block_at s i • h
unfolding power
last_term h s i =
    let e : suc i - i ≡ 1 = omega arith in
    ap (λ (x : ℕ). block_at s i • power h x) e
    ∙ sym (•-assoc (block_at s i) one h)
    ∙ ap (λ (a : Block). a • h) (•-one (block_at s i) (small-block_at s i))

-- Y after i blocks is the start times H^i and each block times its power
pub Yᵢ-terms : (h y : Block) (s : List ℕ) (i : ℕ) → Small y → Yᵢ h y s i ≡ y • power h i ⊕ terms h s i i
unfolding Yᵢ terms power
Yᵢ-terms h y s zero k = sym (⊕-zero (y • one) (small-• y one) ∙ •-one y k)
Yᵢ-terms h y s (suc i) k =
    let b = block_at s i in
    let p = power h i in
    let rest = terms h s i i in
    ap (λ (a : Block). (a ⊕ b) • h) (Yᵢ-terms h y s i k)
    ∙ ap (λ (a : Block). a • h) (⊕-assoc (y • p) rest b)
    ∙ ⊕-• (y • p) (rest ⊕ b) h
    ∙ ap₂ ◌⊕◌ (•-assoc y p h) (⊕-• rest b h ∙ sym (ap₂ ◌⊕◌ (terms-suc h s i i (le_refl i)) (last_term h s i)))

-- the sum is Y of all the blocks, from nothing
pub horner : (h : Block) (s : List ℕ) → Yᵢ h zero_block s (blocks (length s)) ≡ sum h s
unfolding sum
horner h s =
    let m = blocks (length s) in
    Yᵢ-terms h zero_block s m small-zero
    ∙ ap (λ (a : Block). a ⊕ terms h s m m) (zero-• (power h m))
    ∙ zero-⊕ (terms h s m m) (small-terms h s m m)
