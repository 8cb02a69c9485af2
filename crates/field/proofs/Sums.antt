-- The laws of the sum that carry every edit: it is linear, zero bytes in front of a list leave it as it is, zero bytes behind
-- multiply it by a power of H, and it is a multiple of H, so that H's companion divides it. Each follows from the same of Y
-- (`Horner`).
use mathlib.Core.Path.{◌≡◌, sym, ap, ap₂, ◌∙◌}
use mathlib.Core.List.{List, ◌++◌, append_assoc}
use Prim.Native.Nat.{ℕ, ◌+◌, ◌-◌, ◌*◌}
use native.Mathlib.Nat.{le-add_right, add-sub_of_le}
use lib.ListN.{length, replicate, length-append, length-replicate, replicate-append-replicate}
use Rattle.field.specs.declared.blocks.Block.{Block}
use Rattle.field.specs.Bytes.{xor_bytes}
use Rattle.field.specs.Blocks.{◌⊕◌, ◌•◌, zero_block, Small}
use Rattle.field.specs.Powers.{power, companion}
use Rattle.field.specs.Sums.{blocks, sum}
use Rattle.field.specs.Ghash.{Yᵢ}
use Rattle.field.proofs.Values.{small-zero}
use Rattle.field.proofs.Ring.{⊕-self, •-assoc}
use Rattle.field.proofs.Frobenius.{companion-power}
use Rattle.field.proofs.XorBytes.{length-xor}
use Rattle.field.proofs.BlockCounts.{le-blocks, blocks-mono}
use Rattle.field.proofs.Horner.{Yᵢ-append-all, Yᵢ-padded, Yᵢ-past, Yᵢ-zeros, Yᵢ_linear, Yᵢ-multiple}
use Rattle.field.proofs.Horner.{small-terms, Yᵢ-terms, horner}

pub small-sum : (h : Block) (s : List ℕ) → Small (sum h s)
unfolding sum
small-sum h s = small-terms h s (blocks (length s)) (blocks (length s))

-- *linear*: the sum of two lists of one length, added byte by byte, is the sum of their sums
pub sum_linear : (h : Block) (s t : List ℕ) → length s ≡ length t → sum h (xor_bytes s t) ≡ sum h s ⊕ sum h t
sum_linear h s t e =
    sym (horner h (xor_bytes s t))
    ∙ ap₂ (λ (y : Block) (n : ℕ). Yᵢ h y (xor_bytes s t) (blocks n)) (sym (⊕-self zero_block)) (length-xor s t e)
    ∙ Yᵢ_linear h zero_block zero_block s t (blocks (length s))
    ∙ ap₂ ◌⊕◌ (horner h s) (ap (λ (n : ℕ). Yᵢ h zero_block t (blocks n)) e ∙ horner h t)

-- *trailing zeros*: zero bytes behind a list multiply its sum by H once for each block that they add
pub sum_trailing : (h : Block) (s : List ℕ) (r : ℕ)
    → sum h (s ++ replicate r 0) ≡ sum h s • power h (blocks (length s + r) - blocks (length s))
sum_trailing h s r =
    let m = blocks (length s) in
    let n = blocks (length s + r) in
    let l : length (s ++ replicate r 0) ≡ length s + r = rw (length-append, length-replicate) in
    sym (horner h (s ++ replicate r 0))
    ∙ ap (λ (x : ℕ). Yᵢ h zero_block (s ++ replicate r 0) (blocks x)) l
    ∙ Yᵢ-padded h zero_block s r n
    ∙ ap (Yᵢ h zero_block s) (sym (add-sub_of_le (blocks-mono (le-add_right (length s) r))))
    ∙ Yᵢ-past h zero_block s m (n - m) small-zero (le-blocks (length s))
    ∙ ap (λ (a : Block). a • power h (n - m)) (horner h s)

-- whole blocks and what follows them: the sum goes on from the sum of those blocks
pub sum-append : (h : Block) (s t : List ℕ) (j : ℕ) → length s ≡ 16 * j → sum h (s ++ t) ≡ Yᵢ h (sum h s) t (blocks (length t))
sum-append h s t j e =
    sym (horner h (s ++ t)) ∙ Yᵢ-append-all h zero_block s t j e ∙ ap (λ (y : Block). Yᵢ h y t (blocks (length t))) (horner h s)

-- so the first blocks' sum is multiplied by a power, and the sum of what follows is added
pub sum-append-power : (h : Block) (s t : List ℕ) (j : ℕ) → length s ≡ 16 * j
    → sum h (s ++ t) ≡ sum h s • power h (blocks (length t)) ⊕ sum h t
unfolding sum
sum-append-power h s t j e = sum-append h s t j e ∙ Yᵢ-terms h (sum h s) t (blocks (length t)) (small-sum h s)

-- zero bytes alone give nothing, and so does the empty list (n = 0)
pub sum_zeros : (h : Block) (n : ℕ) → sum h (replicate n 0) ≡ zero_block
sum_zeros h n = sym (horner h (replicate n 0)) ∙ Yᵢ-zeros h n (blocks (length {A = ℕ} (replicate n 0)))

-- *leading zeros*: zero blocks in front of a list leave its sum as it is
pub sum-leading : (h : Block) (j : ℕ) (s : List ℕ) → sum h (replicate (16 * j) 0 ++ s) ≡ sum h s
sum-leading h j s =
    let z : List ℕ = replicate (16 * j) 0 in
    sum-append h z s j (length-replicate (16 * j) 0)
    ∙ ap (λ (y : Block). Yᵢ h y s (blocks (length s))) (sum_zeros h (16 * j))
    ∙ horner h s

-- so of the zero bytes in front only those that fill no block count
pub sum-lead : (h : Block) (j l : ℕ) (s : List ℕ) → sum h (replicate (16 * j + l) 0 ++ s) ≡ sum h (replicate l 0 ++ s)
sum-lead h j l s =
    ap (λ (z : List ℕ). sum h (z ++ s)) (sym (replicate-append-replicate (16 * j) l 0))
    ∙ ap (sum h) (append_assoc (replicate (16 * j) 0) (replicate l 0) s)
    ∙ sum-leading h j (replicate l 0 ++ s)

-- *multiple*: the sum of anything is a multiple of H
pub sum-multiple : (h : Block) (s : List ℕ) → (x : Block) × Small x × (sum h s ≡ x • h)
sum-multiple h s =
    let m = Yᵢ-multiple h s (blocks (length s)) in
    (m.0, m.1, sym (horner h s) ∙ m.2)

-- *divided*: so a power of H is undone by the same power of H's companion
pub sum_divided : (h : Block) (s : List ℕ) (k : ℕ) → Small h → sum h s • power h k • power (companion h) k ≡ sum h s
sum_divided h s k small =
    let m = sum-multiple h s in
    •-assoc (sum h s) (power h k) (power (companion h) k)
    ∙ ap (λ (a : Block). a • (power h k • power (companion h) k)) m.2
    ∙ •-assoc m.0 h (power h k • power (companion h) k)
    ∙ ap (◌•◌ m.0) (companion-power h k small)
    ∙ sym m.2
