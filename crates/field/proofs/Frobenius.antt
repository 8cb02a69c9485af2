-- Every element to the power 2 ^ 128 is itself, so that H times H times its companion is H.
-- Squaring is additive, so taking the power 2 ^ k is additive and multiplicative; where it keeps x it keeps every element.
-- Rests on Powers, Squares and Span. No exponent is ever counted down: each law is over a variable k.
use mathlib.Core.Path.{◌≡◌, refl, sym, ap, ap₂, ◌∙◌}
use Prim.Native.Nat.{ℕ, zero, suc, ◌+◌, ◌-◌, ◌^◌, ◌<◌}
use native.Mathlib.Nat.{two-pow-succ}
use lib.Pow.{pow_pos}
use lib.Dec.{lit<}
use Rattle.field.specs.declared.blocks.Block.{Block}
use Rattle.clmul.specs.Xor.{xor}
use Rattle.field.specs.Elements.{times}
use Rattle.field.specs.Blocks.{value, block, Small, zero_block, one, ◌⊕◌, ◌•◌}
use Rattle.field.specs.Powers.{power, companion}
use Rattle.clmul.proofs.Xor.{xor_lt}
use Rattle.field.proofs.Span.{shifted-lt, one-lt, span}
use Rattle.field.proofs.Values.{value-lt, block-value, small-block, small-zero, small_one}
use Rattle.field.proofs.Ring.{value-⊕, value-•, block-xor, block-times, •-x}
use Rattle.field.proofs.Ring.{•-comm, •-assoc, •-⊕, •-zero, •-one}
use Rattle.field.proofs.Powers.{power_zero, power-suc, power-one, power-add, power_of_product}
use Rattle.field.proofs.Squares.{square-times, squares, squares-lt, squares-x, times-square-xor}

-- the square of a sum is the sum of the squares
pub square-⊕ : (a b : Block) → (a ⊕ b) • (a ⊕ b) ≡ a • a ⊕ b • b
square-⊕ a b = unfold ◌•◌ ◌⊕◌ in ap block numbers
  where
    numbers : times (value (a ⊕ b)) (value (a ⊕ b)) ≡ xor (value (a • a)) (value (b • b))
    numbers = simp (value-⊕, value-•) (times-square-xor _ _ (value-lt a) (value-lt b))

-- one more factor of two in the exponent is one squaring
pub power-double : (b : Block) (k : ℕ) → power b (2 ^ suc k) ≡ power b (2 ^ k) • power b (2 ^ k)
power-double b k = ap (power b) (two-pow-succ k) ∙ power-add b (2 ^ k) (2 ^ k)

-- the power 2 ^ k of a sum is the sum of the powers
pub power-⊕ : (a b : Block) (k : ℕ) → power (a ⊕ b) (2 ^ k) ≡ power a (2 ^ k) ⊕ power b (2 ^ k)
power-⊕ a b zero = first (a ⊕ b) ∙ •-⊕ one a b ∙ sym (ap₂ ◌⊕◌ (first a) (first b))
  where
    first : (c : Block) → power c 1 ≡ one • c
    first c = power-suc c 0 ∙ ap (λ (d : Block). d • c) (power_zero c)
power-⊕ a b (suc k) =
    power-double (a ⊕ b) k ∙ ap (λ (c : Block). c • c) (power-⊕ a b k) ∙ square-⊕ _ _
    ∙ sym (ap₂ ◌⊕◌ (power-double a k) (power-double b k))

-- 2 ^ k is never 0, so this power of nothing is nothing
pub power_of_zero : (k : ℕ) → power zero_block (2 ^ k) ≡ zero_block
power_of_zero zero = power-one zero_block small-zero
power_of_zero (suc k) = power-double zero_block k ∙ ap (λ (c : Block). c • c) (power_of_zero k) ∙ •-zero zero_block

pub power_of_one : (k : ℕ) → power one k ≡ one
power_of_one zero = power_zero one
power_of_one (suc k) = power-suc one k ∙ ap (λ (c : Block). c • one) (power_of_one k) ∙ •-one one small_one

-- the power 2 ^ k is k squarings, by the short way of Squares
pub power-squares : (v k : ℕ) → v < 2 ^ 128 → power (block v) (2 ^ k) ≡ block (squares k v)
unfolding squares
power-squares v zero h = power-one (block v) (small-block v h)
power-squares v (suc k) h =
    power-double (block v) k ∙ ap (λ (c : Block). c • c) (power-squares v k h)
    ∙ sym (ap block (square-times _ (squares-lt k v h)) ∙ block-times _ _ (squares-lt k v h) (squares-lt k v h))

-- where the power 2 ^ k keeps x, it keeps every element
kept : (k : ℕ) → power (block (2 ^ 126)) (2 ^ k) ≡ block (2 ^ 126) → (v : ℕ) → v < 2 ^ 128 → power (block v) (2 ^ k) ≡ block v
kept k e v h =
    (span (λ (a : ℕ). (a < 2 ^ 128) × (power (block a) (2 ^ k) ≡ block a))
    (record {
      none = (pow_pos 128, unfold zero_block in power_of_zero k);
      sum = λ a b p q. (
        xor_lt 128 a b p.0 q.0,
        rw (block-xor a b p.0 q.0) (power-⊕ (block a) (block b) k ∙ ap₂ ◌⊕◌ p.1 q.1),
      );
    })
    (one-lt, unfold one in power_of_one (2 ^ k))
    (λ a p. (
      shifted-lt a p.0,
      rw (← •-x a p.0)
          (power_of_product (block (2 ^ 126)) (block a) (2 ^ k) ∙ ap₂ ◌•◌ e p.1),
    ))
    v h).1

-- H^(2^128) = H: 128 squarings keep x, as was computed, and so every element
pub frobenius : (h : Block) → Small h → power h (2 ^ 128) ≡ h
frobenius h s =
    ap (λ (b : Block). power b (2 ^ 128)) (sym (block-value h s))
    ∙ kept 128 (power-squares (2 ^ 126) 128 (lit< tt) ∙ ap block squares-x) (value h) (value-lt h) ∙ block-value h s

-- two factors more in front are an exponent larger by two
power_before : (h : Block) (k m : ℕ) → k + 2 ≡ m → Small h → h • (h • power h k) ≡ power h m
power_before h k m e s =
    sym (•-assoc h h (power h k)) ∙ •-comm (h • h) (power h k)
    ∙ ap (◌•◌ (power h k)) (sym (power-suc h 1 ∙ ap (λ (c : Block). c • h) (power-one h s)))
    ∙ sym (power-add h k 2) ∙ ap (power h) e

-- H times H times its companion is H, of zero too
pub companion-law : (h : Block) → Small h → h • (h • companion h) ≡ h
unfolding companion
companion-law h s = power_before h (2 ^ 128 - 2) (2 ^ 128) refl s ∙ frobenius h s

-- so on a multiple of H a power of H and the same power of its companion undo each other
pub companion-power : (h : Block) (k : ℕ) → Small h → h • (power h k • power (companion h) k) ≡ h
companion-power h k s = ap (◌•◌ h) (sym (power_of_product h (companion h) k)) ∙ kept_by k
  where
    e : Block
    e = h • companion h

    kept_by : (k : ℕ) → h • power e k ≡ h
    kept_by zero = ap (◌•◌ h) (power_zero e) ∙ •-one h s
    kept_by (suc k) = ap (◌•◌ h) (power-suc e k) ∙ sym (•-assoc h (power e k) e) ∙ ap (λ (b : Block). b • e) (kept_by k) ∙ companion-law h s
