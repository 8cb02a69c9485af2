-- The product as one carry-less product and one reduction: 127 steps of V, as Algorithm 1 takes them, make the product of two blocks from
-- their carry-less product (`times-⊗`), and 64 steps at once are a few shifts (`V-word`).
-- Rests on Recursion, on the laws of `shifted` in Span, on `folded` in Squares, on clmul's laws, and on one computed test: 64 steps of V at
-- the powers of two.
use mathlib.Core.Path.{◌≡◌, refl, sym, ap, ap₂, ◌∙◌}
use mathlib.Core.Bool.{Bool}
use Prim.Native.Nat.{ℕ, zero, suc, ◌+◌, ◌*◌, ◌/◌, ◌%◌, ◌^◌, ◌<◌}
use native.Mathlib.Nat.{mod-lt, lt_trans, mul-one, mul_assoc, mul_right_comm, add-zero, add-suc, pow-suc}
use lib.Dec.{T, eqb, eqb→eq}
use lib.Pow.{pow_pos, shr_lt, high, low}
use Rattle.clmul.specs.Xor.{xor, only}
use Rattle.clmul.specs.Clmul.{carryless, ◌⊗◌, total}
use Rattle.clmul.proofs.Xor.{xor-shl, xor_lt, xor-parts, only-map}
use Rattle.clmul.proofs.Basis.{basis}
use Rattle.clmul.proofs.Recurrence.{carryless-none, carryless_next, ⊗-carryless, total-map}
use Rattle.field.specs.Elements.{R, shifted, Vᵢ, times}
use Rattle.field.proofs.ComputedTests.{every, every_at}
use Rattle.field.proofs.Span.{shifted-zero, shifted-xor, shifted-lt, shifted-double, one-lt}
use Rattle.field.proofs.Recursion.{mul, times-mul, mul-shifted}
use Rattle.field.proofs.Squares.{folded, folded-xor}

-- ---- several steps of V

pub V-none : (v : ℕ) → Vᵢ v 0 ≡ v
unfolding Vᵢ
V-none v = refl

pub V_next : (v i : ℕ) → Vᵢ v (suc i) ≡ shifted (Vᵢ v i)
unfolding Vᵢ
V_next v i = refl

pub V-zero : (i : ℕ) → Vᵢ 0 i ≡ 0
unfolding Vᵢ
V-zero zero = refl
V-zero (suc i) = ap shifted (V-zero i) ∙ shifted-zero

pub V-xor : (a b i : ℕ) → Vᵢ (xor a b) i ≡ xor (Vᵢ a i) (Vᵢ b i)
unfolding Vᵢ
V-xor a b zero = refl
V-xor a b (suc i) = ap shifted (V-xor a b i) ∙ shifted-xor _ _

pub V-add : (v i j : ℕ) → Vᵢ v (i + j) ≡ Vᵢ (Vᵢ v i) j
V-add v i zero = ap (Vᵢ v) (add-zero i) ∙ sym (V-none _)
V-add v i (suc j) = ap (Vᵢ v) (add-suc i j) ∙ V_next v (i + j) ∙ ap shifted (V-add v i j) ∙ sym (V_next _ j)

-- the steps undo a shift to the left
pub V-shl : (v i : ℕ) → Vᵢ (v * 2 ^ i) i ≡ v
V-shl v zero = V-none _ ∙ mul-one v
V-shl v (suc i) =
    V_next _ i
    ∙ ap (λ (x : ℕ). shifted (Vᵢ x i)) (ap (λ (p : ℕ). v * p) (pow-suc 2 i) ∙ sym (mul_assoc v (2 ^ i) 2) ∙ mul_right_comm v (2 ^ i) 2)
    ∙ ap shifted (V-shl (v * 2) i) ∙ shifted-double v

-- the steps leave what stands left of the last i bits as it is, but for what those bring in
V-parts : (v i : ℕ) → Vᵢ v i ≡ xor (v / 2 ^ i) (Vᵢ (v % 2 ^ i) i)
V-parts v i =
    ap (λ (x : ℕ). Vᵢ x i) (sym (xor-parts i v)) ∙ V-xor _ _ i ∙ ap (λ (x : ℕ). xor x (Vᵢ (v % 2 ^ i) i)) (V-shl (v / 2 ^ i) i)

-- what is a block stays one
V-lt : (v i : ℕ) → v < 2 ^ 128 → Vᵢ v i < 2 ^ 128
unfolding Vᵢ
V-lt v zero h = h
V-lt v (suc i) h = shifted-lt _ (V-lt v i h)

-- 127 steps make a block of a carry-less product
pub reduced-lt : (v : ℕ) → v < 2 ^ 255 → Vᵢ v 127 < 2 ^ 128
reduced-lt v h = rw (V-parts v 127) (xor_lt 128 _ _ (shr_lt 128 127 h) (V-lt _ 127 (lt_trans (mod-lt v (pow_pos 127)) one-lt)))

-- ---- the product

-- one bit of the product, where the rest is known
product-step : (n x v : ℕ) → mul n x (shifted v) ≡ Vᵢ (carryless n x v) n → mul (suc n) x v ≡ Vᵢ (carryless (suc n) x v) n
unfolding mul
product-step n x v e =
    let b = x / 2 ^ n % 2 in
    ap₂ xor (ap (only b) (sym (V-shl v n)) ∙ sym (only-map (λ (u : ℕ). Vᵢ u n) (V-zero n) b (v * 2 ^ n))) e
    ∙ sym (V-xor _ _ n) ∙ ap (λ (u : ℕ). Vᵢ u n) (sym (carryless_next n x v))

product-rest : (n x v : ℕ) → mul n x (shifted v) ≡ Vᵢ (carryless n x v) n
unfolding mul
product-rest zero x v = sym (V-none _ ∙ carryless-none x v)
product-rest (suc n) x v = mul-shifted (suc n) x v ∙ ap shifted (product-step n x v (product-rest n x v)) ∙ sym (V_next _ n)

-- the product of Algorithm 1 is 127 steps of V from the carry-less product
pub times-⊗ : (x y : ℕ) → times x y ≡ Vᵢ (x ⊗ y) 127
times-⊗ x y = times-mul x y ∙ product-step 127 x y (product-rest 127 x y) ∙ ap (λ (u : ℕ). Vᵢ u 127) (sym (⊗-carryless x y))

-- and so for a sum of products: one reduction serves all
pub V-total : (f g : ℕ → ℕ) (n : ℕ) → Vᵢ (total (λ i. f i ⊗ g i) n) 127 ≡ total (λ i. times (f i) (g i)) n
V-total f g n =
    total-map (λ (u : ℕ). Vᵢ u 127) (λ i. f i ⊗ g i) (λ i. times (f i) (g i)) (V-zero 127) (λ a b. V-xor a b 127) n
    (λ i l. sym (times-⊗ (f i) (g i)))

-- ---- a whole word at once

-- the bits of the word l, gone out on the right one by one, bring in l times what x^128 comes to

same : ℕ → Bool
same n = eqb (Vᵢ (2 ^ n) 64) (folded (2 ^ n) * 2 ^ 57)

same_all : T (every same 64)
unfolding every same Vᵢ shifted folded only xor R
same_all = tt

folded-zero : folded 0 * 2 ^ 57 ≡ 0
unfolding folded xor
folded-zero = refl

V-word : (l : ℕ) → l < 2 ^ 64 → Vᵢ l 64 ≡ folded l * 2 ^ 57
unfolding same
V-word l =
    basis (λ (a : ℕ). Vᵢ a 64 ≡ folded a * 2 ^ 57)
    (record {
      none = V-zero 64 ∙ sym folded-zero;
      sum = λ a b p q. V-xor a b 64 ∙ ap₂ xor p q ∙ sym (ap (λ (x : ℕ). x * 2 ^ 57) (folded-xor a b) ∙ xor-shl 57 _ _);
    })
    64 (λ n h. eqb→eq _ _ (every_at same 64 same_all n h)) l

-- 64 steps: the last word goes out
pub V-64 : (h l : ℕ) → l < 2 ^ 64 → Vᵢ (h * 2 ^ 64 + l) 64 ≡ xor h (folded l * 2 ^ 57)
V-64 h l p = V-parts (h * 2 ^ 64 + l) 64 ∙ rw (high h 64 p, low h 64 p) (ap (xor h) (V-word l p))

-- two words of a number doubled are 127 bits of the number
pub V-doubled : (v : ℕ) → Vᵢ (Vᵢ (v * 2) 64) 64 ≡ Vᵢ v 127
V-doubled v = sym (V-add (v * 2) 64 64) ∙ V-add (v * 2) 1 127 ∙ ap (λ (x : ℕ). Vᵢ x 127) (V-shl v 1)
