-- Carry-less products and sums of several terms as recurrences, for those who do not see the definitions' text, and how large they are.
-- Rests on the laws of exclusive or (`Xor`).
use mathlib.Core.Path.{◌≡◌, refl, ap₂, ◌∙◌}
use Prim.Native.Nat.{ℕ, zero, suc, ◌+◌, ◌*◌, ◌/◌, ◌%◌, ◌^◌, ◌<◌, ◌≤◌}
use native.Mathlib.Nat.{le_refl, le_step, lt_of_lt_of_le}
use native.Mathlib.Omega.{arith}
use lib.Pow.{pow_pos, pow_mono, shl_lt}
use Rattle.clmul.specs.declared.karatsuba.Wide.{Wide}
use Rattle.clmul.specs.Xor.{xor, only}
use Rattle.clmul.specs.Carryless.{carryless, ◌⊗◌, total}
use Rattle.clmul.specs.Tables.{wide}
use Rattle.clmul.proofs.Xor.{xor_lt, only-lt}

-- ---- the definitions

pub carryless-none : (x y : ℕ) → carryless 0 x y ≡ 0
unfolding carryless
carryless-none x y = refl

pub carryless_next : (n x y : ℕ) → carryless (suc n) x y ≡ xor (only (x / 2 ^ n % 2) (y * 2 ^ n)) (carryless n x y)
unfolding carryless
carryless_next n x y = refl

pub ⊗-carryless : (x y : ℕ) → x ⊗ y ≡ carryless 128 x y
unfolding ◌⊗◌
⊗-carryless x y = refl

pub wide-words : (w : Wide) → wide w ≡ ((w.w3 * 2 ^ 64 + w.w2) * 2 ^ 64 + w.w1) * 2 ^ 64 + w.w0
unfolding wide
wide-words w = refl

-- ---- bounds

-- the n low bits of x make the product longer than y by at most n - 1 bits
carryless-lt : (n m k x y : ℕ) → n ≤ suc m → y < 2 ^ k → carryless n x y < 2 ^ (k + m)
unfolding carryless
carryless-lt zero m k x y l h = pow_pos (k + m)
carryless-lt (suc n) m k x y l h =
    xor_lt (k + m) _ _ (only-lt (k + m) (x / 2 ^ n % 2) _ (lt_of_lt_of_le (shl_lt k n h) (pow_mono {i = k + n} {j = k + m} (omega arith))))
    (carryless-lt n m k x y (omega arith) h)

pub ⊗-lt : (x y : ℕ) → y < 2 ^ 128 → x ⊗ y < 2 ^ 255
unfolding ◌⊗◌
⊗-lt x y h = carryless-lt 128 127 128 x y (omega arith) h

-- ---- sums

pub total-none : (f : ℕ → ℕ) → total f 0 ≡ 0
unfolding total
total-none f = refl

pub total_next : (f : ℕ → ℕ) (n : ℕ) → total f (suc n) ≡ xor (total f n) (f n)
unfolding total
total_next f n = refl

pub total-lt : (f : ℕ → ℕ) (n k : ℕ) → ((i : ℕ) → i < n → f i < 2 ^ k) → total f n < 2 ^ k
unfolding total
total-lt f zero k h = pow_pos k
total-lt f (suc n) k h = xor_lt k _ _ (total-lt f n k (λ i l. h i (le_step l))) (h n (le_refl (suc n)))

-- an additive map of a sum is the sum of what it makes of the terms
pub total-map : (F f g : ℕ → ℕ) → F 0 ≡ 0 → ((a b : ℕ) → F (xor a b) ≡ xor (F a) (F b))
    → (n : ℕ) → ((i : ℕ) → i < n → F (f i) ≡ g i) → F (total f n) ≡ total g n
unfolding total
total-map F f g z add zero e = z
total-map F f g z add (suc n) e = add _ _ ∙ ap₂ xor (total-map F f g z add n (λ i l. e i (le_step l))) (e n (le_refl (suc n)))
