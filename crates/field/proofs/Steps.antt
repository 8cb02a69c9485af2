-- Laws of a number's width and of seek's steps, by halving the number: how code counts them, and the bound on the steps.
-- They rest on the library's counts of binary digits (`lib.Count`).
use mathlib.Core.Path.{◌≡◌, refl, ap}
use mathlib.Core.Logic.{◌⊎◌, inl, inr}
use Prim.Native.Nat.{ℕ, zero, suc, ◌+◌, ◌-◌, ◌*◌, ◌/◌, ◌%◌, ◌^◌, ◌≤◌, ◌<◌, zero-le}
use native.Mathlib.Nat.{le_refl, not-suc-le-zero, zero-lt-suc, lt_of_lt_of_le, eq-zero-or-pos, add-zero}
use native.Mathlib.Omega.{arith}
use lib.Arith.{half_le, bin_ind, lt-one}
use lib.Count.{ones, ones_step, count_leading_zeros}
use lib.Pow.{ones_lt, le_ones}
use Rattle.field.specs.Powers.{digits_within, width, steps}

-- ---- the width

-- digits looked at beyond the number's own change nothing
digits_in-enough : (d e k : ℕ) → k ≤ d → k ≤ e → digits_within d k ≡ digits_within e k
unfolding digits_within
digits_in-enough zero zero zero h l = refl
digits_in-enough zero (suc e) zero h l = refl
digits_in-enough (suc d) zero zero h l = refl
digits_in-enough (suc d) (suc e) zero h l = refl
digits_in-enough zero e (suc k) h l = absurd (not-suc-le-zero h)
digits_in-enough (suc d) zero (suc k) h l = absurd (not-suc-le-zero l)
digits_in-enough (suc d) (suc e) (suc k) h l =
    ap suc (digits_in-enough d e (suc k / 2) (half_le h) (half_le l))

-- halving takes one digit off
pub width-half : (n : ℕ) → 0 < n → width n ≡ suc (width (n / 2))
unfolding width digits_within
width-half zero h = absurd (not-suc-le-zero h)
width-half (suc n) h = ap suc (digits_in-enough n (suc n / 2) (suc n / 2) (half_le (le_refl (suc n))) (le_refl (suc n / 2)))

-- a number that is not 0 has a digit
pub width-pos : (n : ℕ) → 0 < n → 0 < width n
width-pos n h = omega (arith, width-half n h)

-- and a one among its digits
pub ones_pos : (n : ℕ) → 0 < n → 0 < ones n
unfolding ones
ones_pos = bin_ind (λ (n : ℕ). 0 < n → 0 < ones n) (λ h. absurd (not-suc-le-zero h)) (λ n ih h. go n ih h (eq-zero-or-pos (n / 2)))
  where
    go : (n : ℕ) → (0 < n / 2 → 0 < ones (n / 2)) → 0 < n → (n / 2 ≡ 0) ⊎ (0 < n / 2) → 0 < ones n
    go n ih h (inl e) = omega (arith, ones_step n)
    go n ih h (inr p) = omega (arith, ones_step n, ih p)

-- a larger number is no narrower
pub width-mono : (n m : ℕ) → n ≤ m → width n ≤ width m
unfolding width digits_within
width-mono =
    bin_ind (λ (n : ℕ). (m : ℕ) → n ≤ m → width n ≤ width m) (λ m h. zero-le)
    (λ n ih m h. go n m h (ih (m / 2)) (eq-zero-or-pos n))
  where
    go : (n m : ℕ) → n ≤ m → (n / 2 ≤ m / 2 → width (n / 2) ≤ width (m / 2)) → (n ≡ 0) ⊎ (0 < n) → width n ≤ width m
    go n m h ih (inl e) = rw e zero-le
    go n m h ih (inr p) = omega (arith, width-half n p, width-half m (lt_of_lt_of_le p h), ih (omega arith))

-- at most every digit is a one
pub ones-le-width : (n : ℕ) → ones n ≤ width n
unfolding ones
ones-le-width = bin_ind (λ (n : ℕ). ones n ≤ width n) zero-le (λ n ih. go n ih (eq-zero-or-pos n))
  where
    go : (n : ℕ) → ones (n / 2) ≤ width (n / 2) → (n ≡ 0) ⊎ (0 < n) → ones n ≤ width n
    go n ih (inl e) = rw e zero-le
    go n ih (inr p) = omega (arith, ones_step n, width-half n p)

-- the leading zeros among k digits, and the width, make k
pub leading-width : (k n : ℕ) → n < 2 ^ k → count_leading_zeros k n + width n ≡ k
unfolding count_leading_zeros width digits_within
leading-width zero n h = rw (lt-one h)
leading-width (suc k) zero h = add-zero (suc k)
leading-width (suc k) (suc n) h = omega (arith, width-half (suc n) (zero-lt-suc n), leading-width k (suc n / 2) (omega arith))

-- ---- seek's steps

-- the definition, for a k known to be positive
pub steps_pos : (k : ℕ) → 0 < k → steps k ≡ ones k + width k - 1
unfolding steps
steps_pos zero h = absurd (not-suc-le-zero h)
steps_pos (suc k) h = refl

-- a loop over the bits from the lowest up: the lowest bit and one more for each bit but the highest
pub steps-half : (k : ℕ) → 0 < k / 2 → steps k ≡ k % 2 + 1 + steps (k / 2)
steps-half k h =
    let p : 0 < k = omega arith in
    omega (arith, steps_pos k p, steps_pos (k / 2) h, ones_step k, width-half k p, width-pos (k / 2) h)

-- the steps of a k up to M, and one more, are at most twice M's width
pub steps-bound : (k m : ℕ) → k ≤ m → 1 ≤ m → steps k + 1 ≤ 2 * width m
unfolding steps
steps-bound zero m h l = omega (arith, width-pos m l)
steps-bound (suc k) m h l = omega (arith, ones-le-width (suc k), width-mono (suc k) m h, width-pos (suc k) (zero-lt-suc k))

-- a k of 64 bits takes at most 127
pub steps-le : (k : ℕ) → k < 2 ^ 64 → steps k ≤ 127
steps-le k h = omega (arith, steps-bound k (2 ^ 64 - 1) (le_ones 64 h) (omega arith), leading-width 64 (2 ^ 64 - 1) (ones_lt 64))

-- the steps as code counts them in a word
pub steps-counted : (k : ℕ) → k < 2 ^ 64 → 0 < k → ones k + (64 - count_leading_zeros 64 k) - 1 ≡ steps k
steps-counted k h p = omega (arith, steps_pos k p, leading-width 64 k h)

-- the steps of one bit
pub steps-bit : (k : ℕ) → k ≤ 1 → steps k ≡ k
unfolding steps ones width digits_within
steps-bit zero h = refl
steps-bit (suc zero) h = refl
steps-bit (suc (suc k)) h = absurd (omega arith)
