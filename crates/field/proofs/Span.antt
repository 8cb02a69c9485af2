-- A way to show a fact of every number below 2 ^ 128 that holds of 0 and of sums: from the field's one and one step of
-- multiplication by x (`span`). And the laws of that step, `shifted`. Rests on the laws of exclusive or in clmul.
use mathlib.Core.Path.{◌≡◌, refl, ap, subst, ◌∙◌}
use Prim.Native.Nat.{ℕ, zero, suc, ◌+◌, ◌-◌, ◌*◌, ◌%◌, ◌^◌, ◌<◌}
use native.Mathlib.Nat.{lt_of_le_of_lt, div-le_self, pow-suc, mul-mod_left, mul-div_cancel, zero-lt-suc}
use native.Mathlib.Omega.{arith}
use lib.Dec.{lit<}
use Rattle.clmul.specs.Xor.{xor, only}
use Rattle.clmul.proofs.Basis.{Additive, basis}
use Rattle.field.specs.Elements.{R, shifted}
use Rattle.clmul.proofs.Xor.{xor_zero_l, xor-half, xor-odd, xor_lt, xor-swap, only-off, only-lt, only-xor-digit, odd-lt}

-- `shifted`, the product by x

pub shifted-zero : shifted 0 ≡ 0
unfolding shifted only xor
shifted-zero = refl

pub shifted-xor : (a b : ℕ) → shifted (xor a b) ≡ xor (shifted a) (shifted b)
unfolding shifted
shifted-xor a b =
    simp (xor-odd, xor-half, only-xor-digit (a % 2) (b % 2) R (odd-lt a) (odd-lt b)) (xor-swap _ _ _ _)

R-lt : R < 2 ^ 128
unfolding R
R-lt = lit< tt

pub shifted-lt : (v : ℕ) → v < 2 ^ 128 → shifted v < 2 ^ 128
unfolding shifted
shifted-lt v h = xor_lt 128 _ _ (only-lt 128 (v % 2) R R-lt) (lt_of_le_of_lt (div-le_self v 2) h)

-- the step undoes a shift to the left
pub shifted-double : (v : ℕ) → shifted (v * 2) ≡ v
unfolding shifted
shifted-double v = rw (mul-mod_left v 2, mul-div_cancel v (zero-lt-suc 1), only-off R) (xor_zero_l v)

-- it takes each power of two to the next lower one
pub shifted-power : (n : ℕ) → shifted (2 ^ suc n) ≡ 2 ^ n
shifted-power n = ap shifted (pow-suc 2 n) ∙ shifted-double (2 ^ n)

-- the field's one is below 2 ^ 128
pub one-lt : 2 ^ 127 < 2 ^ 128
one-lt = lit< tt

module _ (P : ℕ → Type 0) (add : Additive P) where
  -- from one and the step to all numbers below 2 ^ 128
  pub span : P (2 ^ 127) → ((a : ℕ) → P a → P (shifted a)) → (x : ℕ) → x < 2 ^ 128 → P x
  span one step = basis P add 128 (λ n l. down (127 - n) n (omega arith))
    where
      down : (m n : ℕ) → n + m ≡ 127 → P (2 ^ n)
      down zero n e = subst (λ (i : ℕ). P (2 ^ i)) {x = 127} {y = n} (omega arith) one
      down (suc m) n e = rw (← shifted-power n) (step _ (down m (suc n) (omega arith)))
