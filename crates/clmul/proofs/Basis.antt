-- A way to show a fact of every number below 2 ^ k that holds of 0 and of sums: from the powers of two. Rests on Xor.
use mathlib.Core.Path.{subst}
use Prim.Native.Nat.{ℕ, zero, suc, ◌*◌, ◌/◌, ◌%◌, ◌^◌, ◌<◌}
use native.Mathlib.Nat.{mod-lt, le_refl, zero-mul, one-mul, le_step}
use native.Mathlib.Omega.{arith}
use native.Mathlib.Numerals.{one-add}
use lib.Pow.{pow_pos, shr_lt}
use Rattle.clmul.specs.Xor.{xor}
use Rattle.clmul.proofs.Xor.{xor-parts, digit}

-- a fact that holds of 0 and, with two numbers, of their sum
pub record Additive (P : ℕ → Type 0) : Type 0 where
  pub none : P 0
  pub sum : (a b : ℕ) → P a → P b → P (xor a b)

module _ (P : ℕ → Type 0) (add : Additive P) where
  -- from the powers of two below 2 ^ k to all numbers below 2 ^ k
  pub basis : (k : ℕ) → ((n : ℕ) → n < k → P (2 ^ n)) → (x : ℕ) → x < 2 ^ k → P x
  basis zero at x h = subst P (omega arith) add.none
  basis (suc k) at x h = subst P (xor-parts k x) (add.sum _ _ top (basis k (λ n l. at n (le_step l)) (x % 2 ^ k) (mod-lt x (pow_pos k))))
    where
      top : P (x / 2 ^ k * 2 ^ k)
      top =
          digit (λ (b : ℕ). P (b * 2 ^ k)) (rw zero-mul add.none) (rw one-mul (at k (le_refl (suc k))))
          (x / 2 ^ k) (shr_lt 1 k (rw one-add h))
