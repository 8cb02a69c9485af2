-- What holds of each of the numbers below a bound: one number more, and a test that is computed at each of them.
use mathlib.Core.Path.{◌≡◌}
use mathlib.Core.Logic.{◌⊎◌, inl, inr}
use mathlib.Core.Bool.{Bool, true, false, ◌&&◌}
use Prim.Native.Nat.{ℕ, zero, suc, ◌<◌}
use native.Mathlib.Nat.{not-suc-le-zero, le_of_suc-le-suc, eq-or-lt_of_le}
use lib.Dec.{T}

-- what holds of all numbers below k, and of k, holds of all below k + 1
pub and_next : (P : ℕ → Type 0) (k : ℕ) → P k → ((n : ℕ) → n < k → P n) → (n : ℕ) → n < suc k → P n
and_next P k p q n h = at (eq-or-lt_of_le (le_of_suc-le-suc h))
  where
    at : (n ≡ k) ⊎ (n < k) → P n
    at (inl e) = rw e p
    at (inr l) = q n l

-- the test f passes at 0 .. k - 1
unfoldable pub every : (ℕ → Bool) → ℕ → Bool
every f zero = true
every f (suc k) = f k && every f k

both : (a b : Bool) → T (a && b) → T a × T b
both true b t = (tt, t)
both false b t = absurd t

pub every_at : (f : ℕ → Bool) (k : ℕ) → T (every f k) → (n : ℕ) → n < k → T (f n)
unfolding every
every_at f zero t n h = absurd (not-suc-le-zero h)
every_at f (suc k) t n h =
    and_next (λ (n : ℕ). T (f n)) k (both (f k) (every f k) t).0 (every_at f k (both (f k) (every f k) t).1) n h
