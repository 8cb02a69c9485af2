-- Laws of the first cause that holds: forwards, a law for each place of the list where a search can stop; backwards, what holds where nothing
-- is refused. And whether two numbers differ, as a cause.
use mathlib.Core.Path.{◌≡◌, refl}
use mathlib.Core.Bool.{Bool, true, false, cond, not}
use mathlib.Core.List.{List, [], ◌∷◌}
use Prim.Native.Nat.{ℕ, ◌<◌}
use native.Mathlib.Omega.{arith}
use lib.Dec.{eqb}
use borrow.Author.Tests.{eq-eqb, ne_eqb, eqb-true, not-false}
use Rattle.refusals.specs.Refusals.{first}

-- ---- forwards

-- past the last cause
pub first_none : ◌≡◌ {A = ℕ} 0 (first [])
unfolding first
first_none = refl

-- at a cause that holds
pub first_here : (t : Bool) (n : ℕ) (rest : List (Bool × ℕ)) → t ≡ true → n ≡ first ((t, n) ∷ rest)
unfolding first
first_here t n rest e = rw e

-- behind a cause that does not
pub first_later : (t : Bool) (n : ℕ) (rest : List (Bool × ℕ)) {x : ℕ} → t ≡ false → x ≡ first rest → x ≡ first ((t, n) ∷ rest)
unfolding first
first_later t n rest f e = rw f e

-- ---- backwards

passed : (t : Bool) (n r : ℕ) → cond t n r ≡ 0 → 0 < n → (t ≡ false) × (r ≡ 0)
passed true n r e p = absurd (omega arith)
passed false n r e p = (refl, e)

-- where nothing is refused the cause at the front, whose number is not 0, does not hold, and the rest refuses nothing
pub first_passed : (t : Bool) (n : ℕ) (rest : List (Bool × ℕ)) → first ((t, n) ∷ rest) ≡ 0 → 0 < n → (t ≡ false) × (first rest ≡ 0)
unfolding first
first_passed t n rest e p = passed t n _ e p

-- ---- the cause that two numbers differ

pub differ : {a b : ℕ} → (a ≡ b → ⊥) → not (eqb a b) ≡ true
differ {a} {b} h = rw (ne_eqb a b h)

pub agree : {a b : ℕ} → a ≡ b → not (eqb a b) ≡ false
agree {a} {b} h = rw (eq-eqb a b h)

-- and what it tells where it does not hold
pub agreed : (a b : ℕ) → not (eqb a b) ≡ false → a ≡ b
agreed a b e = eqb-true a b (not-false (eqb a b) e)
