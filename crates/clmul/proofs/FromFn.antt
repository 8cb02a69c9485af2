-- Arrays made element by element by a closure that no call changes: what holds of every answer holds of every element.
use mathlib.Core.Path.{◌≡◌, refl, subst}
use mathlib.Core.List.{List}
use mathlib.Core.Logic.{◌⊎◌, inl, inr}
use Prim.Native.Nat.{ℕ, zero, suc, ◌+◌, ◌<◌}
use native.Mathlib.Nat.{eq-or-lt_of_le}
use native.Mathlib.Omega.{arith}
use lib.ListN.{get_or}
use denote.Param.Members.{Mut, Called}
use Rattle.std.specs.Array.{IsFromFnResult, IsFromFnResultFrom}

module _ {F A : Type 0} (calls : Mut F (ℕ × Unit {0}) A) (f : F) (P : ℕ → A → Type 0)
    (same : (i : ℕ) (y : A) (f' : F) → Called calls f (i, tt) y f' → (f' ≡ f) × P i y) where
  entry : (t : List A) (i n : ℕ) (g : F) → g ≡ f → IsFromFnResultFrom calls g t i n → (k : ℕ) (d : A) → k < i + n → (i ≡ k) ⊎ (i < k) → P k (get_or t k d)
  entry t i zero g e r k d l b = absurd (omega arith)
  entry t i (suc n) g e r k d l (inl at) =
      let call = same i r.1 r.0 (subst (λ (u : F). Called calls u (i, tt) r.1 r.0) e r.3) in
      rw (← at, r.2.1 d) call.1
  entry t i (suc n) g e r k d l (inr more) =
      let call = same i r.1 r.0 (subst (λ (u : F). Called calls u (i, tt) r.1 r.0) e r.3) in
      entry t (i + 1) n r.0 call.0 r.4 k d (omega arith) (eq-or-lt_of_le (omega arith))

  pub each_made : {n : ℕ} {t : List A} → IsFromFnResult calls f t n → (k : ℕ) (d : A) → k < n → P k (get_or t k d)
  each_made {n} {t} r k d l = entry t 0 n f refl r.each k d (omega arith) (eq-or-lt_of_le (omega arith))
