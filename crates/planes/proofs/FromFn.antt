-- Arrays made element by element by a closure that no call changes. Rests on Tables.
use mathlib.Core.Path.{◌≡◌, refl, subst, ◌∙◌}
use mathlib.Core.List.{List}
use mathlib.Core.Logic.{◌⊎◌, inl, inr}
use Prim.Native.Nat.{ℕ, zero, suc, ◌+◌, ◌<◌}
use native.Mathlib.Nat.{eq-or-lt_of_le}
use native.Mathlib.Omega.{arith}
use lib.ListN.{get_or}
use denote.Param.Members.{Mut, Called}
use Rattle.std.specs.Array.{IsFromFnResult, IsFromFnResultFrom}
use Rattle.planes.specs.Tables.{tab}
use Rattle.planes.proofs.Tables.{tab_of}

module _ {F A : Type 0} (calls : Mut F (ℕ × Unit {0}) A) (f : F) (value : ℕ → A)
    (same : (i : ℕ) (y : A) (f' : F) → Called calls f (i, tt) y f' → (f' ≡ f) × (y ≡ value i)) where
  entry : (t : List A) (i n : ℕ) (g : F) → g ≡ f → IsFromFnResultFrom calls g t i n → (k : ℕ) (d : A) → k < i + n → (i ≡ k) ⊎ (i < k) → get_or t k d ≡ value k
  entry t i zero g e r k d l b = absurd (omega arith)
  entry t i (suc n) g e r k d l (inl at) =
      let call = same i r.1 r.0 (subst (λ (u : F). Called calls u (i, tt) r.1 r.0) e r.3) in
      rw (← at) (r.2.1 d ∙ call.1)
  entry t i (suc n) g e r k d l (inr more) =
      let call = same i r.1 r.0 (subst (λ (u : F). Called calls u (i, tt) r.1 r.0) e r.3) in
      entry t (i + 1) n r.0 call.0 r.4 k d (omega arith) (eq-or-lt_of_le (omega arith))

  pub tab_made : (n : ℕ) (d : A) (t : List A) → IsFromFnResult calls f t n → t ≡ tab n value
  tab_made n d t r = tab_of n value d t r.long (λ k l. entry t 0 n f refl r.each k d (omega arith) (eq-or-lt_of_le (omega arith)))
