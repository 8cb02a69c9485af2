-- Sums of several terms: equal terms have equal sums, and Karatsuba's rule can be applied to the terms or to their sums. Rests on HalfProducts.
use mathlib.Core.Path.{◌≡◌, refl, ap, ap₂, ◌∙◌}
use Prim.Native.Nat.{ℕ, zero, suc, ◌<◌}
use native.Mathlib.Nat.{zero-mul, le_refl, le_step}
use Rattle.clmul.specs.Xor.{xor}
use Rattle.clmul.specs.Carryless.{total}
use Rattle.clmul.specs.Halves.{karatsuba}
use Rattle.clmul.proofs.Xor.{xors}
use Rattle.clmul.proofs.HalfProducts.{karatsuba-xor}

pub total_cong : (n : ℕ) (f g : ℕ → ℕ) → ((i : ℕ) → i < n → f i ≡ g i) → total f n ≡ total g n
unfolding total
total_cong zero f g e = refl
total_cong (suc n) f g e = ap₂ xor (total_cong n f g (λ i h. e i (le_step h))) (e n (le_refl (suc n)))

karatsuba-none : (k : ℕ) → karatsuba k 0 0 0 ≡ 0
unfolding karatsuba
karatsuba-none k = simp (zero-mul, xors)

pub karatsuba-total :
    (k n : ℕ) (f g e : ℕ → ℕ) → karatsuba k (total f n) (total g n) (total e n) ≡ total (λ i. karatsuba k (f i) (g i) (e i)) n
unfolding total
karatsuba-total k zero f g e = karatsuba-none k
karatsuba-total k (suc n) f g e = karatsuba-xor k _ _ _ _ _ _ ∙ ap (λ (s : ℕ). xor s (karatsuba k (f n) (g n) (e n))) (karatsuba-total k n f g e)
