-- The carry-less product and square of halves from integer products of planes: a half is the sum of its planes (`planes`), Karatsuba's rule is
-- applied twice (`mixed-⊗`), and what is put together from mixtures is additive in them (`unmixed-added`). Rests on HolesLaws.
use mathlib.Core.Path.{◌≡◌, refl, sym, ap, ap₂, ◌∙◌}
use mathlib.Core.List.{List, [], ◌∷◌}
use Prim.Native.Nat.{ℕ, zero, suc, ◌+◌, ◌*◌, ◌/◌, ◌%◌, ◌^◌, ◌<◌}
use native.Mathlib.Nat.{mod-lt, mod-eq_of_lt, mod-one, lt_of_lt_of_le, pow-le-pow_right, zero-lt-suc, pow-suc}
use native.Mathlib.Omega.{arith}
use lib.ListN.{get_or}
use lib.Arith.{mod-mul}
use lib.Pow.{shr-shr}
use Rattle.clmul.specs.Xor.{xor}
use Rattle.clmul.specs.Carryless.{◌⊗◌}
use Rattle.clmul.specs.Halves.{plane, karatsuba, listed, mixtures_of, added_to, unmixed}
use Rattle.clmul.proofs.Xor.{xor_zero_l, xor_lt, xor-split, xor-add, xor-shl, xor-swap, xor_assoc, xors, odd-lt}
use Rattle.clmul.proofs.Products.{karatsuba-⊗, square-xor, square-shl}
use Rattle.clmul.proofs.HolesLaws.{plane-xor, plane-lt, plane-⊗}

-- ---- a half is the sum of its planes

-- two planes side by side, and two pairs
abbrev pair : ℕ → ℕ → ℕ
pair n x = xor (plane n (x / 2) * 2) (plane n x)

-- a digit more of two numbers that stand k bits apart
digit_more : (k a b c d : ℕ) → c * 2 ^ k < 16 → d < 16 → d < 2 ^ k
    → xor ((a * 16 + c) * 2 ^ k) (b * 16 + d) ≡ xor (a * 2 ^ k) b * 16 + (c * 2 ^ k + d)
digit_more k a b c d p q r =
    ap (λ (v : ℕ). xor v (b * 16 + d)) turn ∙ xor-split 4 (a * 2 ^ k) b (c * 2 ^ k) d p q ∙ ap (λ (v : ℕ). xor (a * 2 ^ k) b * 16 + v) (xor-add k c d r)
  where
    turn : (a * 16 + c) * 2 ^ k ≡ a * 2 ^ k * 16 + c * 2 ^ k
    turn = omega arith

pair-none : (x : ℕ) → pair 0 x ≡ 0
unfolding plane
pair-none x = xor_zero_l 0

pair_next : (n x : ℕ) → pair (suc n) x ≡ pair n (x / 16) * 16 + x % 4
unfolding plane
pair_next n x =
    ap (λ (w : ℕ). xor ((plane n w * 16 + x / 2 % 2) * 2) (plane n (x / 16) * 16 + x % 2)) (shr-shr x 1 4 ∙ sym (shr-shr x 4 1))
    ∙ digit_more 1 (plane n (x / 16 / 2)) (plane n (x / 16)) (x / 2 % 2) (x % 2) (omega arith) (omega arith) (odd-lt x)
    ∙ ap (λ (r : ℕ). pair n (x / 16) * 16 + r) low
  where
    low : x / 2 % 2 * 2 + x % 2 ≡ x % 4
    low = omega arith

pub planes : (n x : ℕ) → xor (pair n (x / 4) * 4) (pair n x) ≡ x % 16 ^ n
planes zero x = ap₂ (λ (u v : ℕ). xor (u * 4) v) (pair-none (x / 4)) (pair-none x) ∙ xor_zero_l 0 ∙ sym (mod-one x)
planes (suc n) x =
    ap₂ (λ (u v : ℕ). xor (u * 4) v) (pair_next n (x / 4)) (pair_next n x)
    ∙ ap (λ (w : ℕ). xor ((pair n w * 16 + x / 4 % 4) * 4) (pair n (x / 16) * 16 + x % 4)) (shr-shr x 2 4 ∙ sym (shr-shr x 4 2))
    ∙ digit_more 2 (pair n (x / 16 / 4)) (pair n (x / 16)) (x / 4 % 4) (x % 4) (omega arith) (omega arith) (mod-lt x (zero-lt-suc 3))
    ∙ ap₂ (λ (u v : ℕ). u * 16 + v) (planes n (x / 16)) low
    ∙ sym (ap (λ (p : ℕ). x % p) (pow-suc 16 n) ∙ mod-mul x {m = 16 ^ n} {c = 16} (omega (arith, plane-lt n x)) (zero-lt-suc 15))
  where
    low : x / 4 % 4 * 4 + x % 4 ≡ x % 16
    low = omega arith

-- ---- Karatsuba's rule on planes

pub karatsuba_cong : (k : ℕ) {a b c d e f : ℕ} → a ≡ d → b ≡ e → c ≡ f → karatsuba k a b c ≡ karatsuba k d e f
karatsuba_cong k {c = c} {d} {e} p q r = ap₂ (λ (u v : ℕ). karatsuba k u v c) p q ∙ ap (karatsuba k d e) r

pair_lt : (x : ℕ) → pair 8 x < 2 ^ 33
pair_lt x = xor_lt 33 _ _ (omega (arith, plane-lt 8 (x / 2))) (omega (arith, plane-lt 8 x))

small : {v : ℕ} → v < 2 ^ 64 → v < 2 ^ 128
small h = lt_of_lt_of_le h (pow-le-pow_right (zero-lt-suc 1) {i = 64} {j = 128} (omega arith))

-- the product of two pairs
pair-⊗ : (a b c d : ℕ)
    → xor (plane 8 a * 2) (plane 8 b) ⊗ xor (plane 8 c * 2) (plane 8 d)
    ≡ karatsuba 1 (plane 8 a ⊗ plane 8 c) (plane 8 b ⊗ plane 8 d) (plane 8 (xor a b) ⊗ plane 8 (xor c d))
pair-⊗ a b c d =
    karatsuba-⊗ 1 (plane 8 a) (plane 8 b) (plane 8 c) (plane 8 d) (small (omega (arith, plane-lt 8 a)))
    ∙ ap₂ (λ (u v : ℕ). karatsuba 1 (plane 8 a ⊗ plane 8 c) (plane 8 b ⊗ plane 8 d) (u ⊗ v)) (sym (plane-xor 8 a b)) (sym (plane-xor 8 c d))

-- the sum of two pairs
pairs-xor : (x : ℕ) → xor (pair 8 (x / 4)) (pair 8 x) ≡ xor (plane 8 (xor (x / 8) (x / 2)) * 2) (plane 8 (xor (x / 4) x))
pairs-xor x =
    xor-swap _ _ _ _
    ∙ ap₂ xor (sym (xor-shl 1 _ _) ∙ ap (λ (v : ℕ). v * 2) (sym (plane-xor 8 (x / 4 / 2) (x / 2)) ∙ ap (λ (w : ℕ). plane 8 (xor w (x / 2))) (shr-shr x 2 1)))
    (sym (plane-xor 8 (x / 4) x))

-- the products of the mixtures of two halves, put together
abbrev joined : List ℕ → List ℕ → ℕ
joined x y =
    karatsuba 2
    (karatsuba 1 (get_or x 3 0 ⊗ get_or y 3 0) (get_or x 2 0 ⊗ get_or y 2 0) (get_or x 5 0 ⊗ get_or y 5 0))
    (karatsuba 1 (get_or x 1 0 ⊗ get_or y 1 0) (get_or x 0 0 ⊗ get_or y 0 0) (get_or x 4 0 ⊗ get_or y 4 0))
    (karatsuba 1 (get_or x 7 0 ⊗ get_or y 7 0) (get_or x 6 0 ⊗ get_or y 6 0) (get_or x 8 0 ⊗ get_or y 8 0))

mixed-⊗ : (x y : ℕ) → joined (mixtures_of x) (mixtures_of y) ≡ x % 2 ^ 32 ⊗ (y % 2 ^ 32)
unfolding mixtures_of
mixed-⊗ x y =
    sym
    (ap₂ (λ (u v : ℕ). u ⊗ v) (sym (planes 8 x)) (sym (planes 8 y))
    ∙ karatsuba-⊗ 2 (pair 8 (x / 4)) (pair 8 x) (pair 8 (y / 4)) (pair 8 y) (small (omega (arith, pair_lt (x / 4))))
    ∙ karatsuba_cong 2 (high ∙ pair-⊗ (x / 8) (x / 4) (y / 8) (y / 4)) (pair-⊗ (x / 2) x (y / 2) y)
    (ap₂ (λ (u v : ℕ). u ⊗ v) (pairs-xor x) (pairs-xor y)
    ∙ pair-⊗ (xor (x / 8) (x / 2)) (xor (x / 4) x) (xor (y / 8) (y / 2)) (xor (y / 4) y)))
  where
    high : pair 8 (x / 4) ⊗ pair 8 (y / 4) ≡ xor (plane 8 (x / 8) * 2) (plane 8 (x / 4)) ⊗ xor (plane 8 (y / 8) * 2) (plane 8 (y / 4))
    high =
        ap₂ (λ (u v : ℕ). xor (plane 8 u * 2) (plane 8 (x / 4)) ⊗ xor (plane 8 v * 2) (plane 8 (y / 4))) (shr-shr x 2 1) (shr-shr y 2 1)

-- ---- sums of products

-- Karatsuba's rule is additive
pub karatsuba-xor : (k a b c d e f : ℕ) → karatsuba k (xor a d) (xor b e) (xor c f) ≡ xor (karatsuba k a b c) (karatsuba k d e f)
unfolding karatsuba
karatsuba-xor k a b c d e f =
    ap₂ (λ (u v : ℕ). xor u (xor v (xor b e))) (xor-shl (k + k) a d) (ap (λ (v : ℕ). v * 2 ^ k) (middles a b c d e f) ∙ xor-shl k _ _)
    ∙ terms (a * 2 ^ (k + k)) (d * 2 ^ (k + k)) (xor (xor c a) b * 2 ^ k) (xor (xor f d) e * 2 ^ k) b e
  where
    middles : (p q r s t u : ℕ) → xor (xor (xor r u) (xor p s)) (xor q t) ≡ xor (xor (xor r p) q) (xor (xor u s) t)
    middles p q r s t u = simp xors

    terms : (p q r s t u : ℕ) → xor (xor p q) (xor (xor r s) (xor t u)) ≡ xor (xor p (xor r t)) (xor q (xor s u))
    terms p q r s t u = simp xors

-- one integer product more
product-added : (t x y : ℕ) → plane 15 (xor t (plane 8 x % 2 ^ 32 * (plane 8 y % 2 ^ 32))) ≡ xor (plane 15 t) (plane 8 x ⊗ plane 8 y)
product-added t x y =
    plane-xor 15 t _
    ∙ ap (xor (plane 15 t)) (ap₂ (λ (u v : ℕ). plane 15 (u * v)) (mod-eq_of_lt (plane-lt 8 x)) (mod-eq_of_lt (plane-lt 8 y)) ∙ plane-⊗ x y)

-- the rule on planes, with three integer products more
pair-added : (t u v a b c d : ℕ)
    → karatsuba 1 (plane 15 (xor t (plane 8 a % 2 ^ 32 * (plane 8 c % 2 ^ 32)))) (plane 15 (xor u (plane 8 b % 2 ^ 32 * (plane 8 d % 2 ^ 32))))
    (plane 15 (xor v (plane 8 (xor a b) % 2 ^ 32 * (plane 8 (xor c d) % 2 ^ 32))))
    ≡ xor (karatsuba 1 (plane 15 t) (plane 15 u) (plane 15 v))
    (karatsuba 1 (plane 8 a ⊗ plane 8 c) (plane 8 b ⊗ plane 8 d) (plane 8 (xor a b) ⊗ plane 8 (xor c d)))
pair-added t u v a b c d =
    karatsuba_cong 1 (product-added t a c) (product-added u b d) (product-added v (xor a b) (xor c d)) ∙ karatsuba-xor 1 _ _ _ _ _ _

pub unmixed-added : (t : List ℕ) (x y : ℕ) → unmixed (added_to t (mixtures_of x) (mixtures_of y)) ≡ xor (unmixed t) (x % 2 ^ 32 ⊗ (y % 2 ^ 32))
unmixed-added t x y = added ∙ ap (xor (unmixed t)) (mixed-⊗ x y)
  where
    added : unmixed (added_to t (mixtures_of x) (mixtures_of y)) ≡ xor (unmixed t) (joined (mixtures_of x) (mixtures_of y))
    added =
        unfold unmixed added_to listed mixtures_of in
        karatsuba_cong 2
        (pair-added (get_or t 3 0) (get_or t 2 0) (get_or t 5 0) (x / 8) (x / 4) (y / 8) (y / 4))
        (pair-added (get_or t 1 0) (get_or t 0 0) (get_or t 4 0) (x / 2) x (y / 2) y)
        (pair-added (get_or t 7 0) (get_or t 6 0) (get_or t 8 0) (xor (x / 8) (x / 2)) (xor (x / 4) x) (xor (y / 8) (y / 2)) (xor (y / 4) y))
        ∙ karatsuba-xor 2 _ _ _ _ _ _

-- no products, no sum
abbrev pub none : List ℕ
none = 0 ∷ 0 ∷ 0 ∷ 0 ∷ 0 ∷ 0 ∷ 0 ∷ 0 ∷ 0 ∷ []

pub unmixed-none : unmixed none ≡ 0
unfolding unmixed karatsuba plane xor
unmixed-none = refl

-- ---- the square of a half

pub half-square : (x : ℕ)
    → xor ((plane 8 (x / 8) ⊗ plane 8 (x / 8)) * 2 ^ 6)
    (xor ((plane 8 (x / 4) ⊗ plane 8 (x / 4)) * 2 ^ 4) (xor ((plane 8 (x / 2) ⊗ plane 8 (x / 2)) * 2 ^ 2) (plane 8 x ⊗ plane 8 x)))
    ≡ x % 2 ^ 32 ⊗ (x % 2 ^ 32)
half-square x =
    sym
    (ap (λ (v : ℕ). v ⊗ v) (sym (planes 8 x)) ∙ square-xor (pair 8 (x / 4) * 4) (pair 8 x) (small (omega (arith, pair_lt (x / 4)))) (small (omega (arith, pair_lt x)))
    ∙ ap₂ xor (square-shl 2 (pair 8 (x / 4)) (small (omega (arith, pair_lt (x / 4)))) ∙ ap (λ (v : ℕ). v * 16) (squares (x / 4) ∙ eighth)) (squares x)
    ∙ moved _ _ _ _)
  where
    squares : (v : ℕ) → pair 8 v ⊗ pair 8 v ≡ xor ((plane 8 (v / 2) ⊗ plane 8 (v / 2)) * 4) (plane 8 v ⊗ plane 8 v)
    squares v =
        square-xor (plane 8 (v / 2) * 2) (plane 8 v) (small (omega (arith, plane-lt 8 (v / 2)))) (small (omega (arith, plane-lt 8 v)))
        ∙ ap (λ (w : ℕ). xor w (plane 8 v ⊗ plane 8 v)) (square-shl 1 (plane 8 (v / 2)) (small (omega (arith, plane-lt 8 (v / 2)))))

    eighth : xor ((plane 8 (x / 4 / 2) ⊗ plane 8 (x / 4 / 2)) * 4) (plane 8 (x / 4) ⊗ plane 8 (x / 4))
        ≡ xor ((plane 8 (x / 8) ⊗ plane 8 (x / 8)) * 4) (plane 8 (x / 4) ⊗ plane 8 (x / 4))
    eighth = ap (λ (w : ℕ). xor ((plane 8 w ⊗ plane 8 w) * 4) (plane 8 (x / 4) ⊗ plane 8 (x / 4))) (shr-shr x 2 1)

    moved : (a b c d : ℕ) → xor (xor (a * 4) b * 16) (xor (c * 4) d) ≡ xor (a * 64) (xor (b * 16) (xor (c * 4) d))
    moved a b c d = ap (λ (w : ℕ). xor w (xor (c * 4) d)) (xor-shl 4 (a * 4) b ∙ ap (λ (w : ℕ). xor w (b * 16)) higher) ∙ xor_assoc _ _ _
      where
        higher : a * 4 * 16 ≡ a * 64
        higher = omega arith
