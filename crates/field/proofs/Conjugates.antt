-- The powers x^(2^k), k < 128, which are called x's conjugates: the difference of any two of them cancels (`apart`); and a block, as a polynomial in x with the
-- coefficients zero and one, has at each of them the value that is its own power 2^k (`at_conjugate`).
-- The first rests on one computed test, that x^(2^64) + x has an inverse: what x^(2^d) + x gives zero with, x^(2^2d) + x does too, and so on up to that one.
-- This and x^(2^128) = x, which Squares computes, are the two conditions of Rabin's test that the modulus, of degree 128 = 2^7, is irreducible.
-- Rests on Frobenius, Squares and Polynomials.
use mathlib.Core.Path.{◌≡◌, refl, sym, ap, ap₂, subst, ◌∙◌}
use mathlib.Core.Bool.{Bool, true, false, cond}
use mathlib.Core.Logic.{◌⊎◌, inl, inr, ⊎_elim}
use mathlib.Core.List.{List, [], ◌∷◌}
use Prim.Native.Nat.{ℕ, zero, suc, ◌+◌, ◌-◌, ◌*◌, ◌/◌, ◌%◌, ◌^◌, ◌<◌}
use native.Mathlib.Nat.{not-suc-le-zero, mod-eq_of_lt}
use native.Mathlib.Omega.{arith}
use lib.Pow.{pow_pos, pow-add}
use lib.Dec.{T, eqb, eqb→eq, lit<}
use lib.ListN.{length}
use Rattle.field.specs.declared.blocks.Block.{Block}
use Rattle.clmul.specs.Xor.{xor, only}
use Rattle.field.specs.Elements.{R, shifted}
use Rattle.field.specs.Blocks.{block, Small, zero_block, one, ◌⊕◌, ◌•◌}
use Rattle.field.specs.Powers.{power}
use Rattle.clmul.proofs.Xor.{xor_lt, only-off, only_on, only-lt, odd-lt, digit}
use Rattle.field.proofs.ComputedTests.{every, every_at}
use Rattle.field.proofs.Span.{shifted-lt, one-lt}
use Rattle.field.proofs.Recursion.{mul, mul-lt, mul-one}
use Rattle.field.proofs.Values.{small-block, small-zero}
use Rattle.field.proofs.Ring.{small-•, block-xor, block-mul, •-x, ⊕-self, ⊕-comm, ⊕-cancel_l, •-comm, •-assoc, •-⊕, ⊕-•, •-zero, •-one, one-•}
use Rattle.field.proofs.Powers.{power_zero, power-suc, power-mul, power_of_product}
use Rattle.field.proofs.Squares.{spread, folded, reduced, square, squares, squares-lt}
use Rattle.field.proofs.Frobenius.{power-⊕, power_of_zero, power_of_one, power-squares, frobenius}
use Rattle.field.proofs.Polynomials.{at, small_at, Cancels, SmallAll}

-- the block that is x itself (SP 800-38D, 6.3): its bit 1, counted from the left, is a one
abbrev pub x : Block
x = block (2 ^ 126)

unfoldable pub conjugate : ℕ → Block
conjugate k = power x (2 ^ k)

-- ---- a block as a polynomial in x

-- zero or one, by a digit
abbrev pub coefficient : ℕ → Block
coefficient b = block (only b (2 ^ 127))

-- the n low bits of v, from the left
unfoldable pub coefficients : ℕ → ℕ → List Block
coefficients zero v = []
coefficients (suc n) v = coefficient (v / 2 ^ n % 2) ∷ coefficients n v

pub length_coefficients : (n v : ℕ) → length (coefficients n v) ≡ n
unfolding coefficients
length_coefficients zero v = refl
length_coefficients (suc n) v = ap suc (length_coefficients n v)

pub coefficient_cases : (b : ℕ) → b < 2 → (coefficient b ≡ zero_block) ⊎ (coefficient b ≡ one)
unfolding zero_block one
coefficient_cases = digit (λ (b : ℕ). (coefficient b ≡ zero_block) ⊎ (coefficient b ≡ one)) (inl (ap block (only-off _))) (inr (ap block (only_on _)))

pub small_coefficients : (n v : ℕ) → SmallAll (coefficients n v)
unfolding coefficients
small_coefficients zero v i = small-zero
small_coefficients (suc n) v zero = small-block _ (only-lt 128 (v / 2 ^ n % 2) (2 ^ 127) one-lt)
small_coefficients (suc n) v (suc i) = small_coefficients n v i

-- a digit chooses nothing or the whole
chosen : (a b : ℕ) → a < 2 ^ 128 → b < 2 → block (only b a) ≡ block a • coefficient b
unfolding zero_block one
chosen a b h =
    digit (λ (b : ℕ). block (only b a) ≡ block a • coefficient b)
    (ap block (only-off a) ∙ sym (ap (λ (v : ℕ). block a • block v) (only-off (2 ^ 127)) ∙ •-zero (block a)))
    (ap block (only_on a) ∙ sym (ap (λ (v : ℕ). block a • block v) (only_on (2 ^ 127)) ∙ •-one (block a) (small-block a h)))
    b

-- the recursion is the product with the polynomial's value at x
mul_at : (n v a : ℕ) → a < 2 ^ 128 → block (mul n v a) ≡ block a • at x (coefficients n v)
unfolding mul coefficients at zero_block
mul_at zero v a h = sym (•-zero (block a))
mul_at (suc n) v a h =
    let b = v / 2 ^ n % 2 in
    let c = block a in
    let r = at x (coefficients n v) in
    block-xor (only b a) (mul n v (shifted a)) (only-lt 128 b a h) (mul-lt n v (shifted a) (shifted-lt a h))
    ∙ ap₂ ◌⊕◌ (chosen a b h (odd-lt _)) (mul_at n v (shifted a) (shifted-lt a h) ∙ ap (λ (d : Block). d • r) (sym (•-x a h)))
    ∙ ap (λ (d : Block). c • coefficient b ⊕ d) (ap (λ (d : Block). d • r) (•-comm x c) ∙ •-assoc c x r)
    ∙ sym (•-⊕ c (coefficient b) (x • r))

-- so a block is its polynomial's value at x
pub at_x : (v : ℕ) → v < 2 ^ 128 → at x (coefficients 128 v) ≡ block v
at_x v h =
    sym (mul_at 128 v (2 ^ 127) one-lt ∙ unfold one in one-• _ (small_at x _)) ∙ ap block (mul-one 127 v ∙ mod-eq_of_lt h)

-- ---- a polynomial's value at a conjugate

coefficient_kept : (b k : ℕ) → b < 2 → power (coefficient b) (2 ^ k) ≡ coefficient b
coefficient_kept b k h =
    ⊎_elim
    (λ e. ap (λ (c : Block). power c (2 ^ k)) e ∙ power_of_zero k ∙ sym e)
    (λ e. ap (λ (c : Block). power c (2 ^ k)) e ∙ power_of_one (2 ^ k) ∙ sym e)
    (coefficient_cases b h)

pub at_conjugate : (n v k : ℕ) → power (at x (coefficients n v)) (2 ^ k) ≡ at (conjugate k) (coefficients n v)
unfolding at coefficients conjugate
at_conjugate zero v k = power_of_zero k
at_conjugate (suc n) v k =
    power-⊕ _ _ k
    ∙ ap₂ ◌⊕◌ (coefficient_kept _ k (odd-lt _)) (power_of_product x _ (2 ^ k) ∙ ap (◌•◌ (power x (2 ^ k))) (at_conjugate n v k))

-- ---- the gaps between conjugates

-- x^(2^d) + x
abbrev gap : ℕ → Block
gap d = conjugate d ⊕ x

conjugate_power : (k : ℕ) → conjugate k ≡ power x (2 ^ k)
unfolding conjugate
conjugate_power k = refl

conjugate_add : (d k : ℕ) → conjugate (d + k) ≡ power (conjugate d) (2 ^ k)
unfolding conjugate
conjugate_add d k = ap (power x) (pow-add 2 d k) ∙ power-mul x (2 ^ d) (2 ^ k)

-- the gap from the k-th conjugate on is the gap from x to the power 2^k
gap-power : (d k : ℕ) → conjugate (d + k) ⊕ conjugate k ≡ power (gap d) (2 ^ k)
gap-power d k = ap₂ ◌⊕◌ (conjugate_add d k) (conjugate_power k) ∙ sym (power-⊕ (conjugate d) x k)

-- after 128 the conjugates come again
conjugate_128 : conjugate 128 ≡ x
conjugate_128 = conjugate_power 128 ∙ frobenius x (small-block _ (lit< tt))

conjugate_again : (q k : ℕ) → conjugate (128 * q + k) ≡ conjugate k
conjugate_again zero k = ap conjugate (omega arith)
conjugate_again (suc q) k =
    let r = 128 * q + k in
    ap conjugate (omega arith) ∙ conjugate_add 128 r ∙ ap (λ (b : Block). power b (2 ^ r)) conjugate_128
    ∙ sym (conjugate_power r) ∙ conjugate_again q k

-- the inverse of x^(2^64) + x, found by a power; the test below is all that is believed of it
inverse-64 : ℕ
inverse-64 = 0x180da934bf53158251c13dbb149f5279

inverse-test : T (eqb (mul 128 inverse-64 (xor (squares 64 (2 ^ 126)) (2 ^ 126))) (2 ^ 127))
unfolding inverse-64 mul shifted only xor R squares square reduced folded spread
inverse-test = tt

gap-64 : block inverse-64 • gap 64 ≡ one
unfolding one
gap-64 =
    let v = squares 64 (2 ^ 126) in
    let l : v < 2 ^ 128 = squares-lt 64 (2 ^ 126) (lit< tt) in
    ap (λ (b : Block). block inverse-64 • (b ⊕ x)) (conjugate_power 64 ∙ power-squares (2 ^ 126) 64 (lit< tt))
    ∙ ap (◌•◌ (block inverse-64)) (sym (block-xor v (2 ^ 126) l (lit< tt)))
    ∙ block-mul inverse-64 _ (unfold inverse-64 in lit< tt) (xor_lt 128 v (2 ^ 126) l (lit< tt)) ∙ ap block (eqb→eq _ _ inverse-test)

-- ---- each gap cancels

-- where the product of g and y is zero, so is that of any power of g but the power 0
power-product : (g y : Block) (k : ℕ) → 0 < k → g • y ≡ zero_block → power g k • y ≡ zero_block
power-product g y zero l e = absurd (not-suc-le-zero l)
power-product g y (suc k) l e =
    ap (λ (b : Block). b • y) (power-suc g k) ∙ •-assoc (power g k) g y ∙ ap (◌•◌ (power g k)) e ∙ •-zero (power g k)

module _ (y : Block) (s : Small y) where
  -- from the gap d to twice the gap
  twice : (d : ℕ) → gap d • y ≡ zero_block → gap (d + d) • y ≡ zero_block
  twice d e =
      ap (λ (b : Block). b • y) (sym (⊕-cancel_l (conjugate (d + d)) x (conjugate d)) ∙ ap₂ ◌⊕◌ (⊕-comm _ _ ∙ gap-power d d) refl)
      ∙ ⊕-• (power (gap d) (2 ^ d)) (gap d) y ∙ ap₂ ◌⊕◌ (power-product (gap d) y (2 ^ d) (pow_pos d) e) e ∙ ⊕-self zero_block

  -- and to 64, where it ends
  at_64 : (d : ℕ) → d % 128 ≡ 64 → gap d • y ≡ zero_block → y ≡ zero_block
  at_64 d h e =
      let g : gap d ≡ gap 64 = ap (λ (b : Block). b ⊕ x) (ap conjugate {x = d} {y = 128 * (d / 128) + 64} (omega arith) ∙ conjugate_again (d / 128) 64) in
      sym (ap (λ (b : Block). b • y) gap-64 ∙ one-• y s) ∙ •-assoc (block inverse-64) (gap 64) y
      ∙ ap (◌•◌ (block inverse-64)) (ap (λ (b : Block). b • y) (sym g) ∙ e) ∙ •-zero _

-- by at most n doublings d comes to 64, or to 64 more than a multiple of 128
reaches : ℕ → ℕ → Bool
reaches zero d = eqb (d % 128) 64
reaches (suc n) d = cond (eqb (d % 128) 64) true (reaches n (d + d))

reaches_all : T (every (λ (d : ℕ). reaches 6 (suc d)) 127)
unfolding every reaches
reaches_all = tt

gap_cancels : (n d : ℕ) → T (reaches n d) → Cancels (gap d)
unfolding reaches
gap_cancels zero d t y s e = at_64 y s d (eqb→eq _ _ t) e
gap_cancels (suc n) d t y s e = by (eqb (d % 128) 64) refl t (λ u. gap_cancels n (d + d) u y s (twice y s d e))
  where
    by : (b : Bool) → eqb (d % 128) 64 ≡ b → T (cond b true (reaches n (d + d))) → (T (reaches n (d + d)) → y ≡ zero_block) → y ≡ zero_block
    by true h t more = at_64 y s d (eqb→eq _ _ (rw h tt)) e
    by false h t more = more t

-- with g, every power of it does
power_cancels : (g : Block) (k : ℕ) → Cancels g → Cancels (power g k)
power_cancels g zero d y s e = sym (ap (λ (b : Block). b • y) (power_zero g) ∙ one-• y s) ∙ e
power_cancels g (suc k) d y s e =
    d y s (power_cancels g k d (g • y) (small-• g y) (sym (•-assoc (power g k) g y) ∙ ap (λ (b : Block). b • y) (sym (power-suc g k)) ∙ e))

-- so the difference of any two conjugates cancels
pub apart : (i j : ℕ) → i < j → j < 128 → Cancels (conjugate j ⊕ conjugate i)
apart i j l m =
    let d = j - i - 1 in
    let t = every_at (λ (d : ℕ). reaches 6 (suc d)) 127 reaches_all d (omega arith) in
    subst (λ (k : ℕ). Cancels (conjugate k ⊕ conjugate i)) {x = suc d + i} {y = j} (omega arith)
    (rw (gap-power (suc d) i) (power_cancels (gap (suc d)) (2 ^ i) (gap_cancels 6 (suc d) t)))
