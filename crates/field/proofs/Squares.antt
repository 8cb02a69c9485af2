-- The square of a number below 2 ^ 128 by a short way, quick enough to be computed 128 times: a zero is put between any two
-- of its bits, and what lies past the 128th bit is folded back. It equals the product of the number with itself (`square-times`),
-- and x, squared 128 times over, is x again (`squares-x`).
-- Rests on Product, and on two computed tests: the squares of the 128 powers of two, and those 128 squarings.
use mathlib.Core.Path.{◌≡◌, sym, ap, ap₂, ◌∙◌}
use mathlib.Core.Bool.{Bool}
use Prim.Native.Nat.{ℕ, zero, suc, ◌+◌, ◌*◌, ◌/◌, ◌%◌, ◌^◌, ◌<◌}
use native.Mathlib.Omega.{arith}
use lib.Pow.{pow_pos, pow-lt}
use lib.Dec.{T, eqb, eqb→eq}
use Rattle.clmul.specs.Xor.{xor, only}
use Rattle.field.specs.Elements.{R, shifted, times}
use Rattle.clmul.proofs.Xor.{xor_self, xor_zero_l, xor-half, xor-odd, xor_shr, xor_mod, xor-shl, xor-split, xor_lt, xors}
use Rattle.field.proofs.ComputedTests.{every, every_at}
use Rattle.clmul.proofs.Basis.{basis}
use Rattle.field.proofs.Recursion.{mul, times-mul}
use Rattle.field.proofs.Product.{times-comm, times-xor_l, times-xor_r, times-zero_r, times-lt}

-- the k low bits of v, a zero before each
unfoldable pub spread : ℕ → ℕ → ℕ
spread zero v = 0
spread (suc k) v = spread k (v / 2) * 4 + v % 2

-- l times 1 + x + x^2 + x^7, which is what x^128 comes to, with seven places more to the right
unfoldable pub folded : ℕ → ℕ
folded l = xor (xor (l * 2 ^ 7) (l * 2 ^ 6)) (xor (l * 2 ^ 5) l)

-- a product of 255 bits: its first 128; the other 127, folded back; and what that pushed past the 128th bit, folded back once more
unfoldable pub reduced : ℕ → ℕ
reduced s =
    let q : ℕ = folded (s % 2 ^ 127 * 2) in
    xor (xor (s / 2 ^ 127) (q / 2 ^ 7)) (folded (q % 2 ^ 7) * 2 ^ 114)

-- the square by the short way
unfoldable pub square : ℕ → ℕ
square v = reduced (spread 128 v)

-- each part is additive

spread-xor : (k a b : ℕ) → spread k (xor a b) ≡ xor (spread k a) (spread k b)
unfolding spread
spread-xor zero a b = sym (xor_zero_l 0)
spread-xor (suc k) a b =
    rw (xor-half a b, xor-odd a b, spread-xor k (a / 2) (b / 2)) (sym (xor-split 2 _ _ _ _ (four a) (four b)))
  where
    four : (a : ℕ) → a % 2 < 4
    four a = omega arith

pub folded-xor : (a b : ℕ) → folded (xor a b) ≡ xor (folded a) (folded b)
unfolding folded
folded-xor a b = simp (xor-shl 7, xor-shl 6, xor-shl 5) (simp xors)

reduced-xor : (a b : ℕ) → reduced (xor a b) ≡ xor (reduced a) (reduced b)
unfolding reduced
reduced-xor a b = simp (xor_shr 127, xor_mod 127, xor-shl 1, folded-xor, xor_shr 7, xor_mod 7, xor-shl 114) (simp xors)

pub square-xor : (a b : ℕ) → square (xor a b) ≡ xor (square a) (square b)
unfolding square
square-xor a b = ap reduced (spread-xor 128 a b) ∙ reduced-xor _ _

pub square-zero : square 0 ≡ 0
square-zero = ap square (sym (xor_self 0)) ∙ square-xor 0 0 ∙ xor_self _

-- the square of a sum is the sum of the squares: the mixed products cancel
pub times-square-xor : (a b : ℕ) → a < 2 ^ 128 → b < 2 ^ 128 → times (xor a b) (xor a b) ≡ xor (times a a) (times b b)
times-square-xor a b p q =
    times-xor_l a b (xor a b) ∙ ap₂ xor (times-xor_r a a b) (times-xor_r b a b)
    ∙ ap (λ (m : ℕ). xor (xor (times a a) (times a b)) (xor m (times b b))) (times-comm b a q p)
    ∙ mixed _ _ _
  where
    mixed : (u m v : ℕ) → xor (xor u m) (xor m v) ≡ xor u v
    mixed u m v = simp xors

-- the short way agrees with the recursion at the powers of two

same : ℕ → Bool
same n = eqb (square (2 ^ n)) (mul 128 (2 ^ n) (2 ^ n))

same_all : T (every same 128)
unfolding every same square reduced folded spread mul shifted only xor R
same_all = tt

square-power : (n : ℕ) → n < 128 → square (2 ^ n) ≡ times (2 ^ n) (2 ^ n)
unfolding same
square-power n h = eqb→eq _ _ (every_at same 128 same_all n h) ∙ sym (times-mul _ _)

-- the short way is the product of a number with itself
pub square-times : (v : ℕ) → v < 2 ^ 128 → square v ≡ times v v
square-times v h =
    (basis (λ (a : ℕ). (a < 2 ^ 128) × (square a ≡ times a a))
    (record {
      none = (pow_pos 128, square-zero ∙ sym (times-zero_r 0));
      sum = λ a b p q. (xor_lt 128 a b p.0 q.0, square-xor a b ∙ ap₂ xor p.1 q.1 ∙ sym (times-square-xor a b p.0 q.0));
    })
    128 (λ n l. (pow-lt l, square-power n l)) v h).1

-- squared k times over
unfoldable pub squares : ℕ → ℕ → ℕ
squares zero v = v
squares (suc k) v = square (squares k v)

pub squares-lt : (k v : ℕ) → v < 2 ^ 128 → squares k v < 2 ^ 128
unfolding squares
squares-lt zero v h = h
squares-lt (suc k) v h = rw (square-times _ (squares-lt k v h)) (times-lt _ _ (squares-lt k v h))

-- x, squared 128 times over, is x again

squares-x-test : T (eqb (squares 128 (2 ^ 126)) (2 ^ 126))
unfolding squares square reduced folded spread xor
squares-x-test = tt

pub squares-x : squares 128 (2 ^ 126) ≡ 2 ^ 126
squares-x = eqb→eq _ _ squares-x-test
