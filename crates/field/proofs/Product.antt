-- The product of Algorithm 1 on numbers below 2 ^ 128: its bound, additive in each argument, unit, commutative, associative.
-- Each law that is not the recursion's own is shown by `span`: at one, for sums, and for one more factor x.
-- Rests on Recursion and Span.
use mathlib.Core.Path.{◌≡◌, sym, ap, ap₂, ◌∙◌}
use Prim.Native.Nat.{ℕ, ◌^◌, ◌<◌}
use native.Mathlib.Nat.{mod-eq_of_lt}
use lib.Pow.{pow_pos}
use Rattle.clmul.specs.Xor.{xor}
use Rattle.field.specs.Elements.{shifted, times}
use Rattle.clmul.proofs.Xor.{xor_lt}
use Rattle.field.proofs.Span.{shifted-zero, shifted-xor, shifted-lt, shifted-power, one-lt, span}
use Rattle.field.proofs.Recursion.{times-mul, mul-lt, mul-zero_l, mul-zero_r, mul-xor_l, mul-xor_r, mul-shifted, mul-one, one-mul}

pub times-lt : (x y : ℕ) → y < 2 ^ 128 → times x y < 2 ^ 128
times-lt x y h = rw times-mul (mul-lt 128 x y h)

pub times-zero_l : (y : ℕ) → times 0 y ≡ 0
times-zero_l y = times-mul 0 y ∙ mul-zero_l 128 y

pub times-zero_r : (x : ℕ) → times x 0 ≡ 0
times-zero_r x = times-mul x 0 ∙ mul-zero_r 128 x

pub times-xor_l : (x y z : ℕ) → times (xor x y) z ≡ xor (times x z) (times y z)
times-xor_l x y z = simp times-mul (mul-xor_l 128 x y z)

pub times-xor_r : (x y z : ℕ) → times x (xor y z) ≡ xor (times x y) (times x z)
times-xor_r x y z = simp times-mul (mul-xor_r 128 x y z)

pub times-one_l : (y : ℕ) → times (2 ^ 127) y ≡ y
times-one_l y = times-mul (2 ^ 127) y ∙ one-mul y

pub times-one_r : (x : ℕ) → x < 2 ^ 128 → times x (2 ^ 127) ≡ x
times-one_r x h = times-mul x (2 ^ 127) ∙ mul-one 127 x ∙ mod-eq_of_lt h

-- a product with x·b is x times the product
pub times-shifted_r : (a b : ℕ) → times a (shifted b) ≡ shifted (times a b)
times-shifted_r a b = simp times-mul (mul-shifted 128 a b)

-- and so on the other side
pub times-shifted_l : (a b : ℕ) → a < 2 ^ 128 → b < 2 ^ 128 → times (shifted a) b ≡ shifted (times a b)
times-shifted_l a b p =
    span (λ (y : ℕ). times (shifted a) y ≡ shifted (times a y))
    (record {
      none = simp (times-zero_r, shifted-zero);
      sum = λ u v e f. simp (times-xor_r, shifted-xor) (ap₂ xor e f);
    })
    (times-one_r (shifted a) (shifted-lt a p) ∙ ap shifted (sym (times-one_r a p)))
    (λ y e. times-shifted_r (shifted a) y ∙ ap shifted (e ∙ sym (times-shifted_r a y)))
    b

-- the product by x is one step
pub times-x : (a : ℕ) → a < 2 ^ 128 → times (2 ^ 126) a ≡ shifted a
times-x a h =
    ap (λ (x : ℕ). times x a) (sym (shifted-power 126)) ∙ times-shifted_l (2 ^ 127) a one-lt h ∙ ap shifted (times-one_l a)

pub times-comm : (a b : ℕ) → a < 2 ^ 128 → b < 2 ^ 128 → times a b ≡ times b a
times-comm a b p q =
    (span (λ (y : ℕ). (y < 2 ^ 128) × (times a y ≡ times y a))
    (record {
      none = (pow_pos 128, times-zero_r a ∙ sym (times-zero_l a));
      sum = λ u v e f. (xor_lt 128 u v e.0 f.0, simp (times-xor_l, times-xor_r) (ap₂ xor e.1 f.1));
    })
    (one-lt, times-one_r a p ∙ sym (times-one_l a))
    (λ y e. (shifted-lt y e.0, times-shifted_r a y ∙ ap shifted e.1 ∙ sym (times-shifted_l y a e.0 p)))
    b q).1

pub times-assoc : (a b c : ℕ) → b < 2 ^ 128 → c < 2 ^ 128 → times (times a b) c ≡ times a (times b c)
times-assoc a b c p =
    span (λ (z : ℕ). times (times a b) z ≡ times a (times b z))
    (record {
      none = simp times-zero_r;
      sum = λ u v e f. simp times-xor_r (ap₂ xor e f);
    })
    (times-one_r (times a b) (times-lt a b p) ∙ ap (times a) (sym (times-one_r b p)))
    (λ z e. simp times-shifted_r (ap shifted e))
    c
