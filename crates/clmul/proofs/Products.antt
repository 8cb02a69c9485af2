-- The carry-less product: additive in each argument, moved with each argument, one, commutative, and what follows of numbers that are cut in
-- two: Karatsuba's rule, and the square. Rests on Xor and Basis.
use mathlib.Core.Path.{◌≡◌, refl, sym, ap, ap₂, ◌∙◌}
use Prim.Native.Nat.{ℕ, zero, suc, ◌+◌, ◌*◌, ◌/◌, ◌%◌, ◌^◌, ◌<◌}
use native.Mathlib.Nat.{mod-lt, mod-one, mod-eq_of_lt, zero-mul, one-mul, mul-one, zero-div, div-one, mul_comm, mul_assoc, pow-suc}
use native.Mathlib.Nat.{div-eq_of_lt, lt_of_le_of_lt, lt_of_lt_of_le, pow-le-pow_right, zero-lt-suc, mul-mod_left}
use native.Mathlib.Numerals.{one-add}
use native.Mathlib.Omega.{arith}
use lib.Pow.{pow_pos, pow-add, pow-lt, shl-shr, shr-shr, split, mod-pow-add}
use Rattle.clmul.specs.Xor.{xor, only}
use Rattle.clmul.specs.Carryless.{carryless, ◌⊗◌}
use Rattle.clmul.specs.Halves.{karatsuba}
use Rattle.clmul.specs.Tables.{part}
use Rattle.clmul.proofs.Xor.{xor_zero_l, xor_zero_r, xor-odd, xor_shr, xor-shl, xor-add, xor-parts, xor-swap, xors}
use Rattle.clmul.proofs.Xor.{only-off, only_on, only_zero, only-map, only-mul, only-xor, only-xor-digit, odd-lt}
use Rattle.clmul.proofs.Basis.{basis}

-- ---- for any number of bits

carryless-zero_l : (n y : ℕ) → carryless n 0 y ≡ 0
unfolding carryless
carryless-zero_l zero y = refl
carryless-zero_l (suc n) y = simp (zero-div, only-off, carryless-zero_l n y, xor_zero_l)

carryless-zero_r : (n x : ℕ) → carryless n x 0 ≡ 0
unfolding carryless
carryless-zero_r zero x = refl
carryless-zero_r (suc n) x = simp (zero-mul, only_zero, carryless-zero_r n x, xor_zero_l)

carryless-xor_l : (n x y v : ℕ) → carryless n (xor x y) v ≡ xor (carryless n x v) (carryless n y v)
unfolding carryless
carryless-xor_l zero x y v = sym (xor_zero_l 0)
carryless-xor_l (suc n) x y v =
    ap₂ xor (ap (λ (b : ℕ). only b (v * 2 ^ n)) (ap (λ (w : ℕ). w % 2) (xor_shr n x y) ∙ xor-odd _ _)
    ∙ only-xor-digit _ _ (v * 2 ^ n) (odd-lt _) (odd-lt _))
    (carryless-xor_l n x y v)
    ∙ xor-swap _ _ _ _

carryless-xor_r : (n x u v : ℕ) → carryless n x (xor u v) ≡ xor (carryless n x u) (carryless n x v)
unfolding carryless
carryless-xor_r zero x u v = sym (xor_zero_l 0)
carryless-xor_r (suc n) x u v =
    rw (xor-shl n u v, only-xor (x / 2 ^ n % 2) (u * 2 ^ n) (v * 2 ^ n), carryless-xor_r n x u v) (xor-swap _ _ _ _)

-- places that two factors are moved by can be exchanged
moves : (v j k : ℕ) → v * 2 ^ j * 2 ^ k ≡ v * 2 ^ k * 2 ^ j
moves v j k = mul_assoc v (2 ^ j) (2 ^ k) ∙ ap (λ (p : ℕ). v * p) (mul_comm (2 ^ j) (2 ^ k)) ∙ sym (mul_assoc v (2 ^ k) (2 ^ j))

carryless-shl_r : (k n x v : ℕ) → carryless n x (v * 2 ^ k) ≡ carryless n x v * 2 ^ k
unfolding carryless
carryless-shl_r k zero x v = sym (zero-mul (2 ^ k))
carryless-shl_r k (suc n) x v =
    ap₂ xor (ap (only (x / 2 ^ n % 2)) (moves v k n) ∙ sym (only-map (λ (w : ℕ). w * 2 ^ k) (zero-mul (2 ^ k)) (x / 2 ^ n % 2) (v * 2 ^ n)))
    (carryless-shl_r k n x v)
    ∙ sym (xor-shl k _ _)

-- a number of n bits has no bit n
carryless_more : (n x y : ℕ) → x < 2 ^ n → carryless (suc n) x y ≡ carryless n x y
unfolding carryless
carryless_more n x y h = rw (div-eq_of_lt h, only-off (y * 2 ^ n)) (xor_zero_l _)

carryless-double : (n x y : ℕ) → carryless (suc n) (x * 2) y ≡ carryless n x y * 2
unfolding carryless
carryless-double zero x y = rw (div-one (x * 2), mul-mod_left x 2, only-off (y * 1)) (xor_zero_l 0)
carryless-double (suc n) x y =
    ap₂ xor (ap₂ only (ap (λ (w : ℕ). w % 2) halved) moved ∙ sym (only-map (λ (w : ℕ). w * 2) refl (x / 2 ^ n % 2) (y * 2 ^ n)))
    (carryless-double n x y)
    ∙ sym (xor-shl 1 _ _)
  where
    halved : x * 2 / 2 ^ suc n ≡ x / 2 ^ n
    halved = ap (λ (k : ℕ). x * 2 / 2 ^ k) (sym (one-add n)) ∙ sym (shr-shr (x * 2) 1 n) ∙ ap (λ (w : ℕ). w / 2 ^ n) (shl-shr x 1)

    moved : y * 2 ^ suc n ≡ y * 2 ^ n * 2
    moved = ap (λ (p : ℕ). y * p) (pow-suc 2 n) ∙ sym (mul_assoc y (2 ^ n) 2)

-- ---- of 128 bits

pub ⊗-zero_l : (y : ℕ) → 0 ⊗ y ≡ 0
unfolding ◌⊗◌
⊗-zero_l y = carryless-zero_l 128 y

pub ⊗-zero_r : (x : ℕ) → x ⊗ 0 ≡ 0
unfolding ◌⊗◌
⊗-zero_r x = carryless-zero_r 128 x

pub ⊗-xor_l : (x y v : ℕ) → xor x y ⊗ v ≡ xor (x ⊗ v) (y ⊗ v)
unfolding ◌⊗◌
⊗-xor_l x y v = carryless-xor_l 128 x y v

pub ⊗-xor_r : (x u v : ℕ) → x ⊗ xor u v ≡ xor (x ⊗ u) (x ⊗ v)
unfolding ◌⊗◌
⊗-xor_r x u v = carryless-xor_r 128 x u v

pub ⊗-shl_r : (k x v : ℕ) → x ⊗ (v * 2 ^ k) ≡ x ⊗ v * 2 ^ k
unfolding ◌⊗◌
⊗-shl_r k x v = carryless-shl_r k 128 x v

⊗-double : (x y : ℕ) → x < 2 ^ 127 → (x * 2) ⊗ y ≡ x ⊗ y * 2
unfolding ◌⊗◌
⊗-double x y h = carryless-double 127 x y ∙ ap (λ (v : ℕ). v * 2) (sym (carryless_more 127 x y h))

pub ⊗-shl_l : (k x y : ℕ) → x * 2 ^ k < 2 ^ 128 → (x * 2 ^ k) ⊗ y ≡ x ⊗ y * 2 ^ k
⊗-shl_l zero x y h = ap (λ (v : ℕ). v ⊗ y) (mul-one x) ∙ sym (mul-one (x ⊗ y))
⊗-shl_l (suc k) x y h =
    ap (λ (v : ℕ). v ⊗ y) (next x) ∙ ⊗-double (x * 2 ^ k) y below
    ∙ ap (λ (v : ℕ). v * 2) (⊗-shl_l k x y (lt_of_lt_of_le below (pow-le-pow_right (zero-lt-suc 1) {i = 127} {j = 128} (omega arith))))
    ∙ sym (next (x ⊗ y))
  where
    next : (v : ℕ) → v * 2 ^ suc k ≡ v * 2 ^ k * 2
    next v = ap (λ (p : ℕ). v * p) (pow-suc 2 k) ∙ sym (mul_assoc v (2 ^ k) 2)

    below : x * 2 ^ k < 2 ^ 127
    below = half_lt (x * 2 ^ k) (2 ^ 127) (rw (← next x) h)
      where
        half_lt : (a p : ℕ) → a * 2 < p * 2 → a < p
        half_lt a p l = omega arith

-- ---- one, and the order of the factors

carryless-one_r : (n x : ℕ) → carryless n x 1 ≡ x % 2 ^ n
unfolding carryless
carryless-one_r zero x = sym (mod-one x)
carryless-one_r (suc n) x =
    ap₂ xor (ap (only (x / 2 ^ n % 2)) (one-mul (2 ^ n)) ∙ only-mul (x / 2 ^ n % 2) (2 ^ n) (odd-lt _)) (carryless-one_r n x)
    ∙ xor-add n _ _ (mod-lt x (pow_pos n)) ∙ sym (mod-pow-add x 1 n) ∙ ap (λ (k : ℕ). x % 2 ^ k) (one-add n)

carryless-one_l : (n y : ℕ) → carryless (suc n) 1 y ≡ y
unfolding carryless
carryless-one_l zero y = rw (only_on (y * 1), mul-one y) (xor_zero_r y)
carryless-one_l (suc n) y = carryless_more (suc n) 1 y (pow-lt {i = 0} {j = suc n} (zero-lt-suc n)) ∙ carryless-one_l n y

⊗-one_r : (x : ℕ) → x < 2 ^ 128 → x ⊗ 1 ≡ x
unfolding ◌⊗◌
⊗-one_r x h = carryless-one_r 128 x ∙ mod-eq_of_lt h

pub ⊗-one_l : (y : ℕ) → 1 ⊗ y ≡ y
unfolding ◌⊗◌
⊗-one_l y = carryless-one_l 127 y

-- the product with a power of two, on either side
⊗-power_r : (n x : ℕ) → x < 2 ^ 128 → x ⊗ 2 ^ n ≡ x * 2 ^ n
⊗-power_r n x h =
    ap (λ (v : ℕ). x ⊗ v) (sym (one-mul (2 ^ n))) ∙ ⊗-shl_r n x 1 ∙ ap (λ (v : ℕ). v * 2 ^ n) (⊗-one_r x h)

⊗-power_l : (n y : ℕ) → n < 128 → 2 ^ n ⊗ y ≡ y * 2 ^ n
⊗-power_l n y h =
    ap (λ (v : ℕ). v ⊗ y) (sym (one-mul (2 ^ n))) ∙ ⊗-shl_l n 1 y (rw (one-mul (2 ^ n)) (pow-lt h)) ∙ ap (λ (v : ℕ). v * 2 ^ n) (⊗-one_l y)

pub ⊗-comm : (x y : ℕ) → x < 2 ^ 128 → y < 2 ^ 128 → x ⊗ y ≡ y ⊗ x
⊗-comm x y p =
    basis (λ (v : ℕ). x ⊗ v ≡ v ⊗ x)
    (record {
      none = ⊗-zero_r x ∙ sym (⊗-zero_l x);
      sum = λ u v e f. ⊗-xor_r x u v ∙ ap₂ xor e f ∙ sym (⊗-xor_l u v x);
    })
    128 (λ n l. ⊗-power_r n x p ∙ sym (⊗-power_l n x l)) y

-- ---- numbers cut k bits from the right

-- moved twice by k places
twice : (v k : ℕ) → v * 2 ^ k * 2 ^ k ≡ v * 2 ^ (k + k)
twice v k = mul_assoc v (2 ^ k) (2 ^ k) ∙ ap (λ (p : ℕ). v * p) (sym (pow-add 2 k k))

-- Karatsuba's rule
pub karatsuba-⊗ : (k xh xl yh yl : ℕ) → xh * 2 ^ k < 2 ^ 128
    → xor (xh * 2 ^ k) xl ⊗ xor (yh * 2 ^ k) yl ≡ karatsuba k (xh ⊗ yh) (xl ⊗ yl) (xor xh xl ⊗ xor yh yl)
karatsuba-⊗ k xh xl yh yl h =
    ⊗-xor_l _ _ _ ∙ ap₂ xor (⊗-shl_l k xh _ h) refl
    ∙ ap₂ xor (ap (λ (v : ℕ). v * 2 ^ k) (spread xh)) (spread xl)
    ∙ rule (xh ⊗ yh) (xh ⊗ yl) (xl ⊗ yh) (xl ⊗ yl)
    ∙ ap (karatsuba k (xh ⊗ yh) (xl ⊗ yl)) (sym (⊗-xor_l xh xl _ ∙ ap₂ xor (⊗-xor_r xh yh yl) (⊗-xor_r xl yh yl)))
  where
    spread : (x : ℕ) → x ⊗ xor (yh * 2 ^ k) yl ≡ xor (x ⊗ yh * 2 ^ k) (x ⊗ yl)
    spread x = ⊗-xor_r x _ _ ∙ ap₂ xor (⊗-shl_r k x yh) refl

    rule : (a b c d : ℕ) → xor (xor (a * 2 ^ k) b * 2 ^ k) (xor (c * 2 ^ k) d) ≡ karatsuba k a d (xor (xor a b) (xor c d))
    rule a b c d =
        unfold karatsuba in
        ap₂ xor (xor-shl k (a * 2 ^ k) b ∙ ap₂ xor (twice a k) refl) refl
        ∙ sorted (a * 2 ^ (k + k)) (b * 2 ^ k) (c * 2 ^ k) d
        ∙ ap (λ (v : ℕ). xor (a * 2 ^ (k + k)) (xor v d)) (sym (xor-shl k b c) ∙ ap (λ (v : ℕ). v * 2 ^ k) (middle a b c d))
      where
        sorted : (p q r s : ℕ) → xor (xor p q) (xor r s) ≡ xor p (xor (xor q r) s)
        sorted p q r s = simp xors

        middle : (p q r s : ℕ) → xor q r ≡ xor (xor (xor (xor p q) (xor r s)) p) s
        middle p q r s = simp xors

-- a number and its parts
pub part_⊗ : (k x y : ℕ) → x < 2 ^ 128 → x ⊗ y ≡ karatsuba k (part k 0 x ⊗ part k 0 y) (part k 1 x ⊗ part k 1 y) (part k 2 x ⊗ part k 2 y)
unfolding part
part_⊗ k x y h =
    ap₂ (λ (a b : ℕ). a ⊗ b) (sym (xor-parts k x)) (sym (xor-parts k y))
    ∙ karatsuba-⊗ k (x / 2 ^ k) (x % 2 ^ k) (y / 2 ^ k) (y % 2 ^ k) (lt_of_le_of_lt (omega (arith, split x k)) h)

-- in the square of a sum, what is not a square comes twice
pub square-xor : (x y : ℕ) → x < 2 ^ 128 → y < 2 ^ 128 → xor x y ⊗ xor x y ≡ xor (x ⊗ x) (y ⊗ y)
square-xor x y p q =
    ⊗-xor_l x y _ ∙ ap₂ xor (⊗-xor_r x x y) (⊗-xor_r y x y) ∙ ap (λ (v : ℕ). xor (xor (x ⊗ x) v) (xor (y ⊗ x) (y ⊗ y))) (⊗-comm x y p q)
    ∙ sorted (x ⊗ x) (y ⊗ x) (y ⊗ y)
  where
    sorted : (a b c : ℕ) → xor (xor a b) (xor b c) ≡ xor a c
    sorted a b c = simp xors

pub square-shl : (k x : ℕ) → x * 2 ^ k < 2 ^ 128 → (x * 2 ^ k) ⊗ (x * 2 ^ k) ≡ x ⊗ x * 2 ^ (k + k)
square-shl k x h = ⊗-shl_l k x _ h ∙ ap (λ (v : ℕ). v * 2 ^ k) (⊗-shl_r k x x) ∙ twice (x ⊗ x) k
