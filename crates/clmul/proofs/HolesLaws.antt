-- Integer products with holes: where all digits to the base 16 of the factors are 0 or 1, and one factor has at most eight of them, no digit of
-- the integer product passes 8, and the last bits of the digits are the carry-less product (`plane-⊗`). And the laws of `plane`, which takes these
-- bits out. Rests on Products.
use mathlib.Core.Path.{◌≡◌, refl, sym, ap, ap₂, ◌∙◌}
use Prim.Native.Nat.{ℕ, zero, suc, ◌+◌, ◌*◌, ◌/◌, ◌%◌, ◌^◌, ◌≤◌, ◌<◌}
use native.Mathlib.Nat.{mod-lt, zero-mul, one-mul, zero-lt-suc, add-zero, mul-mod_left, mul-div_cancel, zero-div}
use native.Mathlib.Nat.{le_refl, lt_of_lt_of_le, not-suc-le-zero, pow-le-pow_right, pow-suc}
use native.Mathlib.Omega.{arith}
use lib.Arith.{digits_lt, digits_div, digits_mod}
use lib.Pow.{pow_pos, split, mod-mod-pow}
use lib.Bits as B
use lib.Dec.{lit<}
use Rattle.clmul.specs.Xor.{xor}
use Rattle.clmul.specs.Carryless.{◌⊗◌}
use Rattle.clmul.specs.Halves.{plane}
use Rattle.clmul.proofs.Xor.{xor_zero_l, xor_zero_r, xor-odd, xor_shr, xor-split, xor-add, xor_self, odd-lt, digit}
use Rattle.clmul.proofs.Products.{⊗-zero_l, ⊗-one_l, ⊗-xor_l, ⊗-shl_l}

-- ---- the plane of a number

plane-zero : (n : ℕ) → plane n 0 ≡ 0
unfolding plane
plane-zero zero = refl
plane-zero (suc n) = simp (zero-div, plane-zero n) refl

bit-lt : (v : ℕ) → v % 2 < 16
bit-lt v = omega (arith, odd-lt v)

pub plane-xor : (n u v : ℕ) → plane n (xor u v) ≡ xor (plane n u) (plane n v)
unfolding plane
plane-xor zero u v = sym (xor_zero_l 0)
plane-xor (suc n) u v =
    ap₂ (λ (a b : ℕ). a * 16 + b) (ap (plane n) (xor_shr 4 u v) ∙ plane-xor n (u / 16) (v / 16)) (xor-odd u v)
    ∙ sym (xor-split 4 _ _ (u % 2) (v % 2) (bit-lt u) (bit-lt v))

-- the mask of n digits
unfoldable pub ones : ℕ → ℕ
ones zero = 0
ones (suc n) = ones n * 16 + 1

-- a plane is what a mask leaves
pub and-ones : (n v : ℕ) → B.bit_and v (ones n) ≡ plane n v
unfolding plane ones
and-ones zero v = B.and_zero_r v
and-ones (suc n) v =
    ap (λ (w : ℕ). B.bit_and w (ones n * 16 + 1)) (sym (split v 4))
    ∙ B.and_block 4 (v / 16) (ones n) (v % 16) 1 (mod-lt v (pow_pos 4)) (lit< tt)
    ∙ ap₂ (λ (a b : ℕ). a * 16 + b) (and-ones n (v / 16)) (B.and_mask (v % 16) 1 ∙ mod-mod-pow v 3 1)

pub plane-le : (n v : ℕ) → plane n v ≤ ones n
plane-le n v = rw (← and-ones n v) (B.and_le_r v (ones n))

pub plane-lt : (n v : ℕ) → plane n v < 16 ^ n
unfolding plane
plane-lt zero v = zero-lt-suc 0
plane-lt (suc n) v = rw (pow-suc 16 n) (digits_lt (plane-lt n (v / 16)) (bit-lt v))

-- taken again, a plane stays
plane_again : (m n v : ℕ) → n ≤ m → plane m (plane n v) ≡ plane n v
unfolding plane
plane_again m zero v h = plane-zero m
plane_again zero (suc n) v h = absurd (not-suc-le-zero h)
plane_again (suc m) (suc n) v h =
    ap₂ (λ (a b : ℕ). a * 16 + b)
    (ap (plane m) (digits_div (plane n (v / 16)) (bit-lt v)) ∙ plane_again m n (v / 16) (omega arith))
    (last (plane n (v / 16)) (v % 2) (odd-lt v))
  where
    last : (a b : ℕ) → b < 2 → (a * 16 + b) % 2 ≡ b
    last a b l = omega arith

-- ---- digits to the base 16

-- digit i
unfoldable pub hex_digit_at : ℕ → ℕ → ℕ
hex_digit_at v zero = v % 16
hex_digit_at v (suc i) = hex_digit_at (v / 16) i

-- every digit is at most c
pub record Digits (c v : ℕ) : Type 0 where
  pub each : (i : ℕ) → hex_digit_at v i ≤ c

digit_at-zero : (i : ℕ) → hex_digit_at 0 i ≡ 0
unfolding hex_digit_at
digit_at-zero zero = refl
digit_at-zero (suc i) = ap (λ (v : ℕ). hex_digit_at v i) (zero-div 16) ∙ digit_at-zero i

digits-zero : (c : ℕ) → Digits c 0
digits-zero c = record { each = λ i. rw (digit_at-zero i) (omega arith) }

-- the digits but the last
digits_high : {c v : ℕ} → Digits c v → Digits c (v / 16)
unfolding hex_digit_at
digits_high d = record { each = λ i. d.each (suc i) }

digits_last : {c v : ℕ} → Digits c v → v % 16 ≤ c
unfolding hex_digit_at
digits_last d = d.each 0

digits_from : {c v : ℕ} → v % 16 ≤ c → Digits c (v / 16) → Digits c v
unfolding hex_digit_at
digits_from {c} {v} l d = record { each = at }
  where
    at : (i : ℕ) → hex_digit_at v i ≤ c
    at zero = l
    at (suc i) = d.each i

digits-weaken : {c d v : ℕ} → c ≤ d → Digits c v → Digits d v
digits-weaken l x = record { each = λ i. omega (arith, x.each i) }

-- where the digits of two numbers have room in sixteen together, they are added one by one
room : (u v : ℕ) → u % 16 + v % 16 ≤ 15 → ((u + v) / 16 ≡ u / 16 + v / 16) × ((u + v) % 16 ≡ u % 16 + v % 16)
room u v h = (omega arith, omega arith)

module _ {c d : ℕ} (fits : c + d ≤ 15) where
  no_carry : {u v : ℕ} → Digits c u → Digits d v → u % 16 + v % 16 ≤ 15
  no_carry x y = omega (arith, digits_last x, digits_last y, fits)

  digits-add_at : (u v : ℕ) → Digits c u → Digits d v → (i : ℕ) → hex_digit_at (u + v) i ≤ c + d
  unfolding hex_digit_at
  digits-add_at u v x y zero = rw (room u v (no_carry x y)).1 (omega (arith, digits_last x, digits_last y))
  digits-add_at u v x y (suc i) = rw (room u v (no_carry x y)).0 (digits-add_at (u / 16) (v / 16) (digits_high x) (digits_high y) i)

  digits-add : {u v : ℕ} → Digits c u → Digits d v → Digits (c + d) (u + v)
  digits-add {u} {v} x y = record { each = digits-add_at u v x y }

  -- and so are their last bits, without a carry
  plane-add : (n u v : ℕ) → Digits c u → Digits d v → plane n (u + v) ≡ xor (plane n u) (plane n v)
  unfolding plane
  plane-add zero u v x y = sym (xor_zero_l 0)
  plane-add (suc n) u v x y =
      ap₂ (λ (a b : ℕ). a * 16 + b)
      (ap (plane n) (room u v (no_carry x y)).0 ∙ plane-add n (u / 16) (v / 16) (digits_high x) (digits_high y))
      (odd-sum u v)
      ∙ sym (xor-split 4 _ _ (u % 2) (v % 2) (bit-lt u) (bit-lt v))
    where
      digits_sum : (a b : ℕ) → a < 2 → b < 2 → (a + b) % 2 ≡ xor a b
      digits_sum a b p q =
          digit (λ (k : ℕ). (k + b) % 2 ≡ xor k b) (omega (arith, xor_zero_l b))
          (digit (λ (k : ℕ). (1 + k) % 2 ≡ xor 1 k) (sym (xor_zero_r 1)) (sym (xor_self 1)) b q) a p

      odd-sum : (a b : ℕ) → (a + b) % 2 ≡ xor (a % 2) (b % 2)
      odd-sum a b = halves-sum ∙ digits_sum (a % 2) (b % 2) (odd-lt a) (odd-lt b)
        where
          halves-sum : (a + b) % 2 ≡ (a % 2 + b % 2) % 2
          halves-sum = omega arith

-- ---- the product of two planes

digits-plane : (n v : ℕ) → Digits 1 (plane n v)
unfolding plane
digits-plane zero v = digits-zero 1
digits-plane (suc n) v =
    digits_from (rw (digits_mod (plane n (v / 16)) (bit-lt v)) (omega (arith, odd-lt v)))
    (rw (digits_div (plane n (v / 16)) (bit-lt v)) (digits-plane n (v / 16)))

-- a number moved up by a digit
digits_up : {c v : ℕ} → Digits c v → Digits c (v * 16)
digits_up {c} {v} d = digits_from (rw (mul-mod_left v 16) (omega arith)) (rw (mul-div_cancel v (zero-lt-suc 15)) d)

plane_up : (n v : ℕ) → plane (suc n) (v * 16) ≡ plane n v * 16
unfolding plane
plane_up n v = ap₂ (λ (a b : ℕ). plane n a * 16 + b) (mul-div_cancel v (zero-lt-suc 15)) (even v) ∙ add-zero _
  where
    even : (w : ℕ) → w * 16 % 2 ≡ 0
    even w = omega arith

-- a plane's next digit times b: moved up, and once more b where the last digit is one
next_product : (a d b : ℕ) → (a * 16 + d) * b ≡ a * b * 16 + d * b
next_product a d b = omega arith

module _ (b : ℕ) (sparse : Digits 1 b) where
  digits-row : (d : ℕ) → d < 2 → Digits 1 (d * b)
  digits-row d l = digit (λ (k : ℕ). Digits 1 (k * b)) (rw (zero-mul b) (digits-zero 1)) (rw (one-mul b) sparse) d l

  digits_product : (n x : ℕ) → n ≤ 14 → Digits n (plane n x * b)
  unfolding plane
  digits_product zero x l = rw (zero-mul b) (digits-zero 0)
  digits_product (suc n) x l =
      rw (next_product (plane n (x / 16)) (x % 2) b)
      (digits-weaken (omega arith)
      (digits-add {c = n} {d = 1} (omega arith) (digits_up (digits_product n (x / 16) (omega arith))) (digits-row (x % 2) (odd-lt x))))

  -- the last bits of the integer product are the carry-less product
  plane-product : (n m x : ℕ) → m ≡ n + 7 → n ≤ 8 → plane 8 b ≡ b → plane m (plane n x * b) ≡ plane n x ⊗ b
  unfolding plane
  plane-product zero m x e l f = ap (plane m) (zero-mul b) ∙ plane-zero m ∙ sym (⊗-zero_l b)
  plane-product (suc n) zero x e l f = absurd (impossible e)
    where
      impossible : 0 ≡ suc n + 7 → ⊥
      impossible h = omega arith
  plane-product (suc n) (suc m) x e l f =
      let a = plane n (x / 16) in
      let d = x % 2 in
      ap (plane (suc m)) (next_product a d b)
      ∙ plane-add {c = n} {d = 1} (omega arith) (suc m) (a * b * 16) (d * b)
      (digits_up (digits_product n (x / 16) (omega arith))) (digits-row d (odd-lt x))
      ∙ ap₂ xor (plane_up m (a * b) ∙ ap (λ (v : ℕ). v * 16) (plane-product n m (x / 16) (omega arith) (omega arith) f)) (row d (odd-lt x))
      ∙ sym (ap (λ (v : ℕ). v ⊗ b) (sym (xor-add 4 a d (bit-lt x))) ∙ ⊗-xor_l (a * 16) d b ∙ ap₂ xor (⊗-shl_l 4 a b (small a (plane-lt n (x / 16)))) refl)
    where
      row : (k : ℕ) → k < 2 → plane (suc m) (k * b) ≡ k ⊗ b
      row k h =
          digit (λ (i : ℕ). plane (suc m) (i * b) ≡ i ⊗ b) (ap (plane (suc m)) (zero-mul b) ∙ plane-zero (suc m) ∙ sym (⊗-zero_l b))
          (ap (plane (suc m)) (one-mul b ∙ sym f) ∙ plane_again (suc m) 8 b (omega arith) ∙ f ∙ sym (⊗-one_l b)) k h

      small : (v : ℕ) → v < 16 ^ n → v * 16 < 2 ^ 128
      small v h =
          let below : v < 16 ^ 8 = lt_of_lt_of_le h (pow-le-pow_right (zero-lt-suc 15) {i = n} {j = 8} (omega arith)) in
          let few : v * 16 < 2 ^ 36 = omega arith in
          lt_of_lt_of_le few (pow-le-pow_right (zero-lt-suc 1) {i = 36} {j = 128} (omega arith))

-- the core of all products here: two planes of eight digits
pub plane-⊗ : (x y : ℕ) → plane 15 (plane 8 x * plane 8 y) ≡ plane 8 x ⊗ plane 8 y
plane-⊗ x y = plane-product (plane 8 y) (digits-plane 8 y) 8 15 x refl (le_refl 8) (plane_again 8 8 y (le_refl 8))
