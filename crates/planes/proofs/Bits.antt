-- The bits of numbers: those of exclusive or, of and, of or, of shifts and of rests; the number that is made of bits; and lanes and bytes of a
-- word by their bits. Rests on lib.Bits and lib.Pow.
use mathlib.Core.Path.{◌≡◌, refl, sym, ap, ap₂, ◌∙◌}
use mathlib.Core.Logic.{◌⊎◌, inl, inr}
use Prim.Native.Nat.{ℕ, zero, suc, ◌+◌, ◌-◌, ◌*◌, ◌/◌, ◌%◌, ◌≤◌, ◌<◌, ◌^◌}
use native.Mathlib.Nat.{lt_of_lt_of_le, mod-lt, zero-lt-suc, zero-div, zero-add, mul_assoc, add_comm, add-mul-div_right, add-mul-mod_self_right, div-eq_of_lt, mod-eq_of_lt, mod-add-div', not-suc-le-zero, eq-or-lt_of_le, le_of_suc-le-suc, pow-succ'}
use native.Mathlib.Omega.{arith}
use lib.Arith.{digits_lt}
use lib.Pow.{pow_pos, pow_mono, pow-add, shl-shr, shr-shr}
use lib.Bits.{bit_xor, bit_and, bit_or, xor_shr, and_shr, or_shr, xor_mod, and_mod, or_mod}
use Rattle.planes.specs.Tables.{grow, tab, at}
use Rattle.planes.specs.Substitution.{bit, number_of_bits}
use Rattle.planes.specs.Lanes.{planes, lane, byte_of}
use Rattle.planes.specs.declared.Planes.{Planes}
use Rattle.planes.proofs.Tables.{at_each}

pub bit-xor : (a b i : ℕ) → bit (bit_xor a b) i ≡ bit_xor (bit a i) (bit b i)
unfolding bit
bit-xor a b i = ap (λ x. x % 2) (xor_shr a b i) ∙ xor_mod (a / 2 ^ i) (b / 2 ^ i) 1

pub bit-and : (a b i : ℕ) → bit (bit_and a b) i ≡ bit_and (bit a i) (bit b i)
unfolding bit
bit-and a b i = ap (λ x. x % 2) (and_shr a b i) ∙ and_mod (a / 2 ^ i) (b / 2 ^ i) 1

pub bit-or : (a b i : ℕ) → bit (bit_or a b) i ≡ bit_or (bit a i) (bit b i)
unfolding bit
bit-or a b i = ap (λ x. x % 2) (or_shr a b i) ∙ or_mod (a / 2 ^ i) (b / 2 ^ i) 1

pub bit-lt : (a i : ℕ) → bit a i < 2
unfolding bit
bit-lt a i = mod-lt (a / 2 ^ i) (zero-lt-suc 1)

pub bit-zero : (i : ℕ) → bit 0 i ≡ 0
unfolding bit
bit-zero i = rw zero-div

-- shifted to the right by s places
pub bit-shr : (a s i : ℕ) → bit (a / 2 ^ s) i ≡ bit a (s + i)
unfolding bit
bit-shr a s i = ap (λ x. x % 2) (shr-shr a s i)

-- ---- the bits of a number with digits d from place n on and r below it

module _ (d n r : ℕ) where
  -- n is j and k places and one more
  bit_below : (j k : ℕ) → n ≡ k + 1 + j → bit (r + d * 2 ^ n) j ≡ bit r j
  unfolding bit
  bit_below j k e =
      let places : d * 2 ^ n ≡ d * 2 ^ k * 2 * 2 ^ j =
      rw (e, pow-add, pow-add) (sym (mul_assoc d (2 ^ k * 2) (2 ^ j)) ∙ ap (λ x. x * 2 ^ j) (sym (mul_assoc d (2 ^ k) 2)))
      in
      rw (places, add-mul-div_right r (d * 2 ^ k * 2) (pow_pos j)) (add-mul-mod_self_right (r / 2 ^ j) (d * 2 ^ k) 2)

  bit_at : r < 2 ^ n → d < 2 → bit (r + d * 2 ^ n) n ≡ d
  unfolding bit
  bit_at h l = rw (add-mul-div_right r d (pow_pos n), div-eq_of_lt h, zero-add) (mod-eq_of_lt l)

-- ---- a number by its bits

pub from_bits-ext : (n : ℕ) (f g : ℕ → ℕ) → ((j : ℕ) → j < n → f j ≡ g j) → number_of_bits n f ≡ number_of_bits n g
unfolding number_of_bits
from_bits-ext zero f g h = refl
from_bits-ext (suc n) f g h = ap₂ (λ (x y : ℕ). x + y * 2 ^ n) (from_bits-ext n f g (λ j l. h j (omega arith))) (h n (omega arith))

module _ (f : ℕ → ℕ) (small : (j : ℕ) → f j < 2) where
  pub from_bits-lt : (n : ℕ) → number_of_bits n f < 2 ^ n
  unfolding number_of_bits
  from_bits-lt zero = zero-lt-suc 0
  from_bits-lt (suc n) = rw (add_comm (number_of_bits n f) (f n * 2 ^ n), pow-succ') (digits_lt (small n) (from_bits-lt n))

  bit_more : (n j : ℕ) → (j < n → bit (number_of_bits n f) j ≡ f j) → (j ≡ n) ⊎ (j < n) → bit (number_of_bits (suc n) f) j ≡ f j
  unfolding number_of_bits
  bit_more n j ih (inl e) = rw e (bit_at (f n) n (number_of_bits n f) (from_bits-lt n) (small n))
  bit_more n j ih (inr l) = bit_below (f n) n (number_of_bits n f) j (n - (j + 1)) (omega arith) ∙ ih l

  -- it has the bits of which it is made
  pub bit-made : (n j : ℕ) → j < n → bit (number_of_bits n f) j ≡ f j
  bit-made zero j h = absurd (not-suc-le-zero h)
  bit-made (suc n) j h = bit_more n j (λ l. bit-made n j l) (eq-or-lt_of_le (le_of_suc-le-suc h))

-- a byte is made of its eight bits
pub byte-bits : (b : ℕ) → b < 256 → number_of_bits 8 (bit b) ≡ b
unfolding tab grow bit number_of_bits
byte-bits b h = at_each 256 (λ b. number_of_bits 8 (bit b)) (λ b. b) refl b h

-- two bytes are equal by their bits
pub byte-ext : (a b : ℕ) → a < 256 → b < 256 → ((j : ℕ) → j < 8 → bit a j ≡ bit b j) → a ≡ b
byte-ext a b ha hb e = sym (byte-bits a ha) ∙ from_bits-ext 8 (bit a) (bit b) e ∙ byte-bits b hb

-- ---- lanes

pub lane-lt : (q : Planes) (i : ℕ) → lane q i < 256
unfolding lane
lane-lt q i = from_bits-lt _ (λ j. bit-lt (at (planes q) j) i) 8

pub lane-bit : (q : Planes) (i j : ℕ) → j < 8 → bit (lane q i) j ≡ bit (at (planes q) j) i
unfolding lane
lane-bit q i j h = bit-made _ (λ j. bit-lt (at (planes q) j) i) 8 j h

-- ---- the bits of a rest, and of bytes of a word

-- the lowest m bits
pub bit-mod : (a m i : ℕ) → i < m → bit (a % 2 ^ m) i ≡ bit a i
bit-mod a m i h =
    sym (bit_below (a / 2 ^ m) m (a % 2 ^ m) i (m - (i + 1)) (omega arith)) ∙ ap (λ x. bit x i) (mod-add-div' a (2 ^ m))

pub byte_of-lt : (x p : ℕ) → byte_of x p < 256
unfolding byte_of
byte_of-lt x p = mod-lt (x / 2 ^ (8 * p)) (zero-lt-suc 255)

pub byte-bit : (x p j : ℕ) → j < 8 → bit (byte_of x p) j ≡ bit x (8 * p + j)
unfolding byte_of
byte-bit x p j h = bit-mod (x / 2 ^ (8 * p)) 8 j h ∙ bit-shr x (8 * p) j

-- ---- the bits of a number shifted to the left by s places, and those beyond a number

-- from place s on
pub bit-shl : (a s i : ℕ) → s ≤ i → bit (a * 2 ^ s) i ≡ bit a (i - s)
bit-shl a s i h =
    let places : i ≡ s + (i - s) = omega arith in
    ap (bit (a * 2 ^ s)) places ∙ sym (bit-shr (a * 2 ^ s) s (i - s)) ∙ ap (λ x. bit x (i - s)) (shl-shr a s)

-- below place s
pub bit-shl-below : (a s i : ℕ) → i < s → bit (a * 2 ^ s) i ≡ 0
bit-shl-below a s i h = ap (λ x. bit x i) (sym (zero-add (a * 2 ^ s))) ∙ bit_below a s 0 i (s - (i + 1)) (omega arith) ∙ bit-zero i

-- from place m on, of a number below 2 ^ m
pub bit-beyond : (a m i : ℕ) → a < 2 ^ m → m ≤ i → bit a i ≡ 0
unfolding bit
bit-beyond a m i h l = rw (div-eq_of_lt (lt_of_lt_of_le h (pow_mono l)))
