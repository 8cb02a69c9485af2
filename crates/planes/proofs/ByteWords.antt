-- Words of eight bytes: how a loop gathers one from memory, the highest byte first; how each byte of one is filled with a bit; and what stands in
-- the lanes of the planes that are made of such words. Rests on lib.Bits, lib.Pow, Bits and BitMoves.
use mathlib.Core.Path.{◌≡◌, refl, sym, ap, ◌∙◌}
use mathlib.Core.List.{List}
use Prim.Native.Nat.{ℕ, zero, suc, ◌+◌, ◌-◌, ◌*◌, ◌/◌, ◌%◌, ◌≤◌, ◌<◌, ◌^◌}
use native.Mathlib.Nat.{add_comm, div-div-eq-div-mul, mul-le-mul_left, not-suc-le-zero}
use native.Mathlib.Omega.{arith}
use mir.Syntax.{w8, w64}
use mir.Val.{Fits}
use lib.Arith.{digits_lt, digits_div, digits_mod}
use lib.Pow.{pow-add, pow_mono}
use lib.Bits.{bit_and, and_shr, and_mod, and_mask}
use Rattle.planes.specs.Tables.{grow, tab, at}
use Rattle.planes.specs.Substitution.{bit}
use Rattle.planes.specs.Lanes.{planes, lane, Shows, byte_of, Turned, strided, spread}
use Rattle.planes.specs.declared.Planes.{Planes}
use Rattle.planes.proofs.Tables.{at_each}
use Rattle.planes.proofs.Bits.{bit-zero, bit-lt, bit-shr, byte-ext, lane-lt, lane-bit, byte_of-lt, byte-bit}
use Rattle.planes.proofs.BitMoves.{lane-turned}

-- ---- the bytes of a number, one by one

byte_first : (x : ℕ) → byte_of x 0 ≡ x % 256
unfolding byte_of
byte_first x = omega arith

byte_next : (x p : ℕ) → byte_of x (suc p) ≡ byte_of (x / 256) p
unfolding byte_of
byte_next x p =
    let e : 8 * suc p ≡ 8 + 8 * p = omega arith in
    rw (e, pow-add, div-div-eq-div-mul)

-- ---- gathering

-- the loop's invariant: n is made of the bytes f p, f (p + 1), .., f 7, the lowest first
pub record Gathered (f : ℕ → ℕ) (n p : ℕ) : Type 0 where
  pub within : p ≤ 8
  pub fits : n < 2 ^ (8 * (8 - p))
  pub bytes : (k : ℕ) → k < 8 - p → byte_of n k ≡ f (p + k)

pub gathered_start : (f : ℕ → ℕ) → Gathered f 0 8
gathered_start f = record { within = omega arith; fits = omega arith; bytes = λ k h. absurd (not-suc-le-zero h) }

bytes_next :
    (f : ℕ → ℕ) (n p b : ℕ) → b < 256 → b ≡ f p → ((k : ℕ) → k < 8 - suc p → byte_of n k ≡ f (suc p + k)) → (k : ℕ) → k < 8 - p
    → byte_of (n * 256 + b) k ≡ f (p + k)
bytes_next f n p b l e g zero h = byte_first _ ∙ digits_mod n l ∙ e ∙ ap f (omega arith)
bytes_next f n p b l e g (suc k) h = byte_next _ k ∙ ap (λ x. byte_of x k) (digits_div n l) ∙ g k (omega arith) ∙ ap f (omega arith)

module _ (f : ℕ → ℕ) (n p : ℕ) (g : Gathered f n p) where
  pub gathered_done : p ≡ 0 → (k : ℕ) → k < 8 → byte_of n k ≡ f k
  gathered_done e k h = g.bytes k (omega arith) ∙ ap f (omega arith)

  module _ (b : ℕ) (more : 0 < p) (byte : Fits w8 b) where
    -- one byte more fits the word
    pub gathered-fits : Fits w64 (n * 256 + b)
    gathered-fits =
        let m : 2 ^ (8 * (8 - p)) ≤ 2 ^ 56 = pow_mono {i = 8 * (8 - p)} {j = 56} (omega arith) in
        omega arith

    -- one byte more, below those that are there
    pub gathered_next : b ≡ f (p - 1) → Gathered f (n * 256 + b) (p - 1)
    gathered_next e =
        let l : b < 256 = omega arith in
        let q : p ≡ suc (p - 1) = omega arith in
        let m : 8 * (8 - (p - 1)) ≡ 8 * (8 - p) + 8 = omega arith in
        record {
          within = omega arith;
          fits = rw (m, pow-add) (digits_lt g.fits l);
          bytes = bytes_next f n (p - 1) b l e (rw q at g.bytes);
        }

-- ---- where the bytes of a word stand in memory

part_le : (a d : ℕ) → d < 2 → a * d ≤ a
part_le a d h =
    let l : d ≤ 1 = omega arith in
    omega (arith, mul-le-mul_left a l)

-- none of the three steps to the place of byte p is longer than it may be
pub record Steps (a b c p : ℕ) : Type 0 where
  pub first : a * (p % 2) ≤ a
  pub second : b * (p / 2 % 2) ≤ b
  pub third : c * (p / 4) ≤ c

pub steps : (a b c p : ℕ) → p < 8 → Steps a b c p
steps a b c p h =
    record { first = part_le a (p % 2) (omega arith); second = part_le b (p / 2 % 2) (omega arith); third = part_le c (p / 4) (omega arith) }

-- the code's form of a byte's place
pub at_place : (s : List ℕ) (start a b c p : ℕ) → at s (start + a * (p % 2) + b * (p / 2 % 2) + c * (p / 4)) ≡ at s (start + strided a b c p)
unfolding strided
at_place s start a b c p = ap (at s) (omega arith)

-- ---- filling

-- the lowest bit of each byte of a word
abbrev lows : ℕ
lows = 0x0101010101010101

low_bits : (a p : ℕ) → p < 8 → byte_of (bit_and a lows) p ≡ bit a (8 * p)
unfolding byte_of bit tab grow
low_bits a p h =
    ap (λ x. x % 256) (and_shr a lows (8 * p)) ∙ and_mod (a / 2 ^ (8 * p)) (lows / 2 ^ (8 * p)) 8
    ∙ ap (bit_and (a / 2 ^ (8 * p) % 256)) (at_each 8 (byte_of lows) (λ p. 1) refl p h) ∙ and_mask (a / 2 ^ (8 * p) % 256) 1 ∙ omega arith

-- where the bytes of y up to byte p are bits, those of y * 255 are eight times that bit
times-ones : (p y : ℕ) → ((k : ℕ) → k ≤ p → byte_of y k < 2) → byte_of (y * 255) p ≡ byte_of y p * 255
times-ones zero y h =
    let low : y % 256 < 2 = rw byte_first at (h 0 (omega arith)) in
    rw (byte_first (y * 255), byte_first y) (omega arith)
times-ones (suc p) y h =
    let low : y % 256 < 2 = rw byte_first at (h 0 (omega arith)) in
    let e : y * 255 / 256 ≡ y / 256 * 255 = omega arith in
    rw (byte_next (y * 255) p, byte_next y p, e) (times-ones p (y / 256) (λ k l. rw byte_next at (h (suc k) (omega arith))))

bit-ones : (d j : ℕ) → d < 2 → j < 8 → bit (d * 255) j ≡ d
unfolding bit tab grow
bit-ones zero j l h = bit-zero j
bit-ones (suc zero) j l h = at_each 8 (bit 255) (λ j. 1) refl j h
bit-ones (suc (suc d)) j l h = omega arith

-- each byte filled with its bit j
pub bit-filled : (n j i : ℕ) → i < 64 → bit (bit_and (n / 2 ^ j) lows * 255) i ≡ bit n (8 * (i / 8) + j)
bit-filled n j i h =
    let a : ℕ = n / 2 ^ j in
    let y : ℕ = bit_and a lows in
    let e : 8 * (i / 8) + i % 8 ≡ i = omega arith in
    let small : (k : ℕ) → k ≤ i / 8 → byte_of y k < 2 = λ k l. rw (low_bits a k (omega arith)) (bit-lt a (8 * k)) in
    ap (bit (y * 255)) (sym e) ∙ sym (byte-bit (y * 255) (i / 8) (i % 8) (omega arith)) ∙ ap (λ x. bit x (i % 8)) (times-ones (i / 8) y small)
    ∙ bit-ones (byte_of y (i / 8)) (i % 8) (small (i / 8) (omega arith)) (omega arith) ∙ low_bits a (i / 8) (omega arith)
    ∙ bit-shr n j (8 * (i / 8)) ∙ ap (bit n) (add_comm j (8 * (i / 8)))

-- planes filled from one word: lane i holds its byte i / 8
shows-filled :
    (q : Planes) (n : ℕ) → ((j : ℕ) → j < 8 → (i : ℕ) → i < 64 → bit (at (planes q) j) i ≡ bit n (8 * (i / 8) + j))
    → Shows q (λ i. byte_of n (i / 8))
shows-filled q n e i h =
    byte-ext (lane q i) (byte_of n (i / 8)) (lane-lt q i) (byte_of-lt n (i / 8))
    (λ j l. lane-bit q i j l ∙ e j l i h ∙ sym (byte-bit n (i / 8) j l))

-- ---- the lanes of packed bytes

-- what holds at each of the eight
pub eight : (P : ℕ → Type 0) → P 0 → P 1 → P 2 → P 3 → P 4 → P 5 → P 6 → P 7 → (k : ℕ) → k < 8 → P k
eight P a b c d e f g h zero l = a
eight P a b c d e f g h (suc zero) l = b
eight P a b c d e f g h (suc (suc zero)) l = c
eight P a b c d e f g h (suc (suc (suc zero))) l = d
eight P a b c d e f g h (suc (suc (suc (suc zero)))) l = e
eight P a b c d e f g h (suc (suc (suc (suc (suc zero))))) l = f
eight P a b c d e f g h (suc (suc (suc (suc (suc (suc zero)))))) l = g
eight P a b c d e f g h (suc (suc (suc (suc (suc (suc (suc zero))))))) l = h
eight P a b c d e f g h (suc (suc (suc (suc (suc (suc (suc (suc k)))))))) l = absurd (omega arith)

-- byte i / 8 of word i % 8 of a row, in memory
row-place : (i : ℕ) → i < 64 → 16 * (i % 8) + strided 128 4 8 (i / 8) ≡ 16 * (i % 16) + 4 * (i / 16)
unfolding strided tab grow
row-place i h = at_each 64 (λ i. 16 * (i % 8) + strided 128 4 8 (i / 8)) (λ i. 16 * (i % 16) + 4 * (i / 16)) refl i h

-- word m has the bytes of s from `start` on, a, b and c apart
abbrev Holds : List ℕ → ℕ → ℕ → ℕ → ℕ → ℕ → Type 0
Holds s start a b c m = (p : ℕ) → p < 8 → byte_of m p ≡ at s (start + strided a b c p)

module _ (s : List ℕ) where
  -- the four words of a block, each twice
  pub shows-block :
      (w r : Planes) → Turned w r → ((k : ℕ) → k < 8 → Holds s (4 * (k % 4)) 1 2 0 (at (planes w) k)) → Shows r (spread s)
  unfolding spread strided
  shows-block w r t e i h =
      lane-turned w r t i h ∙ e (i % 8) (omega arith) (i / 8) (omega arith) ∙ ap (at s) (omega arith)

  -- the eight words of row n of sixteen blocks
  pub shows-row :
      (n : ℕ) (w r : Planes) → Turned w r → ((k : ℕ) → k < 8 → Holds s (n + 16 * k) 128 4 8 (at (planes w) k))
      → Shows r (λ i. at s (16 * (i % 16) + (4 * (i / 16) + n)))
  shows-row n w r t e i h =
      let place : n + 16 * (i % 8) + strided 128 4 8 (i / 8) ≡ 16 * (i % 16) + (4 * (i / 16) + n) = omega (arith, row-place i h) in
      lane-turned w r t i h ∙ e (i % 8) (omega arith) (i / 8) (omega arith) ∙ ap (at s) place

  -- the word of row n of one block, of which all planes are filled
  pub shows-repeated :
      (n m : ℕ) (q : Planes) → Holds s n 0 4 8 m
      → ((j : ℕ) → j < 8 → (i : ℕ) → i < 64 → bit (at (planes q) j) i ≡ bit m (8 * (i / 8) + j)) → Shows q (λ i. at s (4 * (i / 16) + n))
  unfolding strided
  shows-repeated n m q g e i h = shows-filled q m e i h ∙ g (i / 8) (omega arith) ∙ ap (at s) (omega arith)
