-- Words whose bits move, by masks, shifts and `|`. Which bits of which words reach a bit of the result is computed from the masks and shifts
-- alone; where it is a single one, the result's bit is that bit. Then what the moves do to lanes. Rests on the laws of bits and on lib.Bits.
use mathlib.Core.Path.{◌≡◌, refl, sym, ap, ap₂, ◌∙◌}
use mathlib.Core.List.{List, [], ◌∷◌, ◌++◌}
use mathlib.Core.Logic.{◌⊎◌, inl, inr}
use Prim.Native.Nat.{ℕ, zero, suc, ◌+◌, ◌-◌, ◌*◌, ◌/◌, ◌%◌, ◌^◌, ◌<◌, max}
use native.Mathlib.Nat.{eq-zero-or-pos, zero-add, mod-lt, mod-eq_of_lt, div-eq_of_lt, max-zero, zero-max}
use native.Mathlib.Omega.{arith}
use lib.Bits.{bit_and, bit_or, or_step, and_zero_r, or_zero_r, or_self, and_mask}
use lib.Pow.{pow_pos}
use Rattle.planes.specs.Tables.{grow, tab, at}
use Rattle.planes.specs.Substitution.{bit}
use Rattle.planes.specs.Lanes.{planes, lane, Shows, Turned, byte_of}
use Rattle.planes.specs.declared.Planes.{Planes}
use Rattle.planes.proofs.Tables.{get_d_tab, at_each}
use Rattle.planes.proofs.Bits.{from_bits-ext, bit-and, bit-or, bit-lt, bit-shr, bit-mod, bit-shl, bit-shl-below, bit-beyond, byte-ext, lane-lt, lane-bit, byte_of-lt, byte-bit}

-- ---- moves

-- a word made of words: word k of a list, shifted to the right or to the left by s places, cut to 64 bits, masked, joined
pub data Move : Type 0 where
  word : ℕ → Move
  right : ℕ → Move → Move
  left : ℕ → Move → Move
  cut : Move → Move
  mask : ℕ → Move → Move
  join : Move → Move → Move

-- what it makes of words w
unfoldable pub made : List ℕ → Move → ℕ
made w (word k) = at w k
made w (right s t) = made w t / 2 ^ s
made w (left s t) = made w t * 2 ^ s
made w (cut t) = made w t % 2 ^ 64
made w (mask m t) = bit_and (made w t) m
made w (join t u) = bit_or (made w t) (made w u)

-- a list, or nothing at zero
unfoldable kept : ℕ → List (ℕ × ℕ) → List (ℕ × ℕ)
kept zero l = []
kept (suc n) l = l

-- the words and their bits that reach bit i
unfoldable sources : Move → ℕ → List (ℕ × ℕ)
sources (word k) i = (k, i) ∷ []
sources (right s t) i = sources t (s + i)
sources (left s t) i = kept (i + 1 - s) (sources t (i - s))
sources (cut t) i = kept (64 - i) (sources t i)
sources (mask m t) i = kept (bit m i) (sources t i)
sources (join t u) i = sources t i ++ sources u i

-- the bits of some sources, joined
unfoldable joined : List ℕ → List (ℕ × ℕ) → ℕ
joined w [] = 0
joined w (s ∷ l) = max (bit (at w s.0) s.1) (joined w l)

max_assoc : (a b c : ℕ) → max (max a b) c ≡ max a (max b c)
max_assoc a b c = omega arith

-- the greater of two bits
or-bits : (a b : ℕ) → a < 2 → b < 2 → bit_or a b ≡ max a b
or-bits a b ha hb = or_step a b ∙ rw (div-eq_of_lt ha, div-eq_of_lt hb, mod-eq_of_lt ha, mod-eq_of_lt hb) (zero-add (max a b))

module _ (w : List ℕ) where
  joined-append : (k l : List (ℕ × ℕ)) → joined w (k ++ l) ≡ max (joined w k) (joined w l)
  unfolding joined
  joined-append [] l = sym (zero-max (joined w l))
  joined-append (s ∷ k) l = ap (max _) (joined-append k l) ∙ sym (max_assoc _ _ _)

  -- a bit b that is kept where n is not zero, and is zero otherwise
  joined_kept : (n b : ℕ) (l : List (ℕ × ℕ)) → (0 < n → b ≡ joined w l) → (n ≡ 0 → b ≡ 0) → b ≡ joined w (kept n l)
  unfolding joined kept
  joined_kept zero b l e z = z refl
  joined_kept (suc n) b l e z = e (omega arith)

  -- a bit of what is made is that of its sources
  bit-sources : (t : Move) (i : ℕ) → bit (made w t) i ≡ joined w (sources t i)
  unfolding made sources
  bit-sources (word k) i = unfold joined in sym (max-zero _)
  bit-sources (right s t) i = bit-shr (made w t) s i ∙ bit-sources t (s + i)
  bit-sources (left s t) i =
      joined_kept (i + 1 - s) (bit (made w t * 2 ^ s) i) (sources t (i - s))
      (λ h. bit-shl (made w t) s i (omega arith) ∙ bit-sources t (i - s))
      (λ h. bit-shl-below (made w t) s i (omega arith))
  bit-sources (cut t) i =
      joined_kept (64 - i) (bit (made w t % 2 ^ 64) i) (sources t i)
      (λ h. bit-mod (made w t) 64 i (omega arith) ∙ bit-sources t i)
      (λ h. bit-beyond (made w t % 2 ^ 64) 64 i (mod-lt (made w t) (pow_pos 64)) (omega arith))
  bit-sources (mask m t) i =
      let b : ℕ = bit (made w t) i in
      bit-and (made w t) m i
      ∙ joined_kept (bit m i) (bit_and b (bit m i)) (sources t i)
      (λ h. ap (bit_and b) (omega (arith, bit-lt m i)) ∙ and_mask b 1 ∙ mod-eq_of_lt (bit-lt (made w t) i) ∙ bit-sources t i)
      (λ h. ap (bit_and b) h ∙ and_zero_r b)
  bit-sources (join t u) i =
      bit-or (made w t) (made w u) i ∙ or-bits (bit (made w t) i) (bit (made w u) i) (bit-lt (made w t) i) (bit-lt (made w u) i)
      ∙ ap₂ max (bit-sources t i) (bit-sources u i) ∙ sym (joined-append (sources t i) (sources u i))

  -- where bit i has a single source, it is that
  bit_moved : (t : Move) (i k p : ℕ) → sources t i ≡ (k, p) ∷ [] → bit (made w t) i ≡ bit (at w k) p
  bit_moved t i k p e = bit-sources t i ∙ ap (joined w) e ∙ (unfold joined in max-zero (bit (at w k) p))

-- ---- the moves of the code

-- as `slide` moves the bits of word 0
unfoldable pub sliding : Move
sliding =
    let y : Move =
    join
    (join
    (join (mask 0x0000_000f_0000_000f (word 0)) (mask 0x0000_0f00_0000_0f00 (right 1 (word 0))))
    (mask 0x000f_0000_000f_0000 (right 2 (word 0))))
    (mask 0x0f00_0000_0f00_0000 (right 3 (word 0)))
    in
    join y (cut (left 4 y))

-- the bit that reaches bit i
abbrev pub slid_from : ℕ → ℕ
slid_from i = 8 * (i / 8) + (i % 4 + i / 8 % 4)

-- each bit has one source, by a computed test of 64
pub bit-slid : (x i : ℕ) → i < 64 → bit (made (x ∷ []) sliding) i ≡ bit x (slid_from i)
unfolding tab grow sources kept bit sliding
bit-slid x i h = bit_moved (x ∷ []) sliding i 0 (slid_from i) (at_each 64 (sources sliding) (λ i. (0, slid_from i) ∷ []) refl i h)

-- the first at zero
unfoldable pub either : ℕ → Move → Move → Move
either zero t u = t
either (suc n) t u = u

-- of words in pairs, s apart, the bits of the first outside m change places with those of the second in m
unfoldable pub exchanged : ℕ → ℕ → (ℕ → Move) → ℕ → Move
exchanged s m t k =
    either (k / s % 2)
    (join (mask m (t k)) (mask (m * 2 ^ s) (cut (left s (t (k + s))))))
    (join (mask m (right s (t (k - s)))) (mask (m * 2 ^ s) (t k)))

-- as `turned` makes word k
unfoldable pub turning : ℕ → Move
turning = exchanged 4 0x0f0f_0f0f_0f0f_0f0f (exchanged 2 0x3333_3333_3333_3333 (exchanged 1 0x5555_5555_5555_5555 word))

-- each bit has one source, by a computed test of 512: bit i of word j is n = 64·j + i
turning-sources : (n : ℕ) → n < 512 → sources (turning (n / 64)) (n % 64) ≡ (n % 8, 8 * (n % 64 / 8) + n / 64) ∷ []
unfolding tab grow sources kept bit turning exchanged either
turning-sources n h = at_each 512 (λ n. sources (turning (n / 64)) (n % 64)) (λ n. (n % 8, 8 * (n % 64 / 8) + n / 64) ∷ []) refl n h

-- the eight words, bit by bit
pub bit-turned :
    (w : List ℕ) (j i : ℕ) → j < 8 → i < 64 → bit (at (tab 8 (λ j. made w (turning j))) j) i ≡ bit (at w (i % 8)) (8 * (i / 8) + j)
bit-turned w j i hj hi =
    let n : ℕ = 64 * j + i in
    let row : n / 64 ≡ j = omega arith in
    let place : n % 64 ≡ i = omega arith in
    let from : n % 8 ≡ i % 8 = omega arith in
    ap (λ x. bit x i) (get_d_tab 8 (λ j. made w (turning j)) j 0 hj)
    ∙ bit_moved w (turning j) i (i % 8) (8 * (i / 8) + j) (rw (row, place, from) at (turning-sources n (omega arith)))

-- ---- a rotation

module _ (x n i : ℕ) (hx : x < 2 ^ 64) (hn : n < 64) (hi : i < 64) where
  -- bit i of the word shifted to the right and to the left, joined
  halves :
      (n ≡ 0) ⊎ (0 < n) → (64 - (i + n) ≡ 0) ⊎ (0 < 64 - (i + n))
      → bit_or (bit x (n + i)) (bit (x * 2 ^ ((64 - n) % 64)) i) ≡ bit x ((i + n) % 64)
  halves (inl z) b =
      let here : n + i ≡ (i + n) % 64 = omega arith in
      let there : i - (64 - n) % 64 ≡ (i + n) % 64 = omega arith in
      ap₂ bit_or (ap (bit x) here) (bit-shl x ((64 - n) % 64) i (omega arith) ∙ ap (bit x) there) ∙ or_self (bit x ((i + n) % 64))
  halves (inr p) (inl z) =
      let there : i - (64 - n) % 64 ≡ (i + n) % 64 = omega arith in
      ap₂ bit_or (bit-beyond x 64 (n + i) hx (omega arith)) (bit-shl x ((64 - n) % 64) i (omega arith) ∙ ap (bit x) there)
  halves (inr p) (inr l) =
      let here : n + i ≡ (i + n) % 64 = omega arith in
      ap₂ bit_or (ap (bit x) here) (bit-shl-below x ((64 - n) % 64) i (omega arith)) ∙ or_zero_r (bit x ((i + n) % 64))

  -- a rotation by n places to the right
  pub bit-rotated : bit (bit_or (x / 2 ^ n) (x * 2 ^ ((64 - n) % 64) % 2 ^ 64)) i ≡ bit x ((i + n) % 64)
  bit-rotated =
      bit-or (x / 2 ^ n) (x * 2 ^ ((64 - n) % 64) % 2 ^ 64) i
      ∙ ap₂ bit_or (bit-shr x n i) (bit-mod (x * 2 ^ ((64 - n) % 64)) 64 i hi) ∙ halves (eq-zero-or-pos n) (eq-zero-or-pos (64 - (i + n)))

-- ---- what moves do to lanes

-- bit i of y is bit f i of x
abbrev pub Goes : (ℕ → ℕ) → ℕ → ℕ → Type 0
Goes f x y = (i : ℕ) → i < 64 → bit y i ≡ bit x (f i)

-- lanes go where the bits of all planes go
pub shows-moved :
    (q r : Planes) (f : ℕ → ℕ) → ((j : ℕ) → j < 8 → Goes f (at (planes q) j) (at (planes r) j)) → Shows r (λ i. lane q (f i))
unfolding lane
shows-moved q r f g i h = from_bits-ext 8 _ _ (λ j l. g j l i h)

-- words turned into planes: lane i holds byte i / 8 of word i % 8
pub lane-turned : (w r : Planes) → Turned w r → Shows r (λ i. byte_of (at (planes w) (i % 8)) (i / 8))
lane-turned w r t i h =
    byte-ext (lane r i) (byte_of (at (planes w) (i % 8)) (i / 8)) (lane-lt r i) (byte_of-lt (at (planes w) (i % 8)) (i / 8))
    (λ j l. lane-bit r i j l ∙ t j i l h ∙ sym (byte-bit (at (planes w) (i % 8)) (i / 8) j l))

-- planes turned into words: byte p of word k is what lane 8p + k holds
pub byte-turned : (w r : Planes) → Turned w r → (k p : ℕ) → k < 8 → p < 8 → byte_of (at (planes r) k) p ≡ lane w (8 * p + k)
byte-turned w r t k p hk hp =
    byte-ext (byte_of (at (planes r) k) p) (lane w (8 * p + k)) (byte_of-lt (at (planes r) k) p) (lane-lt w (8 * p + k))
    (λ j l.
    let row : (8 * p + j) % 8 ≡ j = omega arith in
    let byte : 8 * ((8 * p + j) / 8) + k ≡ 8 * p + k = omega arith in
    byte-bit (at (planes r) k) p j l ∙ t k (8 * p + j) hk (omega arith) ∙ ap₂ (λ (x y : ℕ). bit (at (planes w) x) y) row byte
    ∙ sym (lane-bit w (8 * p + k) j l))
