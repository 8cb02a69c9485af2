-- The transformations of a state whose sixteen bytes stand in the lanes of planes: what a step does in every lane is what FIPS 197's does to the
-- state. Rests on how the bytes are spread (planes/proofs/Spread).
use mathlib.Core.Path.{◌≡◌, refl, sym, ap, ap₂, ◌∙◌}
use mathlib.Core.List.{List}
use Prim.Native.Nat.{ℕ, ◌+◌, ◌*◌, ◌/◌, ◌%◌, ◌<◌}
use native.Mathlib.Omega.{arith}
use lib.ListN.{length}
use Rattle.planes.specs.Tables.{grow, tab, at}
use Rattle.planes.specs.Planes.{xor, x_times, sbox, lane, Shows, spread}
use Rattle.planes.specs.declared.Planes.{Planes}
use Rattle.planes.proofs.Tables.{length-tab, tab-ext, at_each}
use Rattle.planes.proofs.Bytes.{two-times, three-times}
use Rattle.planes.proofs.Spread.{spread_at, spread-tab}
use Rattle.cipher.specs.Rounds.{SubBytes, ShiftRows, mixed, mixed_entry, MixColumns, AddRoundKey}
use Rattle.cipher.proofs.Whole.{tab_at}

pub length-sub : (s : List ℕ) → length (SubBytes s) ≡ 16
unfolding SubBytes
length-sub s = length-tab 16 _

-- a mixed byte as planes make it, by products by x
pub mixed-bytes : (a b c d : ℕ) → a < 256 → b < 256 → xor (xor (xor (x_times a) (xor (x_times b) b)) c) d ≡ mixed a b c d
unfolding mixed
mixed-bytes a b c d ha hb = rw (two-times a ha, three-times b hb)

-- the place of the byte in lane i
abbrev place : ℕ → ℕ
place i = i / 8 % 4 + 4 * (i % 4)

-- eight lanes on stands the byte in the next row of the same column
behind : (n i : ℕ) → n < 4 → i < 64 → place ((i + 8 * n) % 64) ≡ (place i % 4 + n) % 4 + 4 * (place i / 4)
unfolding tab grow
behind n i l h =
    let row : (64 * n + i) / 64 ≡ n = omega arith in
    let column : (64 * n + i) % 64 ≡ i = omega arith in
    rw (row, column)
    at
    (at_each 256 (λ x. place ((x % 64 + 8 * (x / 64)) % 64)) (λ x. (place (x % 64) % 4 + x / 64) % 4 + 4 * (place (x % 64) / 4)) refl (64 * n + i)
    (omega arith))

-- what planes hold of a state s; equations between places are computed in all 64 lanes
module _ (s : List ℕ) (q : Planes) (held : Shows q (spread s)) where
  -- the byte in a lane, by its place
  lane_at : (i x : ℕ) → i < 64 → place i ≡ x → lane q i ≡ at s x
  lane_at i x h e = held i h ∙ spread_at s i ∙ ap (at s) e

  -- the byte in lane f i, where its place is g of that of the byte in lane i
  lane_by : (f g : ℕ → ℕ) → tab 64 (λ i. place (f i)) ≡ tab 64 (λ i. g (place i)) → (i : ℕ) → i < 64 → f i < 64 → lane q (f i) ≡ at s (g (place i))
  lane_by f g e i h l = lane_at (f i) (g (place i)) l (at_each 64 (λ i. place (f i)) (λ i. g (place i)) e i h)

  pub shows-sub : (r : Planes) → Shows r (λ i. sbox (lane q i)) → Shows r (spread (SubBytes s))
  unfolding SubBytes
  shows-sub r made i h = made i h ∙ ap sbox (lane_at i _ h refl) ∙ sym (spread-tab _ i)

  pub shows-shift : (r : Planes) → Shows r (λ i. lane q (8 * (i / 8) + (i % 4 + i / 8 % 4))) → Shows r (spread (ShiftRows s))
  unfolding ShiftRows tab grow
  shows-shift r made i h =
      made i h
      ∙ lane_by (λ i. 8 * (i / 8) + (i % 4 + i / 8 % 4)) (λ x. x % 4 + 4 * ((x / 4 + x % 4) % 4)) refl i h (omega arith)
      ∙ sym (spread-tab (λ x. at s (x % 4 + 4 * ((x / 4 + x % 4) % 4))) i)

  pub shows-mix : (a b c r : Planes) → Shows a (λ i. lane q ((i + 8) % 64)) → Shows b (λ i. lane q ((i + 16) % 64))
      → Shows c (λ i. lane q ((i + 24) % 64)) → Shows r (λ i. mixed (lane q i) (lane a i) (lane b i) (lane c i)) → Shows r (spread (MixColumns s))
  unfolding MixColumns mixed_entry
  shows-mix a b c r ea eb ec made i h =
      let row : (n : ℕ) → n < 4 → lane q ((i + 8 * n) % 64) ≡ at s ((place i % 4 + n) % 4 + 4 * (place i / 4)) =
      λ n l. lane_at ((i + 8 * n) % 64) _ (omega arith) (behind n i l h)
      in
      made i h
      ∙ rw (ea i h, eb i h, ec i h, row 1 (omega arith), row 2 (omega arith), row 3 (omega arith), lane_at i (place i % 4 + 4 * (place i / 4)) h (omega arith))
      (sym (spread-tab (λ x. mixed_entry s (x % 4) (x / 4)) i))

  pub shows-sum : (k : List ℕ) (p r : Planes) → Shows p (spread k) → Shows r (λ i. xor (lane q i) (lane p i)) → Shows r (spread (AddRoundKey s k))
  unfolding AddRoundKey
  shows-sum k p r ep made i h = made i h ∙ ap₂ xor (lane_at i _ h refl) (ep i h ∙ spread_at k i) ∙ sym (spread-tab _ i)

  -- the bytes read back
  pub shows-back : length s ≡ 16 → tab 16 (λ i. lane q (8 * (i % 4) + i / 4)) ≡ s
  unfolding tab grow
  shows-back l =
      tab-ext 16 _ (at s) (λ i h. lane_at (8 * (i % 4) + i / 4) i (omega arith) (at_each 16 (λ i. place (8 * (i % 4) + i / 4)) (λ i. i) refl i h))
      ∙ tab_at 16 s l
