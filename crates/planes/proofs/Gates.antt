-- Circuits of gates, for the straight lines of code that work on planes: on every lane a circuit does what it does on single bits, so that a fact of
-- one byte, computed at all 256, holds in all lanes. Rests on the laws of bits (`Bits`).
use mathlib.Core.Path.{◌≡◌, refl, sym, ap, ap₂, ◌∙◌}
use mathlib.Core.List.{List, [], ◌∷◌, ◌++◌, map, map-append}
use Prim.Native.Nat.{ℕ, ◌<◌}
use native.Mathlib.Omega.{arith}
use lib.Bits.{bit_xor, bit_and, xor_lt}
use lib.ListN.{get_or, get_or-map}
use Rattle.planes.specs.Tables.{grow, tab, at}
use Rattle.planes.specs.ByteField.{xor}
use Rattle.planes.specs.Substitution.{bit, number_of_bits}
use Rattle.planes.specs.Lanes.{planes, lane, Shows}
use Rattle.planes.specs.declared.Planes.{Planes}
use Rattle.planes.proofs.Tables.{get_d_tab, at_each}
use Rattle.planes.proofs.Bits.{bit-xor, bit-and, bit-zero, from_bits-ext, byte-ext, lane-lt, lane-bit}

-- a gate, over the values at two places of a list of which the newest stands first
pub data Gate : Type 0 where
  differ : ℕ → ℕ → Gate
  both : ℕ → ℕ → Gate

-- its value
unfoldable pub fired : Gate → List ℕ → ℕ
fired (differ m n) e = bit_xor (at e m) (at e n)
fired (both m n) e = bit_and (at e m) (at e n)

-- the values of a circuit's gates, each put before those that it was made of
unfoldable pub run : List Gate → List ℕ → List ℕ
unfolding fired
run [] e = e
run (g ∷ gates) e = run gates (fired g e ∷ e)

at_map : (h : ℕ → ℕ) → h 0 ≡ 0 → (e : List ℕ) (m : ℕ) → at (map h e) m ≡ h (at e m)
at_map h z e m = ap (λ (d : ℕ). get_or (map h e) m d) (sym z) ∙ get_or-map h e m 0

-- on bit i of all values a circuit does what it does on values
module _ (i : ℕ) where
  unfoldable pub the : ℕ → ℕ
  the w = bit w i

  fired_bit : (g : Gate) (e : List ℕ) → the (fired g e) ≡ fired g (map the e)
  unfolding the fired
  fired_bit (differ m n) e = bit-xor (at e m) (at e n) i ∙ ap₂ bit_xor (sym (at_map the (bit-zero i) e m)) (sym (at_map the (bit-zero i) e n))
  fired_bit (both m n) e = bit-and (at e m) (at e n) i ∙ ap₂ bit_and (sym (at_map the (bit-zero i) e m)) (sym (at_map the (bit-zero i) e n))

  run-bit : (gates : List Gate) (e : List ℕ) → map the (run gates e) ≡ run gates (map the e)
  unfolding run
  run-bit [] e = refl
  run-bit (g ∷ gates) e = run-bit gates (fired g e ∷ e) ∙ ap (λ (x : ℕ). run gates (x ∷ map the e)) (fired_bit g e)

-- the bits that eight planes have in lane i are those of the byte there
lane-bits : (q : Planes) (i : ℕ) → map (the i) (planes q) ≡ tab 8 (bit (lane q i))
unfolding the tab grow
lane-bits q i =
    let l : (j : ℕ) → j < 8 → bit (lane q i) j ≡ bit (at (planes q) j) i = lane-bit q i in
    rw (
      l 0 (omega arith),
      l 1 (omega arith),
      l 2 (omega arith),
      l 3 (omega arith),
      l 4 (omega arith),
      l 5 (omega arith),
      l 6 (omega arith),
      l 7 (omega arith),
    )

-- ---- a circuit with eight outputs, at places `outs` of its values; before the planes it may have constants, each all ones
module _ (gates : List Gate) (outs : List ℕ) where
  unfoldable pub made : List ℕ → ℕ → ℕ
  made e j = at (run gates e) (at outs j)

  -- what it makes of the bits of a byte
  unfoldable pub by_byte : List ℕ → ℕ → ℕ
  by_byte ones b = number_of_bits 8 (made (ones ++ tab 8 (bit b)))

  -- its outputs in lane i
  lane_made : (constants : List ℕ) (q r : Planes) → planes r ≡ tab 8 (made (constants ++ planes q)) → (i : ℕ) (bits : List ℕ)
      → map (the i) (constants ++ planes q) ≡ bits → lane r i ≡ number_of_bits 8 (made bits)
  unfolding lane made the
  lane_made constants q r e i bits inputs =
      let values = constants ++ planes q in
      from_bits-ext 8 _ _ (λ j h.
      ap (λ (l : List ℕ). bit (at l j) i) e ∙ ap (λ (x : ℕ). bit x i) (get_d_tab 8 (made values) j 0 h)
      ∙ sym (at_map (the i) (bit-zero i) (run gates values) (at outs j))
      ∙ ap (λ (l : List ℕ). at l (at outs j)) (run-bit i gates values ∙ ap (run gates) inputs))

  -- where it makes f of every byte it makes f in every lane
  pub in_lanes : (f : ℕ → ℕ) (constants ones : List ℕ) → tab 256 (by_byte ones) ≡ tab 256 f → ((i : ℕ) → i < 64 → map (the i) constants ≡ ones)
      → (q r : Planes) → planes r ≡ tab 8 (made (constants ++ planes q)) → Shows r (λ i. f (lane q i))
  unfolding by_byte
  in_lanes f constants ones test const q r e i h =
      let inputs : map (the i) (constants ++ planes q) ≡ ones ++ tab 8 (bit (lane q i)) =
      map-append (the i) constants (planes q) ∙ ap₂ ◌++◌ (const i h) (lane-bits q i)
      in
      lane_made constants q r e i (ones ++ tab 8 (bit (lane q i))) inputs ∙ at_each 256 (by_byte ones) f test (lane q i) (lane-lt q i)

-- the sums of bytes
pub lane-sum : (a b r : Planes) → planes r ≡ tab 8 (λ j. bit_xor (at (planes a) j) (at (planes b) j))
    → (i : ℕ) → lane r i ≡ xor (lane a i) (lane b i)
unfolding xor
lane-sum a b r e i =
    byte-ext (lane r i) (bit_xor (lane a i) (lane b i)) (lane-lt r i) (xor_lt 8 (lane a i) (lane b i) (lane-lt a i) (lane-lt b i)) (λ j h.
    lane-bit r i j h
    ∙ ap (λ (l : List ℕ). bit (at l j) i) e
    ∙ ap (λ (x : ℕ). bit x i) (get_d_tab 8 (λ j. bit_xor (at (planes a) j) (at (planes b) j)) j 0 h)
    ∙ bit-xor (at (planes a) j) (at (planes b) j) i
    ∙ sym (bit-xor (lane a i) (lane b i) j ∙ ap₂ bit_xor (lane-bit a i j h) (lane-bit b i j h)))
