-- `planes::circuits::affine_step` meets its contract. Its gates, computed at all 256 bytes, make the affine step. Beside the planes they have a
-- word of ones, whose bit is one in every lane.
use mathlib.Core.Path.{◌≡◌, refl, ap}
use mathlib.Core.List.{List, [], ◌∷◌, map}
use Prim.Native.Nat.{ℕ, ◌<◌}
use Rattle.planes.specs.Tables.{grow, tab}
use Rattle.planes.specs.Substitution.{bit, number_of_bits, affine_bit, affine}
use Rattle.planes.proofs.Tables.{at_each}
use Rattle.planes.proofs.Gates.{Gate, differ, fired, run, the, made, by_byte, in_lanes}
use Rattle.planes.proofs.circuits.affine_step.Goals as goal

-- the gates, in the order of the code
abbrev gates : List Gate
gates =
    differ 1 2 ∷ differ 4 5 ∷ differ 7 8 ∷ differ 10 11 ∷ differ 3 2 ∷ differ 3 2 ∷ differ 3 2 ∷ differ 3 6 ∷ differ 9 1 ∷ differ 0 9 ∷ differ 16 2 ∷
    differ 0 11 ∷ differ 15 4 ∷ differ 21 8 ∷ differ 19 9 ∷ differ 17 9 ∷ differ 0 16 ∷ differ 24 11 ∷ differ 0 18 ∷ differ 23 12 ∷ []

-- where the result's planes stand among their values
abbrev outs : List ℕ
outs = 10 ∷ 8 ∷ 7 ∷ 6 ∷ 5 ∷ 3 ∷ 1 ∷ 0 ∷ []

-- in every lane the word of ones has a one
ones : (i : ℕ) → i < 64 → map (the i) (0xffff_ffff_ffff_ffff ∷ []) ≡ 1 ∷ []
unfolding the tab grow bit
ones i h = ap (λ (x : ℕ). x ∷ []) (at_each 64 (bit 0xffff_ffff_ffff_ffff) (λ i. 1) refl i h)

pub returns : goal.returns
unfolding tab grow bit number_of_bits affine_bit affine fired run made by_byte
returns c = in_lanes gates outs affine (0xffff_ffff_ffff_ffff ∷ []) (1 ∷ []) refl ones _ _ refl
