-- `planes::circuits::inverted` meets its contract. Its gates, computed at all 256 bytes, make the inverse.
use mathlib.Core.Path.{refl}
use mathlib.Core.List.{List, [], ◌∷◌}
use Prim.Native.Nat.{ℕ}
use Rattle.planes.specs.Tables.{grow, tab}
use Rattle.planes.specs.ByteField.{xor, x_times, product_of, ◌•◌, square, power_of_even, inverse}
use Rattle.planes.specs.Substitution.{bit, number_of_bits}
use Rattle.planes.proofs.Gates.{Gate, differ, both, fired, run, made, by_byte, in_lanes}
use Rattle.planes.proofs.circuits.inverted.Goals as goal

-- the gates, in the order of the code
abbrev gates : List Gate
gates =
    differ 4 2 ∷ differ 8 2 ∷ differ 9 6 ∷ differ 10 5 ∷ differ 10 9 ∷ differ 0 5 ∷ differ 0 10 ∷ differ 5 6 ∷ differ 2 15 ∷ differ 3 10 ∷
    differ 0 6 ∷ differ 14 3 ∷ differ 0 14 ∷ differ 1 19 ∷ differ 1 14 ∷ differ 2 10 ∷ differ 2 13 ∷ differ 17 0 ∷ differ 2 1 ∷ differ 14 2 ∷
    both 12 7 ∷ both 19 1 ∷ both 19 5 ∷ both 22 4 ∷ differ 0 1 ∷ both 21 9 ∷ differ 0 3 ∷ both 16 12 ∷ differ 0 7 ∷ differ 0 4 ∷ differ 0 16 ∷
    both 24 31 ∷ differ 0 11 ∷ differ 0 6 ∷ differ 18 30 ∷ differ 1 0 ∷ both 26 30 ∷ differ 0 15 ∷ differ 0 13 ∷ differ 37 19 ∷ differ 1 0 ∷
    both 32 23 ∷ differ 0 20 ∷ differ 0 16 ∷ differ 51 24 ∷ differ 1 0 ∷ differ 15 10 ∷ both 16 6 ∷ differ 2 0 ∷ both 2 0 ∷ differ 0 14 ∷
    differ 15 3 ∷ differ 11 6 ∷ both 1 0 ∷ differ 0 8 ∷ differ 6 0 ∷ both 10 0 ∷ differ 16 2 ∷ differ 1 0 ∷ differ 10 2 ∷ both 9 0 ∷ differ 14 0 ∷
    differ 0 3 ∷ differ 12 8 ∷ differ 13 2 ∷ differ 10 6 ∷ differ 2 3 ∷ both 1 54 ∷ both 3 48 ∷ both 5 52 ∷ both 3 51 ∷ differ 1 0 ∷ both 9 56 ∷
    differ 3 0 ∷ both 15 59 ∷ differ 7 0 ∷ differ 0 4 ∷ both 22 77 ∷ differ 10 0 ∷ differ 0 5 ∷ both 18 74 ∷ differ 12 0 ∷ differ 0 10 ∷ both 32 65 ∷
    differ 15 0 ∷ differ 0 11 ∷ both 20 78 ∷ both 22 85 ∷ both 24 85 ∷ both 22 88 ∷ differ 1 0 ∷ both 28 87 ∷ differ 3 0 ∷ both 34 82 ∷ differ 7 0 ∷
    differ 0 4 ∷ both 41 89 ∷ differ 10 0 ∷ differ 0 5 ∷ both 37 89 ∷ differ 12 0 ∷ differ 0 10 ∷ both 51 93 ∷ differ 15 0 ∷ differ 0 11 ∷
    differ 22 3 ∷ differ 26 10 ∷ differ 8 0 ∷ differ 31 3 ∷ differ 23 3 ∷ differ 33 0 ∷ differ 3 1 ∷ differ 32 10 ∷ differ 5 4 ∷ differ 31 0 ∷
    differ 8 6 ∷ differ 10 0 ∷ differ 31 15 ∷ []

-- where the result's planes stand among their values
abbrev outs : List ℕ
outs = 19 ∷ 12 ∷ 7 ∷ 6 ∷ 5 ∷ 3 ∷ 1 ∷ 0 ∷ []

pub returns : goal.returns
unfolding tab grow xor x_times product_of ◌•◌ square power_of_even inverse bit number_of_bits fired run made by_byte
returns c = in_lanes gates outs inverse [] [] refl (λ i h. refl) _ _ refl
