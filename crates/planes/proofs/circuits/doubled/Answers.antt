-- `planes::circuits::doubled` meets its contract. Its gates, computed at all 256 bytes, make XTIMES.
use mathlib.Core.Path.{refl}
use mathlib.Core.List.{List, [], ◌∷◌}
use Prim.Native.Nat.{ℕ}
use Rattle.planes.specs.Tables.{grow, tab}
use Rattle.planes.specs.ByteField.{xor, x_times}
use Rattle.planes.specs.Substitution.{bit, number_of_bits}
use Rattle.planes.proofs.Gates.{Gate, differ, fired, run, made, by_byte, in_lanes}
use Rattle.planes.proofs.circuits.doubled.Goals as goal

-- the gates, in the order of the code
abbrev gates : List Gate
gates = differ 0 7 ∷ differ 3 8 ∷ differ 5 9 ∷ []

-- where the result's planes stand among their values
abbrev outs : List ℕ
outs = 10 ∷ 2 ∷ 4 ∷ 1 ∷ 0 ∷ 7 ∷ 8 ∷ 9 ∷ []

pub returns : goal.returns
unfolding tab grow xor x_times bit number_of_bits fired run made by_byte
returns c = in_lanes gates outs x_times [] [] refl (λ i h. refl) _ _ refl
