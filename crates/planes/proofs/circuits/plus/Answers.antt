-- `planes::circuits::plus` meets its contract. Planes are added one by one, and so are the bytes in their lanes.
use mathlib.Core.Path.{refl}
use Rattle.planes.specs.Tables.{grow, tab}
use Rattle.planes.proofs.Gates.{lane-sum}
use Rattle.planes.proofs.circuits.plus.Goals as goal

pub returns : goal.returns
unfolding tab grow
returns c i h = lane-sum _ _ _ refl i
