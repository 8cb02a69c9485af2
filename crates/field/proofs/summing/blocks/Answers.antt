-- `field::summing::blocks` meets its contract. The quotient rounded up, without a sum that wraps.
use native.Mathlib.Omega.{arith}
use Rattle.field.specs.Sums.{blocks}
use Rattle.field.proofs.summing.blocks.Goals as goal

pub returns : goal.returns
unfolding blocks
returns c = omega (arith, c.div_ceil.ensures)
