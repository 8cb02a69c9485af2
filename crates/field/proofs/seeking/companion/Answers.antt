-- `field::seeking::companion` meets its contract. The loop's invariant is `Doubling` of `Seek`: after j turns x is h^(2^j) and y
-- is h^(2^(j+1) − 2).
use mathlib.Core.Path.{ap}
use native.Mathlib.Omega.{arith}
use Rattle.field.specs.declared.multiplying.Counted.{Counted}
use Rattle.field.specs.Blocks.{one, block}
use Rattle.field.proofs.Seek.{doubling_start, doubling_next, doubling_done}
use Rattle.field.proofs.seeking.companion.Goals as goal

pub loop-init : goal.loop-init
unfolding one block
loop-init c = doubling_start _ (record { hi = omega arith; lo = omega arith })

pub loop-preserved : goal.loop-preserved
loop-preserved c =
    doubling_next c.loop.invariant (omega arith) c.squared-x.ensures
    (ap (λ (r : Counted). r.value) c.counted_product.ensures)

pub returns : goal.returns
returns c = doubling_done c.loop.invariant (omega arith)
