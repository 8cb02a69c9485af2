-- `field::batches::powers` meets its contract. The loop's invariant is `Raising` of `BatchLaws`: the last 2k - 1 places hold their
-- powers.
use mathlib.Core.Path.{refl, ap}
use native.Mathlib.Omega.{arith}
use Rattle.field.specs.declared.multiplying.Counted.{Counted}
use Rattle.field.specs.Blocks.{zero_block, block}
use Rattle.field.proofs.BatchLaws.{raising_start, raising_next, raising_done}
use Rattle.field.proofs.batches.powers.Goals as goal

pub loop-k-init : goal.loop-k-init
unfolding zero_block block
loop-k-init c = raising_start _ _ (record { hi = omega arith; lo = omega arith }) refl refl

pub loop-k-preserved : goal.loop-k-preserved
unfolding zero_block block
loop-k-preserved c =
    raising_next c.loop-k.invariant (omega arith) refl c.squared-even.ensures
    (ap (λ (r : Counted). r.value) c.counted_product.ensures)

pub returns : goal.returns
unfolding zero_block block
returns c = raising_done c.loop-k.invariant (omega arith) refl c.squared.ensures
