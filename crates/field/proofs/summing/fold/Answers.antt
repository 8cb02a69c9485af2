-- `field::summing::fold` meets its contract. The loop's invariant is `Folding` of `Folds`: y is Y after the i blocks read, and the
-- running count has their products in it.
use Rattle.field.proofs.Folds.{folding_start, folding_next}
use Rattle.field.proofs.summing.fold.Goals as goal

pub loop-i-init : goal.loop-i-init
loop-i-init c = folding_start _ _ _ _ _ _ _

pub loop-i-preserved : goal.loop-i-preserved
loop-i-preserved c =
    folding_next c.loop-i.invariant c.loop-i-test.true
    c.load.ensures
    c.load-in-loop-i.ensures
    c.plus-x.ensures
    c.plus.ensures
    c.counted_product-next.ensures
