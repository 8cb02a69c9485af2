-- `field::joining::joined_sum` meets its contract. The loop's invariant is `Joining` of `Parts`.
use Rattle.field.specs.Blocks.{zero_block, block}
use Rattle.field.proofs.Parts.{joining_start, joining_next, joining_done}
use Rattle.field.proofs.joining.joined_sum.Goals as goal

pub loop-i-init : goal.loop-i-init
unfolding zero_block block
loop-i-init c = joining_start _ _ _

pub loop-i-preserved : goal.loop-i-preserved
loop-i-preserved c =
    joining_next c.loop-i.invariant c.loop-i-test.true
    c.blocks-k.ensures c.times_power-front.ensures
    c.load.ensures c.plus-sum.ensures

pub returns : goal.returns
returns c = joining_done c.loop-i.invariant c.loop-i-test.false
