-- `field::summing::sum` meets its contract. The sum is Y of all the blocks from nothing (`Horner`).
use mathlib.Core.Path.{◌∙◌}
use Rattle.field.specs.Blocks.{zero_block, block}
use Rattle.field.proofs.Horner.{horner}
use Rattle.field.proofs.summing.sum.Goals as goal

pub returns : goal.returns
unfolding zero_block block
returns c = c.run.ensures ∙ horner _ _
