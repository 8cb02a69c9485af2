-- `field::batches::fill_powers` meets its contract: the table is filled from the powers' words (`BatchLaws`).
use mathlib.Core.Path.{◌∙◌}
use Rattle.std.proofs.Common.{rules}
use Rattle.field.specs.Blocks.{zero_block, block}
use Rattle.field.proofs.BatchLaws.{power-words}
use Rattle.field.proofs.batches.fill_powers.Goals as goal

pub returns : goal.returns
unfolding zero_block block
returns c n l =
    c.fill.ensures n l ∙ c.new.ensures n l ∙ power-words _ c.powers-p.result _ _ c.powers-p.ensures (search rules) (search rules) n l
