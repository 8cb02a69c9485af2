-- `field::joining::unaligned` meets its contract (`PartLengths`).
use mathlib.Core.Path.{sym, ◌∙◌}
use native.Mathlib.Omega.{arith}
use Rattle.field.proofs.PartLengths.{unaligned-front, unaligned-one}
use Rattle.field.proofs.joining.unaligned.Goals as goal

pub returns-in-empty : goal.returns-in-empty
returns-in-empty c = sym (unaligned-one _ (omega (arith, c.in-empty.len_below)))

pub returns-in-len1-up : goal.returns-in-len1-up
returns-in-len1-up c = c.any_partial.ensures ∙ unaligned-front _
