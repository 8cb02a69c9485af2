-- `field::seeking::steps_of` meets its contract. The language's counts of bits are those of the steps' definition (`Steps`).
use mathlib.Core.Path.{sym, ◌∙◌}
use native.Mathlib.Omega.{arith}
use Rattle.field.proofs.Steps.{steps-counted, steps-bit}
use Rattle.field.proofs.seeking.steps_of.Goals as goal

pub returns-then-k-eq0 : goal.returns-then-k-eq0
returns-then-k-eq0 c = sym (steps-bit _ (omega arith) ∙ c.if-k-eq0.true)

pub returns : goal.returns
returns c = steps-counted _ (omega arith) (omega arith)
