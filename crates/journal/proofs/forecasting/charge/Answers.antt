-- `journal::forecasting::charge` meets its contract. The width is what the language's leading zeros leave of a word (`ChargeLaws`).
use native.Mathlib.Omega.{arith}
use Rattle.journal.proofs.ChargeLaws.{charge-none, charge-some}
use Rattle.journal.proofs.forecasting.charge.Goals as goal

pub returns-then-shape-eq0 : goal.returns-then-shape-eq0
returns-then-shape-eq0 c = charge-none _ _ (omega (arith, c.if-shape-eq0.true))

pub returns : goal.returns
returns c =
    charge-some _ _ (λ z. omega (arith, c.if-shape-eq0.false, z)) c.blocks-2.ensures c.blocks-3.ensures c.max-most.ensures (omega arith)
