-- `clmul::sixteen::nine_halves` meets its contract. Rests on RowLaws.
use native.Mathlib.Omega.{arith}
use Rattle.clmul.specs.Xor.{xor}
use Rattle.clmul.proofs.RowLaws.{word-halves, nine-halves}
use Rattle.clmul.proofs.sixteen.nine_halves.Goals as goal

pub returns : goal.returns
unfolding xor
returns c =
    nine-halves _ _ (omega arith)
    (word-halves c.high.ensures c.low.ensures c.high-2.ensures c.low-2.ensures)
    (word-halves c.high-3.ensures c.low-3.ensures c.high-4.ensures c.low-4.ensures)
    (word-halves c.high-5.ensures c.low-5.ensures c.high-6.ensures c.low-6.ensures)
