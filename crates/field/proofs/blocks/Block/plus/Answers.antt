-- `field::blocks::Block::plus` meets its contract. The sum of two blocks is the sum of their words (`Words`).
use native.Mathlib.Omega.{arith}
use Rattle.field.proofs.Words.{⊕-words}
use Rattle.field.proofs.blocks.Block.plus.Goals as goal

pub returns : goal.returns
returns c = ⊕-words _ _ (record { hi = omega arith; lo = omega arith }) (record { hi = omega arith; lo = omega arith })
