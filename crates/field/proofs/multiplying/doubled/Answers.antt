-- `field::multiplying::doubled` meets its contract. The words computed make twice the number (`ReductionWords`).
use native.Mathlib.Omega.{arith}
use Rattle.field.proofs.ReductionWords.{doubled-words}
use Rattle.field.proofs.multiplying.doubled.Goals as goal

pub returns : goal.returns
returns c = doubled-words _ (record { w3 = omega arith; w2 = omega arith; w1 = omega arith; w0 = omega arith })
