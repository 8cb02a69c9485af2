-- `field::multiplying::folded` meets its contract. The words computed make the number after 64 steps of V (`ReductionWords`).
use native.Mathlib.Omega.{arith}
use Rattle.field.proofs.ReductionWords.{folded-words}
use Rattle.field.proofs.multiplying.folded.Goals as goal

pub returns : goal.returns
returns c = folded-words _ (record { w3 = omega arith; w2 = omega arith; w1 = omega arith; w0 = omega arith })
