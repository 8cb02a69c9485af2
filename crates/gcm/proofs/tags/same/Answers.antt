-- `gcm::tags::same` meets its contract. The words' differences, joined, are 0 where the blocks are one (`Comparing`).
use native.Mathlib.Omega.{arith}
use Rattle.gcm.proofs.Comparing.{same_words}
use Rattle.gcm.proofs.tags.same.Goals as goal

pub returns : goal.returns
returns c = same_words _ _ (record { hi = omega arith; lo = omega arith }) (record { hi = omega arith; lo = omega arith })
