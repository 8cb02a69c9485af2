-- `clmul::karatsuba::joined_words` meets its contract: the rule across four words (`WordLaws`).
use native.Mathlib.Omega.{arith}
use Rattle.clmul.proofs.WordLaws.{joined_words}
use Rattle.clmul.proofs.karatsuba.joined_words.Goals as goal

pub returns : goal.returns
returns c = joined_words _ _ _ (record { hi = omega arith; lo = omega arith }) (record { hi = omega arith; lo = omega arith }) (record { hi = omega arith; lo = omega arith })
