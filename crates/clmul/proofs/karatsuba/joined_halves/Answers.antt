-- `clmul::karatsuba::joined_halves` meets its contract: the rule across two words (`WordLaws`).
use native.Mathlib.Omega.{arith}
use Rattle.clmul.proofs.WordLaws.{joined-halves}
use Rattle.clmul.proofs.karatsuba.joined_halves.Goals as goal

pub returns : goal.returns
returns c = joined-halves c.args.h c.args.l c.args.m (omega arith)
