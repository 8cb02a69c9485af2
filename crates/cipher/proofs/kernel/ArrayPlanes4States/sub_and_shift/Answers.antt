-- `sub_and_shift` of sixteen states meets its contract. Each row is substituted and moved.
use mathlib.Core.Path.{◌∙◌}
use Rattle.std.proofs.Common.{rules}
use Rattle.cipher.proofs.SixteenStates.{state-shift, four}
use native.Mathlib.Omega.{arith}
use Rattle.cipher.proofs.kernel.ArrayPlanes4States.sub_and_shift.Goals as goal

pub returns : goal.returns
returns c = λ b s held h. state-shift c.from_fn.result b h c.args.self (four _ (search (rules, arith)) (search (rules, arith)) (search (rules, arith)) (search (rules, arith))) ∙ rw (held h)
