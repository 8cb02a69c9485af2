-- `add_round_key` of sixteen states meets its contract. The key is added to each row.
use mathlib.Core.Path.{◌∙◌}
use Rattle.std.proofs.Common.{rules}
use Rattle.cipher.proofs.SixteenStates.{state-sum, four}
use Rattle.cipher.proofs.kernel.ArrayPlanes4States.add_round_key.Goals as goal

pub returns : goal.returns
returns c = λ b s held h. state-sum c.from_fn.result b h c.args.self c.args.k (four _ (search rules) (search rules) (search rules) (search rules)) ∙ rw (held h)
