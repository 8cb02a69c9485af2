-- `mix_columns` of sixteen states meets its contract. Each row is mixed.
use mathlib.Core.Path.{◌∙◌}
use Rattle.std.proofs.Common.{rules}
use Rattle.cipher.proofs.SixteenStates.{state-mix, four}
use Rattle.cipher.proofs.kernel.ArrayPlanes4States.mix_columns.Goals as goal

pub returns : goal.returns
returns c = λ b s held h. state-mix c.from_fn.result b h c.args.self (four _ (search rules) (search rules) (search rules) (search rules)) ∙ rw (held h)
