-- `cipher::kernel::pack` meets its contract. Each row is packed.
use Rattle.std.proofs.Common.{rules}
use Rattle.cipher.proofs.SixteenStates.{state-packed, four}
use Rattle.cipher.proofs.kernel.pack.Goals as goal

pub returns : goal.returns
returns c = λ b h. state-packed c.from_fn.result b h c.args.s.now (search rules) (four _ (search rules) (search rules) (search rules) (search rules))
