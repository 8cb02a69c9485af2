-- `clmul::halves::mixed` meets its contract. A plane is what a mask leaves (`WordLaws`).
use Rattle.clmul.proofs.WordLaws.{mixed-words}
use Rattle.clmul.proofs.halves.mixed.Goals as goal

pub returns : goal.returns
returns c = mixed-words c.args.x
