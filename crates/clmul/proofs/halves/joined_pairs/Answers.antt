-- `clmul::halves::joined_pairs` meets its contract. Nothing leaves the word on the left (`WordLaws`).
use Rattle.clmul.proofs.WordLaws.{joined-pairs}
use Rattle.clmul.proofs.halves.joined_pairs.Goals as goal

pub returns : goal.returns
returns c = joined-pairs c.args.h c.args.l c.args.m c.requires.0 c.requires.1 c.requires.2
