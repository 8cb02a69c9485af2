-- `clmul::halves::joined_planes` meets its contract. Nothing leaves the word on the left (`WordLaws`).
use Rattle.clmul.proofs.WordLaws.{joined-planes}
use Rattle.clmul.proofs.halves.joined_planes.Goals as goal

pub returns : goal.returns
returns c = joined-planes c.args.h c.args.l c.args.m
