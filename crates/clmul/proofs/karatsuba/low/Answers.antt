-- `clmul::karatsuba::low` meets its contract: a mask of 32 ones (`WordLaws`).
use Rattle.clmul.proofs.WordLaws.{low_half}
use Rattle.clmul.proofs.karatsuba.low.Goals as goal

pub returns : goal.returns
returns c = low_half c.args.x
