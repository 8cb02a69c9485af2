-- `clmul::halves::plane_square` meets its contract. The integer product of two planes has the carry-less one's bits (`WordLaws`).
use Rattle.clmul.proofs.WordLaws.{plane-fits, plane-square}
use Rattle.clmul.proofs.halves.plane_square.Goals as goal

pub overflow_mul-result : goal.overflow_mul-result
overflow_mul-result c = record { fits = plane-fits c.args.x }

pub returns : goal.returns
returns c = plane-square c.args.x
