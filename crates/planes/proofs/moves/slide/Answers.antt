-- `planes::moves::slide` meets its contract. The code is the move `sliding`, of which each bit has one source.
use Rattle.planes.proofs.BitMoves.{made, sliding, bit-slid}
use Rattle.planes.proofs.moves.slide.Goals as goal

pub returns : goal.returns
unfolding made sliding
returns c = bit-slid c.args.x
