-- `planes::moves::rotated` meets its contract: the bits of all eight planes move in the same way, as `rotate` ensures.
use Rattle.std.proofs.Common.{rules}
use Rattle.planes.proofs.BitMoves.{shows-moved}
use Rattle.planes.proofs.moves.rotated.Goals as goal

pub returns : goal.returns
returns c = shows-moved _ _ _ (λ j h. let moved = c.map.ensures j h in search rules)
