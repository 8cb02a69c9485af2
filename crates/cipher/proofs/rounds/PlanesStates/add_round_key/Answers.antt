-- `add_round_key` of one state meets its contract. The round key, packed, is added in every lane.
use Rattle.cipher.proofs.RoundLanes.{shows-sum}
use Rattle.cipher.proofs.rounds.PlanesStates.add_round_key.Goals as goal

pub returns : goal.returns
returns c = λ b s held. shows-sum s _ held _ _ _ c.packed.ensures c.plus.ensures
