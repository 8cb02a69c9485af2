-- `mix_columns` of one state meets its contract. The rows behind a lane's own are eight, sixteen and 24 lanes on.
use Rattle.cipher.proofs.RoundLanes.{shows-mix}
use Rattle.cipher.proofs.rounds.PlanesStates.mix_columns.Goals as goal

pub returns : goal.returns
returns c =
    λ b s held.
    shows-mix s _ held _ _ _ _ c.rotated.ensures c.rotated-2.ensures c.rotated-3.ensures
    c.mixed_row.ensures
