-- `sub_and_shift` of one state meets its contract. SUBBYTES, then SHIFTROWS.
use Rattle.cipher.proofs.RoundLanes.{shows-sub, shows-shift}
use Rattle.cipher.proofs.rounds.PlanesStates.sub_and_shift.Goals as goal

pub returns : goal.returns
returns c = λ b s held. shows-shift _ _ (shows-sub s _ held _ c.substituted.ensures) _ c.slid.ensures
