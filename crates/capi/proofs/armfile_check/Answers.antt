-- `capi::armfile_check` meets its contract. It is `State::check` of the state that is read (`CallLaws`).
use Rattle.std.proofs.Common.{rules}
use Rattle.capi.proofs.CallLaws.{check-call, judged_as}
use Rattle.capi.proofs.armfile_check.Goals as goal
use Rattle.capi.proofs.armfile_check.Goals.{in-Ok, in_default}

pub returns : goal.returns
returns c = check-call _ _ _ c.decode.ensures c.check-answer.ensures (judged_as c.check-answer.result _ (elim c.match-answer.branch [ in-Ok w ↦ search rules | in_default w ↦ search rules ]) (elim c.match-answer.branch [ in-Ok w ↦ search rules | in_default w ↦ search rules ]))
