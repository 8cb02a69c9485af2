-- `capi::answers::keep` meets its contract (`CallLaws`).
use Rattle.std.proofs.Common.{rules}
use Rattle.capi.proofs.CallLaws.{kept_as}
use Rattle.capi.proofs.answers.keep.Goals as goal
use Rattle.capi.proofs.answers.keep.Goals.{in-Ok, in_default}

pub returns : goal.returns
returns c =
    kept_as _ c.args.answer _ _ (elim c.match-answer.branch [ in-Ok w ↦ search rules | in_default w ↦ search rules ])
    (elim c.match-answer.branch [ in-Ok w ↦ search rules | in_default w ↦ search rules ])
