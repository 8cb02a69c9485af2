-- `capi::armfile_join` meets its contract. It is `field::join`, written where it is accepted (`CallLaws`).
use Rattle.std.proofs.Common.{rules}
use Rattle.capi.proofs.CallLaws.{block_over, join-call}
use Rattle.capi.proofs.armfile_join.Goals as goal
use Rattle.capi.proofs.armfile_join.Goals.{then-is_ok, else-is_ok}

pub returns : goal.returns
returns c =
    join-call _ _ _ _ _ c.join-joined.result c.join-joined.ensures (search rules)
    (elim c.if-is_ok.branch [ then-is_ok w ↦ search (rules, block_over) | else-is_ok w ↦ search rules ])
