-- `capi::armfile_seal` meets its contract. It is `State::seal` of the state that is read (`CallLaws`).
use Rattle.std.proofs.Common.{rules}
use Rattle.capi.proofs.CallLaws.{seal-call, stamped_as}
use Rattle.capi.proofs.armfile_seal.Goals as goal
use Rattle.capi.proofs.armfile_seal.Goals.{then-is_ok, else-is_ok}

pub returns : goal.returns
returns c = seal-call _ _ c.decode-st.ensures c.seal-answer.ensures (stamped_as _ c.seal-answer.result _ _ (search rules) (elim c.if-is_ok.branch [ then-is_ok w ↦ search rules | else-is_ok w ↦ search rules ]))
