-- `field::joining::join` meets its contract. A refusal gives the empty file; where there is none, the parts are joined (`JoinAnswers`).
use mathlib.Core.Path.{sym}
use Rattle.field.proofs.JoinAnswers.{join_refused, join-fits, join_done}
use Rattle.field.proofs.joining.join.Goals as goal

pub joined_sum-requires : goal.joined_sum-requires
joined_sum-requires c = (join-fits _ _ _ (sym c.in-Ok.ensures.refusal)).sums-fit

pub returns-in-Err : goal.returns-in-Err
returns-in-Err c = join_refused _ _ _ _ c.in-Err.ensures.refusal

pub returns-in-Ok : goal.returns-in-Ok
returns-in-Ok c =
    join_done _ _ _ c.in-Ok.ensures.refusal c.from_bytes.ensures c.joined_sum.ensures c.in-Ok.ensures.length
