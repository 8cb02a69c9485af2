-- The calls of a list and what the editor answers to each (document 01, "The file and its five edits"): one record for every call, made of the
-- definitions that the contracts cite.
use Rattle.std.specs.Prelude.{cond, List, [], ◌∷◌, ℕ, eqb}
use Rattle.file.specs.declared.states.State.{State}
use Rattle.file.specs.Edits.{Edit, edit_refusal}
use Rattle.file.specs.States.{edited}
use Rattle.file.specs.Slips.{slip_number, seal_refusal, sealed, check_refusal, checked}

-- a call of a list: an edit, a seal with its buffer, a check with its slip (document 01, "The file and its five edits")
pub data Call : Type 0 where
  edit : Edit → Call
  seal : List ℕ → Call
  check : List ℕ → Call

-- the refusal of a call at a length and a last used number, or 0 (document 01, "Causes and their numbers")
unfoldable pub call_refusal : (n last : ℕ) → Call → ℕ
call_refusal n last (edit e) = edit_refusal n e
call_refusal n last (seal out) = seal_refusal n last out
call_refusal n last (check slip) = check_refusal n slip

-- the slip that a call is lent, as it arrives (document 01, "Slip, seal, check"); an edit is lent none
unfoldable pub lent_slip : Call → List ℕ
lent_slip (edit e) = []
lent_slip (seal out) = out
lent_slip (check slip) = slip

-- what the editor answers to a call (document 01, "The file and its five edits"): the state afterwards, the refusal or 0, the count reported,
-- the seal number issued, if any, and what a lent slip holds afterwards
pub record CallAnswer : Type 0 where
  pub state : State
  pub refusal : ℕ
  pub count : ℕ
  pub issued : List ℕ
  pub slip : List ℕ

-- for each call, made of its own definition (document 01, "The file and its five edits" and "Slip, seal, check")
unfoldable pub call_answer : State → Call → CallAnswer
call_answer st (edit e) =
    let a = edited st e in
    record { state = a.state; refusal = a.refusal; count = a.count; issued = []; slip = [] }
call_answer st (seal out) =
    let a = sealed st out in
    record {
      state = a.state;
      refusal = a.refusal;
      count = 0;
      issued = cond (eqb a.refusal 0) (slip_number a.slip ∷ []) [];
      slip = a.slip;
    }
call_answer st (check slip) = record { state = st; refusal = (checked st slip).refusal; count = 0; issued = []; slip = slip }
