-- The calls on a lent state, for all inputs: the refusal, and what state, count, slip and verdict hold afterwards. Each is the file
-- keeper's own definition between `state_from` and `packed_state`; a refusal leaves what stood there. And the join, which has no state.
use Rattle.std.specs.Prelude.{cond, List, ℕ, eqb}
use Rattle.field.specs.Field.{bytes_of, JoinAnswer, joined}
use Rattle.file.specs.Edits.{Edit}
use Rattle.file.specs.States.{StateAnswer, Start, Reading, started, read_file, edited}
use Rattle.file.specs.declared.sealing.Verdict.{Verdict}
use Rattle.file.specs.declared.sealing.Verdict.TheVariants.{NotGenuine, Current, Stale, Ahead}
use Rattle.file.specs.Slips.{SealAnswer, sealed, CheckAnswer, checked}
use Rattle.journal.specs.Journals.{ReplayAnswer, replayed}
use Rattle.capi.specs.Bytes.{packed_state, state_from}

-- ---- the five edits and start

-- what an edit or a start leaves: the refusal (document 01, "Causes and their numbers") or 0, the lent state and the lent count
pub record EditCall : Type 0 where
  pub refusal : ℕ
  pub state : List ℕ
  pub count : ℕ

-- what a call on a state leaves (document 01, "Causes and their numbers"): where it is accepted, its state's bytes and its count; where it
-- is refused, what stood there
unfoldable pub kept : StateAnswer → (state : List ℕ) (count : ℕ) → EditCall
kept a state count =
    cond (eqb a.refusal 0) (record { refusal = 0; state = packed_state a.state; count = a.count })
    (record { refusal = a.refusal; state = state; count = count })

-- an edit: the file keeper's `edited` between `state_from` and `packed_state` (document 01, "The file and its five edits")
unfoldable pub edit_call : (state : List ℕ) → Edit → (count : ℕ) → EditCall
edit_call state e count = kept (edited (state_from state) e) state count

-- start: the file keeper's `started`, its state as `packed_state` (document 01, "The file and its five edits"; document 02, Q-4)
unfoldable pub start_call : Start → (state : List ℕ) (count : ℕ) → EditCall
start_call s state count = kept (started s) state count

-- ---- read

-- what read leaves: the refusal (document 01, "Causes and their numbers") or 0, and the lent state
pub record ReadCall : Type 0 where
  pub refusal : ℕ
  pub state : List ℕ

-- read: the file keeper's `read_file`, kept as a start is but for the count, which it has none of (document 01, "The file and its five edits")
unfoldable pub read_call : Reading → (state : List ℕ) → ReadCall
read_call r state =
    let a = kept (read_file r) state 0 in
    record { refusal = a.refusal; state = a.state }

-- ---- seal

-- what seal leaves: the refusal (document 01, "Causes and their numbers") or 0, the lent state and the lent slip
pub record SealCall : Type 0 where
  pub refusal : ℕ
  pub state : List ℕ
  pub slip : List ℕ

-- what a seal leaves (document 01, "Causes and their numbers"): where accepted, its state's bytes; the slip is the file keeper's either way
unfoldable pub stamped : SealAnswer → (state : List ℕ) → SealCall
stamped a state =
    record { refusal = a.refusal; state = cond (eqb a.refusal 0) (packed_state a.state) state; slip = a.slip }

-- seal: the file keeper's `sealed` between `state_from` and `packed_state` (document 01, "Slip, seal, check")
unfoldable pub seal_call : (state slip : List ℕ) → SealCall
seal_call state slip = stamped (sealed (state_from state) slip) state

-- ---- check

-- what check leaves: the refusal (document 01, "Causes and their numbers") or 0, and the lent verdict; the state is only read
pub record CheckCall : Type 0 where
  pub refusal : ℕ
  pub verdict : ℕ

-- the byte of a verdict, which is the boundary's own (document 02, Q-5)
unfoldable pub verdict_byte : Verdict → ℕ
verdict_byte NotGenuine = 0
verdict_byte Current = 1
verdict_byte Stale = 2
verdict_byte Ahead = 3

-- what a check leaves (document 01, "Causes and their numbers"): its verdict's byte; where check refuses, what stood there
unfoldable pub judged : CheckAnswer → (verdict : ℕ) → CheckCall
judged a verdict = record { refusal = a.refusal; verdict = cond (eqb a.refusal 0) (verdict_byte a.verdict) verdict }

-- check: the file keeper's `checked` of `state_from` (document 01, "Slip, seal, check")
unfoldable pub check_call : (state slip : List ℕ) (verdict : ℕ) → CheckCall
check_call state slip verdict = judged (checked (state_from state) slip) verdict

-- ---- replay

-- what replay leaves: the refusal (document 02, Q-1) or 0, the lent state, the lent count and the lent offset
pub record ReplayCall : Type 0 where
  pub refusal : ℕ
  pub state : List ℕ
  pub count : ℕ
  pub offset : ℕ

-- what a replay leaves (document 02, Q-1): its state's bytes, its count and its offset, refused or not
unfoldable pub written : ReplayAnswer → ReplayCall
written a = record { refusal = a.refusal; state = packed_state a.state; count = a.count; offset = a.offset }

-- replay: the journal's `replayed` between `state_from` and `packed_state` (document 02, Q-1)
unfoldable pub replay_call : (state journal : List ℕ) → ReplayCall
replay_call state journal = written (replayed (state_from state) journal)

-- ---- join

-- what join leaves: the refusal (document 02, Q-6) or 0, the lent sum and the lent length
pub record JoinCall : Type 0 where
  pub refusal : ℕ
  pub sum : List ℕ
  pub n : ℕ

-- what a join leaves (document 02, Q-6): where it is accepted, its sum's bytes and its length; where it is refused, what stood there
unfoldable pub handed : JoinAnswer → (sum : List ℕ) (n : ℕ) → JoinCall
handed a sum n =
    cond (eqb a.refusal 0) (record { refusal = 0; sum = bytes_of a.s; n = a.n }) (record { refusal = a.refusal; sum = sum; n = n })

-- join: the field's `joined` (document 02, Q-6)
unfoldable pub join_call : (h sums lengths sum : List ℕ) (n : ℕ) → JoinCall
join_call h sums lengths sum n = handed (joined h sums lengths) sum n
