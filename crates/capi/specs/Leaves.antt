-- What each call on a state leaves in lent bytes, field by field, beside what the editor answers to it: `lent` are the bytes and `st` is the
-- editor's state. Numbers are the editor's, the bytes hold the editor's state afterwards (`state_from`), and a refusal leaves what was lent. And what a
-- join leaves beside what the field answers to it, and how a forecast stands to the replay that follows.
use Rattle.std.specs.Prelude.{◌≡◌, ◌↔◌, ◌≢◌, List, ℕ, ◌≤◌}
use Rattle.field.specs.Field.{blank_count, bytes_of, joined}
use Rattle.file.specs.declared.states.State.{State}
use Rattle.file.specs.declared.sealing.Verdict.TheVariants.{NotGenuine, Current, Stale, Ahead}
use Rattle.file.specs.Edits.{Edit}
use Rattle.file.specs.States.{Start, Reading, started, read_file, edited}
use Rattle.file.specs.Slips.{sealed, check_refusal, Finds}
use Rattle.file.specs.Demands.{AcceptedStart, AcceptedRead}
use Rattle.journal.specs.Journals.{replayed}
use Rattle.journal.specs.Forecasts.{forecasted}
use Rattle.capi.specs.Bytes.{state_from}
use Rattle.capi.specs.Calls.{edit_call, start_call, read_call, seal_call, check_call, replay_call, join_call}

-- start (document 02, Q-4): its count is that of a blank file's sum
pub record StartLeaves (s : Start) (lent : List ℕ) (count : ℕ) : Type 0 where
  pub refusal : (start_call s lent count).refusal ≡ (started s).refusal
  pub state : AcceptedStart s → state_from (start_call s lent count).state ≡ (started s).state
  pub counts : (started s).refusal ≡ 0 → (start_call s lent count).count ≡ blank_count s.fill s.n
  pub kept : (started s).refusal ≢ 0 → ((start_call s lent count).state ≡ lent) × ((start_call s lent count).count ≡ count)

-- read (document 01, "The file and its five edits"), which has no count
pub record ReadLeaves (r : Reading) (lent : List ℕ) : Type 0 where
  pub refusal : (read_call r lent).refusal ≡ (read_file r).refusal
  pub state : AcceptedRead r → state_from (read_call r lent).state ≡ (read_file r).state
  pub kept : (read_file r).refusal ≢ 0 → (read_call r lent).state ≡ lent

-- an edit (document 01, "The file and its five edits")
pub record EditLeaves (lent : List ℕ) (st : State) (e : Edit) (count : ℕ) : Type 0 where
  pub refusal : (edit_call lent e count).refusal ≡ (edited st e).refusal
  pub state : state_from (edit_call lent e count).state ≡ (edited st e).state
  pub counts : (edited st e).refusal ≡ 0 → (edit_call lent e count).count ≡ (edited st e).count
  pub kept : (edited st e).refusal ≢ 0 → ((edit_call lent e count).state ≡ lent) × ((edit_call lent e count).count ≡ count)

-- a seal (document 01, "Slip, seal, check")
pub record SealLeaves (lent : List ℕ) (st : State) (out : List ℕ) : Type 0 where
  pub refusal : (seal_call lent out).refusal ≡ (sealed st out).refusal
  pub state : state_from (seal_call lent out).state ≡ (sealed st out).state
  pub slip : (seal_call lent out).slip ≡ (sealed st out).slip
  pub kept : (sealed st out).refusal ≢ 0 → ((seal_call lent out).state ≡ lent) × ((seal_call lent out).slip ≡ out)

-- a check (document 02, Q-5), a byte for each verdict
pub record CheckLeaves (lent : List ℕ) (st : State) (slip : List ℕ) (verdict : ℕ) : Type 0 where
  pub not_genuine : (check_call lent slip verdict ≡ record { refusal = 0; verdict = 0 }) ↔ Finds st slip NotGenuine
  pub current : (check_call lent slip verdict ≡ record { refusal = 0; verdict = 1 }) ↔ Finds st slip Current
  pub stale : (check_call lent slip verdict ≡ record { refusal = 0; verdict = 2 }) ↔ Finds st slip Stale
  pub ahead : (check_call lent slip verdict ≡ record { refusal = 0; verdict = 3 }) ↔ Finds st slip Ahead
  pub kept :
      check_refusal st.n slip ≢ 0 → check_call lent slip verdict ≡ record { refusal = check_refusal st.n slip; verdict = verdict }

-- a replay (document 02, Q-1), which leaves what it answers, refused or not
pub record ReplayLeaves (lent : List ℕ) (st : State) (j : List ℕ) : Type 0 where
  pub refusal : (replay_call lent j).refusal ≡ (replayed st j).refusal
  pub state : state_from (replay_call lent j).state ≡ (replayed st j).state
  pub count : (replay_call lent j).count ≡ (replayed st j).count
  pub offset : (replay_call lent j).offset ≡ (replayed st j).offset

-- what a replay leaves beside the forecast of the lent state's length (document 02, Q-7): the same number and offset, and no count above the bound
pub record ForecastHolds (lent j : List ℕ) : Type 0 where
  pub refusal : (replay_call lent j).refusal ≡ (forecasted (state_from lent).n j).refusal
  pub offset : (replay_call lent j).offset ≡ (forecasted (state_from lent).n j).offset
  pub count : (replay_call lent j).count ≤ (forecasted (state_from lent).n j).bound

-- a join (document 02, Q-6), which has no state: what the field answers, or what was lent
pub record JoinLeaves (h sums lengths lent : List ℕ) (n : ℕ) : Type 0 where
  pub accepted :
      let j = joined h sums lengths in
      j.refusal ≡ 0 → join_call h sums lengths lent n ≡ record { refusal = 0; sum = bytes_of j.s; n = j.n }
  pub kept :
      let j = joined h sums lengths in
      j.refusal ≢ 0 → join_call h sums lengths lent n ≡ record { refusal = j.refusal; sum = lent; n = n }
