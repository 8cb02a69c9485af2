-- A list of calls through the boundary, each on the lent bytes that the one before it left, and what it has in common with the demands' run
-- of the same calls; and the same of a list in which journals stand. The proof is `boundary_theorem` in proofs/Boundary.
use Rattle.std.specs.Prelude.{◌≡◌, ◌≢◌, ℕ, ◌+◌, ◌≤◌, ◌<◌, length, get_or}
use mathlib.Core.List.{List, [], ◌∷◌, ◌++◌, map, flatten}
use Rattle.field.specs.Field.{bytes_of, sum, max_bytes, Whole}
use Rattle.gcm.specs.Gcm.{hash_key}
use Rattle.file.specs.Edits.{Edit}
use Rattle.file.specs.States.{Start, Reading, started, read_file}
use Rattle.file.specs.Calls.{Call, edit, seal, check}
use Rattle.file.specs.Machine.{blank, lent as lentFile}
use Rattle.file.specs.Runs.{Run, begun, begun_from, from_read}
use Rattle.file.specs.Demands.{AcceptedStart, AcceptedRead}
use Rattle.file.specs.Parts.{AllAgree}
use Rattle.journal.specs.Journals.{replay_refusal}
use Rattle.journal.specs.Singly.{Task, call, replay, as_calls, task_refusals}
use Rattle.journal.specs.Forecasts.{forecasted}
use Rattle.capi.specs.Bytes.{state_bytes, state_from}
use Rattle.capi.specs.Calls.{EditCall, edit_call, start_call, read_call, seal_call, check_call, replay_call, JoinCall, join_call}
use Rattle.capi.specs.Leaves.{StartLeaves, ReadLeaves, EditLeaves, SealLeaves, CheckLeaves, ReplayLeaves, ForecastHolds, JoinLeaves}

-- one call: its refusal, the lent state afterwards, which a check can't write, and the count it reports, 0 where it reports none; it serves
-- laws alone
unfoldable pub lent_call : List ℕ → Call → EditCall
lent_call state (edit e) = edit_call state e 0
lent_call state (seal out) = record { refusal = (seal_call state out).refusal; state = (seal_call state out).state; count = 0 }
lent_call state (check slip) = record { refusal = (check_call state slip 0).refusal; state = state; count = 0 }

-- the lent state, the refusals answered and the sum of the counts reported; it serves laws alone
pub record LentRun : Type 0 where
  pub state : List ℕ
  pub refusals : List ℕ
  pub total : ℕ

-- before the first call; it serves laws alone
unfoldable pub lent_begun : List ℕ → LentRun
lent_begun state = record { state = state; refusals = []; total = 0 }

-- with what one call more left; it serves laws alone
unfoldable pub lent_with : LentRun → EditCall → LentRun
lent_with l a = record { state = a.state; refusals = l.refusals ++ (a.refusal ∷ []); total = l.total + a.count }

-- one call more, on the state that the one before it left; it serves laws alone
unfoldable pub lent_further : LentRun → Call → LentRun
lent_further l c = lent_with l (lent_call l.state c)

-- the whole list; it serves laws alone
unfoldable pub lent_run : LentRun → List Call → LentRun
lent_run l [] = l
lent_run l (c ∷ cs) = lent_run (lent_further l c) cs

-- one task: a call, or a replay, which writes state and count refused or not; it serves laws alone
unfoldable pub lent_task : List ℕ → Task → EditCall
lent_task state (call c) = lent_call state c
lent_task state (replay j) =
    let a = replay_call state j in
    record { refusal = a.refusal; state = a.state; count = a.count }

-- a list of tasks; it serves laws alone
unfoldable pub lent_tasks : LentRun → List Task → LentRun
lent_tasks l [] = l
lent_tasks l (t ∷ ts) = lent_tasks (lent_with l (lent_task l.state t)) ts

-- the lent bytes hold the editor's state of a run, the counts are the editor's, and so is what each call that may come next leaves, whatever is
-- lent to it; and no journal makes the file longer than is forecast (document 02, Q-7); the boundary's own statement, in no paper
pub record Held (l : LentRun) (r : Run) : Type 0 where
  pub state : state_from l.state ≡ r.state
  pub total : l.total ≡ r.total
  pub edits : (e : Edit) (count : ℕ) → EditLeaves l.state r.state e count
  pub seals : (out : List ℕ) → SealLeaves l.state r.state out
  pub checks : (slip : List ℕ) (verdict : ℕ) → CheckLeaves l.state r.state slip verdict
  pub replays : (j : List ℕ) → ReplayLeaves l.state r.state j
  pub longest : (j : List ℕ) → (state_from (replay_call l.state j).state).n ≤ (forecasted (state_from l.state).n j).greatest

-- and the numbers answered are these; the boundary's own
pub record Boundary (l : LentRun) (r : Run) (answered : List ℕ) : Type 0 where
  pub held : Held l r
  pub refusals : l.refusals ≡ answered

-- a join of lent states: the hash key of one of them, and the sums and the lengths of all, taken out as the boundary's calls do (document 02, Q-6)
abbrev pub states_joined : (one : List ℕ) (states : List (List ℕ)) (lent : List ℕ) (n : ℕ) → JoinCall
states_joined one states lent n =
    join_call (bytes_of (state_from one).h) (flatten (map (λ (b : List ℕ). bytes_of (state_from b).s) states)) (map (λ (b : List ℕ). (state_from b).n) states)
    lent n

-- a start and a read leave what the file keeper's do, whatever was lent. After any list of calls from an accepted start and from an accepted
-- read the lent bytes hold the editor's state, and the numbers are the editor's; after any list in which journals stand as well, the state is
-- that of the run in which they stand as their edits, and the numbers are the plain machine's, task by task. A journal that is refused as a whole
-- leaves the lent state as it was. A replay stops as was forecast, whatever was lent. A join leaves what the field's answers; of lent states that agree
-- with reads of their parts it is the sum and the length of the joined bytes. The boundary's own
pub record BoundaryTheorem : Type 0 where
  pub starts : (s : Start) (lent : List ℕ) (count : ℕ) → StartLeaves s lent count
  pub reads : (r : Reading) (lent : List ℕ) → ReadLeaves r lent
  pub start :
      (s : Start) → AcceptedStart s → (lent : List ℕ) (count : ℕ) (calls : List Call)
      → Boundary (lent_run (lent_begun (start_call s lent count).state) calls) (begun_from s calls) (begun_from s calls).refusals
  pub read :
      (r : Reading) → AcceptedRead r → (lent : List ℕ) (calls : List Call)
      → Boundary (lent_run (lent_begun (read_call r lent).state) calls) (from_read r calls) (from_read r calls).refusals
  pub start_tasks :
      (s : Start) → AcceptedStart s → (lent : List ℕ) (count : ℕ) (ts : List Task)
      → let begin = begun (started s).state (blank s) in
      Boundary (lent_tasks (lent_begun (start_call s lent count).state) ts) (begun_from s (as_calls begin ts)) (task_refusals begin ts)
  pub read_tasks :
      (r : Reading) → AcceptedRead r → (lent : List ℕ) (ts : List Task)
      → let begin = begun (read_file r).state (lentFile r) in
      Boundary (lent_tasks (lent_begun (read_call r lent).state) ts) (from_read r (as_calls begin ts)) (task_refusals begin ts)
  pub whole :
      (state j : List ℕ) → length state ≡ state_bytes → ((i : ℕ) → i < state_bytes → get_or state i 0 < 256)
      → replay_refusal (state_from state).n j ≢ 0 → (replay_call state j).state ≡ state
  pub forecasts : (state j : List ℕ) → ForecastHolds state j
  pub joins : (h sums lengths lent : List ℕ) (n : ℕ) → JoinLeaves h sums lengths lent n
  pub parts :
      (key : List ℕ) (states files : List (List ℕ)) → AllAgree key (map state_from states) files → Whole files → length (flatten files) ≤ max_bytes
      → (one : List ℕ) → (state_from one).h ≡ hash_key key → (lent : List ℕ) (n : ℕ)
      → states_joined one states lent n ≡ record { refusal = 0; sum = bytes_of (sum (hash_key key) (flatten files)); n = length (flatten files) }
