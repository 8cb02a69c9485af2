-- Replay beside the same edits called singly (document 02, Q-1), and the demands over lists in which journals stand, which are our own. The
-- proofs are `replay_theorem` in proofs/Singly and `journal_demands` in proofs/Lists.
use Rattle.std.specs.Prelude.{◌≡◌, cond, List, [], ◌∷◌, ◌++◌, map, ℕ, ◌+◌, ◌≤◌, ◌<◌, eqb, length, replicate}
use Rattle.field.specs.Field.{max_bytes}
use Rattle.file.specs.declared.states.State.{State}
use Rattle.file.specs.Edits.{Edit, geometry_at, edit_refusal}
use Rattle.file.specs.States.{Start, Reading, started, read_file, edited}
use Rattle.file.specs.Calls.{Call, edit, call_answer}
use Rattle.file.specs.Machine.{Machine, blank, lent, machine_refusal}
use Rattle.file.specs.Runs.{Run, begun, run, begun_from, from_read, Written, written_in}
use Rattle.file.specs.Demands.{AcceptedStart, AcceptedRead, Sealing, TwoRuns, Ages}
use Rattle.journal.specs.Records.{record_bytes, Opening, opens, refused, ended, opening}
use Rattle.journal.specs.Journals.{opened_journal, max_journal, replay_refusal, ReplayAnswer, stopped_at, replayed}

-- ---- what replay makes of a journal, by lengths alone

-- the edits made of a file of n bytes: in order, up to the first that is refused (document 02, Q-1)
unfoldable pub made_from : ℕ → List (ℕ × Edit) → List Edit
made_from n [] = []
made_from n (r ∷ rs) = cond (eqb (edit_refusal n r.1) 0) (r.1 ∷ made_from (geometry_at n r.1).n rs) []

-- of a journal; one that is refused as a whole makes none (document 02, Q-1)
unfoldable pub made : ℕ → List ℕ → List Edit
made n j = cond (eqb (replay_refusal n j) 0) (made_from n (opened_journal j).edits) []

-- where it stops (document 02, Q-1): the refusal or 0, and the offset
unfoldable pub stop_from : ℕ → List (ℕ × Edit) → (refusal offset : ℕ) → ℕ × ℕ
stop_from n [] refusal offset = (refusal, offset)
stop_from n (r ∷ rs) refusal offset =
    cond (eqb (edit_refusal n r.1) 0) (stop_from (geometry_at n r.1).n rs refusal offset) (edit_refusal n r.1, r.0)

-- of a journal; one that is refused as a whole stops at its first byte (document 02, Q-1)
unfoldable pub stop_of : ℕ → List ℕ → ℕ × ℕ
stop_of n j =
    let o = opened_journal j in
    cond (eqb (replay_refusal n j) 0) (stop_from n o.edits o.refusal o.offset) (replay_refusal n j, 0)

-- ---- replay and single calls

-- the records from a place on open to these edits, back to back, and end at a place (document 02, Q-1)
unfoldable pub Opens : (j : List ℕ) (at : ℕ) → List Edit → (end : ℕ) → Type 0
Opens j at [] end = at ≡ end
Opens j at (e ∷ es) end = (opening j at ≡ opens e (at + record_bytes e)) × Opens j (at + record_bytes e) es end

-- what stands at a place answers (document 02, Q-1): a record's edit as its call would, one that does not open its refusal, the end 0
unfoldable pub answer_at : State → Opening → ℕ
answer_at st (opens e next) = (edited st e).refusal
answer_at st (refused n) = n
answer_at st ended = 0

-- r is any run of calls, after the run with the calls of es more, and a what replay answers to r's state and a journal (document 02, Q-1)
pub record Singly (r after : Run) (j : List ℕ) (es : List Edit) (a : ReplayAnswer) : Type 0 where
  -- es are the edits of the journal's records up to the offset, and every one is accepted
  pub records : Opens j 0 es a.offset
  pub accepted : after.refusals ≡ r.refusals ++ replicate (length es) 0
  -- state and total are those of their calls
  pub state : a.state ≡ after.state
  pub total : r.total + a.count ≡ after.total
  -- what stands at the offset is what replay answers, and where that is 0 the journal ends there
  pub answer : a.refusal ≡ answer_at a.state (opening j a.offset)
  pub done : a.refusal ≡ 0 → a.offset ≡ length j
  -- a refused record's call leaves the state that it met
  pub kept : (e : Edit) (next : ℕ) → opening j a.offset ≡ opens e next → (edited a.state e).state ≡ a.state

-- replay, for every run and every journal (document 02, Q-1)
pub record ReplayTheorem : Type 1 where
  -- refused as a whole, nothing is applied: 2 for the state's length, and then 10 for the journal's
  pub long_state : (st : State) (j : List ℕ) → max_bytes < st.n → replayed st j ≡ stopped_at st 0 2 0
  pub long_journal : (st : State) (j : List ℕ) → st.n ≤ max_bytes → max_journal < length j → replayed st j ≡ stopped_at st 0 10 0
  -- else state, total, offset and answer are those of single calls
  pub singly :
      (r : Run) (j : List ℕ) → r.state.n ≤ max_bytes → length j ≤ max_journal
      → let es = made r.state.n j in
      Singly r (run r (map edit es)) j es (replayed r.state j)
  -- and where it stops is told by lengths alone
  pub stops : (st : State) (j : List ℕ) → ((replayed st j).refusal, (replayed st j).offset) ≡ stop_of st.n j

-- ---- lists in which journals stand

-- a call, or a journal to replay; our own, as all that follows
pub data Task : Type 0 where
  call : Call → Task
  replay : List ℕ → Task

-- the editor alone: its state, the sum of the counts that it reported, the number that it answered to each task, the seal numbers that it issued,
-- the slips that its accepted seals wrote, and where each journal stopped
pub record Editor : Type 0 where
  pub state : State
  pub total : ℕ
  pub refusals : List ℕ
  pub numbers : List ℕ
  pub slips : List (List ℕ)
  pub stops : List (ℕ × ℕ)

-- before the first task
unfoldable pub idle : State → Editor
idle st = record { state = st; total = 0; refusals = []; numbers = []; slips = []; stops = [] }

-- after one task more; a call that issues a number writes the slip that it stands on
unfoldable pub worked : Editor → Task → Editor
worked w (call c) =
    let a = call_answer w.state c in
    record {
      state = a.state;
      total = w.total + a.count;
      refusals = w.refusals ++ (a.refusal ∷ []);
      numbers = w.numbers ++ a.issued;
      slips = w.slips ++ map (λ (number : ℕ). a.slip) a.issued;
      stops = w.stops;
    }
worked w (replay j) =
    let a = replayed w.state j in
    record {
      state = a.state;
      total = w.total + a.count;
      refusals = w.refusals ++ (a.refusal ∷ []);
      numbers = w.numbers;
      slips = w.slips;
      stops = w.stops ++ ((a.refusal, a.offset) ∷ []);
    }

-- after all of a list
unfoldable pub worked_all : Editor → List Task → Editor
worked_all w [] = w
worked_all w (t ∷ ts) = worked_all (worked w t) ts

-- the calls that stand for a task, at a plain machine of n bytes: a journal's are its edits
unfoldable pub task_calls : ℕ → Task → List Call
task_calls n (call c) = c ∷ []
task_calls n (replay j) = map edit (made n j)

-- what the plain machine answers to a task: to a journal the number that it stops with
unfoldable pub task_refusal : Machine → Task → ℕ
task_refusal m (call c) = machine_refusal m c
task_refusal m (replay j) = (stop_of (length m.bytes) j).0

-- where a task stops there, if it is a journal
unfoldable pub task_stops : ℕ → Task → List (ℕ × ℕ)
task_stops n (call c) = []
task_stops n (replay j) = stop_of n j ∷ []

-- the list in which journals stand as their edits
unfoldable pub as_calls : Run → List Task → List Call
as_calls r [] = []
as_calls r (t ∷ ts) =
    let calls = task_calls (length r.machine.bytes) t in
    calls ++ as_calls (run r calls) ts

-- what the plain machine answers to each task of a list
unfoldable pub task_refusals : Run → List Task → List ℕ
task_refusals r [] = []
task_refusals r (t ∷ ts) = task_refusal r.machine t ∷ task_refusals (run r (task_calls (length r.machine.bytes) t)) ts

-- where the plain machine stops in each journal of a list
unfoldable pub machine_stops : Run → List Task → List (ℕ × ℕ)
machine_stops r [] = []
machine_stops r (t ∷ ts) =
    let n = length r.machine.bytes in
    task_stops n t ++ machine_stops (run r (task_calls n t)) ts

-- an editor that replays journals, from a run's state on, is that of r, the run in which they stand as their edits: state, total and seal numbers
-- are r's, and the slips those that r's calls wrote. It answers to each task what the plain machine does, and stops in journals where that does
pub record SameEditor (begin : Run) (ts : List Task) (w : Editor) (r : Run) : Type 0 where
  pub state : w.state ≡ r.state
  pub total : w.total ≡ r.total
  pub refusals : w.refusals ≡ task_refusals begin ts
  pub numbers : w.numbers ≡ r.numbers
  pub slips : w.slips ≡ map (λ (x : Written). x.slip) (written_in begin (as_calls begin ts))
  pub stops : w.stops ≡ machine_stops begin ts

-- so it is from an accepted start and from an accepted read; demands 2 and 3 hold of that run, and its slips age as those of any list
pub record JournalDemands : Type 1 where
  pub start :
      (s : Start) → AcceptedStart s → (ts : List Task)
      → let begin = begun (started s).state (blank s) in
      let r = begun_from s (as_calls begin ts) in
      SameEditor begin ts (worked_all (idle (started s).state) ts) r
      × TwoRuns s r
      × (r.truth → Sealing s.key s.arm r)
      × Ages (written_in begin (as_calls begin ts)) r
  pub read :
      (f : Reading) → AcceptedRead f → (ts : List Task)
      → let begin = begun (read_file f).state (lent f) in
      let r = from_read f (as_calls begin ts) in
      SameEditor begin ts (worked_all (idle (read_file f).state) ts) r
      × (r.truth → Sealing f.key f.arm r)
      × Ages (written_in begin (as_calls begin ts)) r
