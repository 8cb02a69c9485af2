-- A list of calls run by the editor and by the plain machine, in one fold (document 01, "The file and its five edits").
use Rattle.std.specs.Prelude.{cond, List, [], ◌∷◌, ◌++◌, ℕ, ◌+◌, ◌≤◌, eqb}
use Rattle.file.specs.declared.states.State.{State}
use Rattle.file.specs.States.{Start, Reading, started, read_file}
use Rattle.file.specs.Slips.{sealed}
use Rattle.file.specs.Calls.{Call, edit, seal, check, call_answer}
use Rattle.file.specs.Machine.{Machine, blank, lent, machine_answer, TrueCall}

-- a run (document 01, "The file and its five edits"): the editor's state and the machine, what each of them refuses and counts, the seal
-- numbers that the editor issued, and the statements that every call was true as it arrived and that no edit reported more than q + 2b
pub record Run : Type 1 where
  pub state : State
  pub machine : Machine
  pub refusals : List ℕ
  pub machine_refusals : List ℕ
  pub total : ℕ
  pub machine_total : ℕ
  pub numbers : List ℕ
  pub truth : Type 0
  pub within : Type 0

-- a run before the first call (document 01, "The file and its five edits")
unfoldable pub begun : State → Machine → Run
begun st m =
    record {
      state = st;
      machine = m;
      refusals = [];
      machine_refusals = [];
      total = 0;
      machine_total = 0;
      numbers = [];
      truth = Unit {0};
      within = Unit {0};
    }

-- a run with one call more (document 01, "The file and its five edits")
unfoldable pub further : Run → Call → Run
further r c =
    let a = call_answer r.state c in
    let b = machine_answer r.machine c in
    record {
      state = a.state;
      machine = b.machine;
      refusals = r.refusals ++ (a.refusal ∷ []);
      machine_refusals = r.machine_refusals ++ (b.refusal ∷ []);
      total = r.total + a.count;
      machine_total = r.machine_total + b.count;
      numbers = r.numbers ++ a.issued;
      truth = r.truth × TrueCall r.machine c;
      within = r.within × (a.count ≤ b.most);
    }

-- a run with the calls of a whole list more (document 01, "The file and its five edits")
unfoldable pub run : Run → List Call → Run
run r [] = r
run r (c ∷ cs) = run (further r c) cs

-- the run of a list from an accepted start (document 01, "The file and its five edits")
unfoldable pub begun_from : Start → List Call → Run
begun_from s calls = run (begun (started s).state (blank s)) calls

-- the run of a list from an accepted read (document 01, "The file and its five edits")
unfoldable pub from_read : Reading → List Call → Run
from_read r calls = run (begun (read_file r).state (lent r)) calls

-- ---- the slips that a list wrote

-- a slip that an accepted seal wrote, and the bytes that it sealed, which the plain machine held (document 02, Q-5)
pub record Written : Type 0 where
  pub slip : List ℕ
  pub bytes : List ℕ

-- the slip that a call of a run writes, if any (document 02, Q-5)
unfoldable pub written_by : Run → Call → List Written
written_by r (edit e) = []
written_by r (seal out) =
    let a = sealed r.state out in
    cond (eqb a.refusal 0) (record { slip = a.slip; bytes = r.machine.bytes } ∷ []) []
written_by r (check slip) = []

-- those that the calls of a whole list write, in their order (document 02, Q-5)
unfoldable pub written_in : Run → List Call → List Written
written_in r [] = []
written_in r (c ∷ cs) = written_by r c ++ written_in (further r c) cs
