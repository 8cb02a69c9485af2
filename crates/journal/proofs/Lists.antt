-- Lists in which journals stand: the editor that replays them is the one of the demands' run in which they stand as their edits.
-- It rests on replay's theorem (`Singly`), on the file keeper's invariant, on the three demands and on the theorem on a list's slips.
use mathlib.Core.Path.{◌≡◌, refl, sym, ap, subst, ◌∙◌}
use mathlib.Core.Bool.{Bool, true, false, cond}
use mathlib.Core.List.{List, [], ◌∷◌, ◌++◌, map, map-append, append-nil, append_assoc}
use Prim.Native.Nat.{ℕ, ◌≤◌}
use native.Mathlib.Nat.{add-zero}
use lib.Dec.{eqb, ltb}
use lib.ListN.{length}
use borrow.Author.Tests.{ltb-true, ltb-false}
use Rattle.field.specs.Field.{max_bytes}
use Rattle.file.specs.Edits.{Edit}
use Rattle.file.specs.States.{started, read_file}
use Rattle.file.specs.Slips.{slip_number, sealed}
use Rattle.file.specs.Calls.{Call, edit, seal, check, call_answer}
use Rattle.file.specs.Machine.{blank, lent, machine_refusal}
use Rattle.file.specs.Runs.{Run, begun, further, run, begun_from, from_read, Written, written_by, written_in}
use Rattle.file.specs.Demands.{Demand3}
use Rattle.file.proofs.Invariant.{Holds, holds_start, holds_read, same_refusal, holds_kept}
use Rattle.file.proofs.Demand1.{demand_1}
use Rattle.file.proofs.Demand2.{demand_2}
use Rattle.file.proofs.Demand3.{demand_3}
use Rattle.file.proofs.SlipAges.{slip-ages}
use Rattle.file.proofs.KnownLists.{run-append}
use Rattle.journal.specs.Journals.{max_journal, replay_refusal}
use Rattle.journal.specs.Singly.{made, stop_of, Task, call, replay, Editor, idle, worked, worked_all}
use Rattle.journal.specs.Singly.{task_calls, task_refusal, task_stops, as_calls, task_refusals, machine_stops, SameEditor, JournalDemands}
use Rattle.journal.proofs.PlaceLaws.{whole_journal}
use Rattle.journal.proofs.Singly.{replay_theorem}

-- ---- runs

-- the slips that a list of calls wrote
abbrev slip_on : Written → List ℕ
slip_on x = x.slip

abbrev slips_in : Run → List Call → List (List ℕ)
slips_in r calls = map slip_on (written_in r calls)

slips-append : (r : Run) (cs ds : List Call) → slips_in r (cs ++ ds) ≡ slips_in r cs ++ slips_in (run r cs) ds
unfolding run written_in
slips-append r [] ds = refl
slips-append r (c ∷ cs) ds =
    let here = map slip_on (written_by r c) in
    map-append slip_on (written_by r c) (written_in (further r c) (cs ++ ds))
    ∙ ap (λ (x : List (List ℕ)). here ++ x) (slips-append (further r c) cs ds)
    ∙ sym (append_assoc here (slips_in (further r c) cs) (slips_in (run (further r c) cs) ds))
    ∙ ap (λ (x : List (List ℕ)). x ++ slips_in (run (further r c) cs) ds) (sym (map-append slip_on (written_by r c) (written_in (further r c) cs)))

-- a call writes a slip where it issues a number
slip-or-none : (t : Bool) (w : Written)
    → map (λ (number : ℕ). w.slip) (cond t (slip_number w.slip ∷ []) []) ≡ map slip_on (cond t (w ∷ []) [] ++ [])
slip-or-none true w = refl
slip-or-none false w = refl

call-slip : (r : Run) (c : Call)
    → let a = call_answer r.state c in
    map (λ (number : ℕ). a.slip) a.issued ≡ slips_in r (c ∷ [])
unfolding call_answer written_in written_by
call-slip r (edit e) = refl
call-slip r (seal out) =
    let a = sealed r.state out in
    slip-or-none (eqb a.refusal 0) (record { slip = a.slip; bytes = r.machine.bytes })
call-slip r (check slip) = refl

-- edits write none and issue no number
edits-slips : (r : Run) (es : List Edit) → slips_in r (map edit es) ≡ []
unfolding written_in written_by
edits-slips r [] = refl
edits-slips r (e ∷ es) = edits-slips (further r (edit e)) es

edits-numbers : (r : Run) (es : List Edit) → (run r (map edit es)).numbers ≡ r.numbers
unfolding run further call_answer
edits-numbers r [] = refl
edits-numbers r (e ∷ es) = edits-numbers (further r (edit e)) es ∙ append-nil r.numbers

-- ---- one task

-- the editor of a run, which answered so to tasks, wrote these slips and stopped in journals so
abbrev pub editor_of : Run → (refusals : List ℕ) (slips : List (List ℕ)) (stops : List (ℕ × ℕ)) → Editor
editor_of r refusals slips stops =
    record { state = r.state; total = r.total; refusals = refusals; numbers = r.numbers; slips = slips; stops = stops }

module _ (r : Run) (refusals : List ℕ) (slips : List (List ℕ)) (stops : List (ℕ × ℕ)) where
  -- with one task more, for which these calls stand
  abbrev after : List Call → (refusal : ℕ) → List (ℕ × ℕ) → Editor
  after calls refusal stopped = editor_of (run r calls) (refusals ++ (refusal ∷ [])) (slips ++ slips_in r calls) (stops ++ stopped)

  -- a journal of a run whose state is within its limit
  replay_same : (j : List ℕ) → r.state.n ≤ max_bytes → (t : Bool) → ltb max_journal (length j) ≡ t
      → let stop = stop_of r.state.n j in
      worked (editor_of r refusals slips stops) (replay j) ≡ after (map edit (made r.state.n j)) stop.0 (stop ∷ [])
  unfolding worked made run written_in
  replay_same j l true e =
      let whole : 10 ≡ replay_refusal r.state.n j = whole_journal r.state.n j l (ltb-true _ _ e) in
      let stop = replay_theorem.stops r.state j in
      rw (sym stop, replay_theorem.long_journal r.state j l (ltb-true _ _ e), ← whole)
      (λ i. record {
        state = r.state;
        total = add-zero r.total i;
        refusals = refusals ++ (10 ∷ []);
        numbers = r.numbers;
        slips = sym (append-nil slips) i;
        stops = stops ++ ((10, 0) ∷ []);
      })
  replay_same j l false e =
      let s = replay_theorem.singly r j l (ltb-false _ _ e) in
      let stop = replay_theorem.stops r.state j in
      let es = made r.state.n j in
      λ i. record {
        state = s.state i;
        total = s.total i;
        refusals = refusals ++ ((stop i).0 ∷ []);
        numbers = sym (edits-numbers r es) i;
        slips = (sym (ap (λ (x : List (List ℕ)). slips ++ x) (edits-slips r es) ∙ append-nil slips)) i;
        stops = stops ++ (stop i ∷ []);
      }

  -- a call of a run in which the invariant holds
  call_same : (key : List ℕ) (arm : ℕ) (c : Call) → Holds key arm r.state r.machine
      → worked (editor_of r refusals slips stops) (call c) ≡ after (c ∷ []) (machine_refusal r.machine c) []
  unfolding worked run further
  call_same key arm c h =
      let number : (call_answer r.state c).refusal ≡ machine_refusal r.machine c =
      demand_1.causes r.state c ∙ same_refusal key arm r.state r.machine h c in
      λ i. editor_of (further r c) (refusals ++ (number i ∷ [])) (slips ++ call-slip r c i) (sym (append-nil stops) i)

  -- and so any task
  pub task_same : (key : List ℕ) (arm : ℕ) (t : Task) → Holds key arm r.state r.machine
      → let n = length r.machine.bytes in
      worked (editor_of r refusals slips stops) t ≡ after (task_calls n t) (task_refusal r.machine t) (task_stops n t)
  unfolding task_calls task_refusal task_stops
  task_same key arm (call c) h = call_same key arm c h
  task_same key arm (replay j) h =
      subst (λ (n : ℕ). worked (editor_of r refusals slips stops) (replay j) ≡ after (map edit (made n j)) (stop_of n j).0 (stop_of n j ∷ []))
      h.same_n (replay_same j (rw h.same_n h.short) (ltb max_journal (length j)) refl)

-- ---- lists, of a run in which the invariant holds

module _ (key : List ℕ) (arm : ℕ) where
  pub holds-run : (r : Run) (cs : List Call) → Holds key arm r.state r.machine → Holds key arm (run r cs).state (run r cs).machine
  unfolding run further
  holds-run r [] h = h
  holds-run r (c ∷ cs) h = holds-run (further r c) cs (holds_kept key arm r.state r.machine h c)

  tasks_same : (r : Run) (refusals : List ℕ) (slips : List (List ℕ)) (stops : List (ℕ × ℕ)) (ts : List Task)
      → Holds key arm r.state r.machine
      → worked_all (editor_of r refusals slips stops) ts
      ≡ editor_of (run r (as_calls r ts)) (refusals ++ task_refusals r ts) (slips ++ slips_in r (as_calls r ts)) (stops ++ machine_stops r ts)
  unfolding worked_all as_calls task_refusals machine_stops
  tasks_same r refusals slips stops [] h =
      unfold run written_in in λ i. editor_of r (sym (append-nil refusals) i) (sym (append-nil slips) i) (sym (append-nil stops) i)
  tasks_same r refusals slips stops (t ∷ ts) h =
      let n = length r.machine.bytes in
      let calls = task_calls n t in
      let later = run r calls in
      let rest = as_calls later ts in
      let number = task_refusal r.machine t ∷ [] in
      let joined = append_assoc slips (slips_in r calls) (slips_in later rest)
      ∙ ap (λ (x : List (List ℕ)). slips ++ x) (sym (slips-append r calls rest)) in
      ap (λ (w : Editor). worked_all w ts) (task_same r refusals slips stops key arm t h)
      ∙ tasks_same later (refusals ++ number) (slips ++ slips_in r calls) (stops ++ task_stops n t) ts (holds-run r calls h)
      ∙ (λ i. editor_of (sym (run-append r calls rest) i) (append_assoc refusals number (task_refusals later ts) i) (joined i)
      (append_assoc stops (task_stops n t) (machine_stops later ts) i))

same_editor : {begin : Run} {ts : List Task} {w : Editor} {r : Run}
    → w ≡ editor_of r (task_refusals begin ts) (slips_in begin (as_calls begin ts)) (machine_stops begin ts) → SameEditor begin ts w r
same_editor e =
    record {
      state = ap (λ (x : Editor). x.state) e;
      total = ap (λ (x : Editor). x.total) e;
      refusals = ap (λ (x : Editor). x.refusals) e;
      numbers = ap (λ (x : Editor). x.numbers) e;
      slips = ap (λ (x : Editor). x.slips) e;
      stops = ap (λ (x : Editor). x.stops) e;
    }

pub journal_demands : JournalDemands
unfolding begun_from from_read run begun idle Demand3
journal_demands =
    record {
      start = λ s a ts.
          let begin = begun (started s).state (blank s) in
          let calls = as_calls begin ts in (
            same_editor (tasks_same s.key s.arm begin [] [] [] ts (holds_start s a.accepted a.last)),
            demand_3 s a calls,
            demand_2.start s a calls,
            slip-ages.start s a calls,
          );
      read = λ f a ts.
          let begin = begun (read_file f).state (lent f) in
          let calls = as_calls begin ts in (
            same_editor (tasks_same f.key f.arm begin [] [] [] ts (holds_read f a.accepted a.last)),
            demand_2.read f a calls,
            slip-ages.read f a calls,
          );
    }
