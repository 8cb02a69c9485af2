-- A list of calls through the boundary is the list of calls of the demands: the lent bytes are those of the editor's state from an accepted
-- start or read on, since every field of such a state has room in its bytes.
-- It rests on what each call leaves (`Leaves`, `Forecasts`, `Joins`), on the file keeper's invariant and on the journal's lists.
use mathlib.Core.Path.{◌≡◌, refl, sym, ap, ap₂, subst, ◌∙◌}
use mathlib.Core.Bool.{true}
use mathlib.Core.Logic.{◌≢◌}
use mathlib.Core.List.{List, [], ◌∷◌, ◌++◌, append-nil, append_assoc}
use Prim.Native.Nat.{ℕ, ◌+◌, ◌≤◌, ◌<◌, ◌^◌}
use lib.ListN.{length, get_or}
use Rattle.cipher.specs.Aes.{key_fits}
use Rattle.file.specs.declared.states.State.{State}
use Rattle.file.specs.States.{edited, started, read_file}
use Rattle.file.specs.Slips.{sealed}
use Rattle.file.specs.Calls.{Call, edit, seal, check, call_answer}
use Rattle.file.specs.Machine.{blank, lent as lentFile}
use Rattle.file.specs.Runs.{Run, begun, further, run, begun_from, from_read}
use Rattle.file.proofs.Calls.{begun_start, begun-read}
use Rattle.file.proofs.Demand1.{edited_kept, sealed_kept}
use Rattle.file.proofs.KnownLists.{run-append}
use Rattle.file.proofs.Invariant.{Holds, holds_start, holds_read, holds_kept}
use Rattle.journal.specs.Journals.{replay_refusal, replayed}
use Rattle.journal.specs.Forecasts.{forecasted}
use Rattle.journal.specs.Singly.{Task, call, replay, Editor, worked, task_calls, task_refusal, as_calls, task_refusals}
use Rattle.journal.proofs.OpeningLaws.{replayed_whole}
use Rattle.journal.proofs.Lists.{editor_of, holds-run, task_same}
use Rattle.capi.specs.Bytes.{state_bytes, packed_state, state_from}
use Rattle.capi.specs.Calls.{EditCall, edit_call, start_call, read_call, stamped, seal_call, judged, check_call, written, replay_call}
use Rattle.capi.specs.Clauses.{edit_result}
use Rattle.capi.specs.Leaves.{EditLeaves, SealLeaves, CheckLeaves, ReplayLeaves}
use Rattle.capi.specs.LentRuns.{lent_call, LentRun, lent_begun, lent_with, lent_further, lent_run, lent_task, lent_tasks}
use Rattle.capi.specs.LentRuns.{Held, Boundary, BoundaryTheorem}
use Rattle.capi.proofs.StateBytes.{HasRoom, state-back, bytes_back}
use Rattle.capi.proofs.Leaves.{has_room, kept_accepted, kept_same, stamped-state, start_leaves, read-leaves}
use Rattle.capi.proofs.Leaves.{edit-leaves, seal-leaves, check-leaves, replay-leaves}
use Rattle.capi.proofs.Joins.{join-leaves, parts-joined}
use Rattle.capi.proofs.Forecasts.{forecast_holds, longest}

-- ---- one call or journal on the bytes of a state

-- every call leaves the bytes of the state after it, refused or not, and answers the editor's number and count (demand 1)
lent-call : (st : State) → HasRoom st → (c : Call)
    → let a = call_answer st c in
    lent_call (packed_state st) c ≡ edit_result a.refusal (packed_state a.state) a.count
unfolding lent_call call_answer edit_call seal_call check_call stamped judged
lent-call st f (edit e) = rw (state-back st f) (kept_same (edited st e) st (edited_kept st e))
lent-call st f (seal out) =
    rw (state-back st f)
    (ap (λ (b : List ℕ). edit_result (sealed st out).refusal b 0) (stamped-state (sealed st out) st (λ z. (sealed_kept st out z).0)))
lent-call st f (check slip) = rw (state-back st f)

-- and a task what the editor's work does
lent-task : (w : Editor) → HasRoom w.state → (t : Task)
    → let a = lent_task (packed_state w.state) t in
    (a.state ≡ packed_state (worked w t).state)
    × (w.total + a.count ≡ (worked w t).total)
    × (w.refusals ++ (a.refusal ∷ []) ≡ (worked w t).refusals)
unfolding lent_task worked replay_call written
lent-task w f (call c) =
    let e = lent-call w.state f c in (
      ap (λ (x : EditCall). x.state) e,
      ap (λ (x : EditCall). w.total + x.count) e,
      ap (λ (x : EditCall). w.refusals ++ (x.refusal ∷ [])) e,
    )
lent-task w f (replay j) = (rw (state-back w.state f), rw (state-back w.state f), rw (state-back w.state f))

-- ---- lists, of a run in which the invariant holds

module _ (key : List ℕ) (arm : ℕ) (k : key_fits key ≡ true) (w : arm < 2 ^ 32) where
  module _ (r : Run) (h : Holds key arm r.state r.machine) where
    room : HasRoom r.state
    room = has_room key arm k w r.state r.machine h

    -- and after a call or a journal more
    room-later : (c : Call) → HasRoom (call_answer r.state c).state
    room-later c = has_room key arm k w _ _ (holds_kept key arm r.state r.machine h c)

    room-replayed : (j : List ℕ) → HasRoom (replayed r.state j).state
    unfolding worked
    room-replayed j =
        subst HasRoom (sym (ap (λ (x : Editor). x.state) (task_same r [] [] [] key arm (replay j) h)))
        (has_room key arm k w _ _ (holds-run key arm r (task_calls (length r.machine.bytes) (replay j)) h))

    held : (l : LentRun) → l.state ≡ packed_state r.state → l.total ≡ r.total → Held l r
    unfolding call_answer
    held l b t =
        let st = r.state in
        record {
          state = ap state_from b ∙ state-back st room;
          total = t;
          edits = λ e count. subst (λ (x : List ℕ). EditLeaves x st e count) (sym b) (edit-leaves st room e count (room-later (edit e)));
          seals = λ out. subst (λ (x : List ℕ). SealLeaves x st out) (sym b) (seal-leaves st room out (room-later (seal out)));
          checks = λ slip verdict. subst (λ (x : List ℕ). CheckLeaves x st slip verdict) (sym b) (check-leaves st room slip verdict);
          replays = λ j. subst (λ (x : List ℕ). ReplayLeaves x st j) (sym b) (replay-leaves st room j (room-replayed j));
          longest = λ j.
              subst (λ (x : List ℕ). (state_from (replay_call x j).state).n ≤ (forecasted (state_from x).n j).greatest) (sym b)
              (longest st room j (room-replayed j));
        }

  boundary_run : (l : LentRun) (r : Run) (calls : List Call) → Holds key arm r.state r.machine → l.state ≡ packed_state r.state
      → l.total ≡ r.total → l.refusals ≡ r.refusals → Boundary (lent_run l calls) (run r calls) (run r calls).refusals
  unfolding lent_run run lent_further lent_with further
  boundary_run l r [] h b t a = record { held = held r h l b t; refusals = a }
  boundary_run l r (c ∷ cs) h b t a =
      let e = ap (λ (x : List ℕ). lent_call x c) b ∙ lent-call r.state (room r h) c in
      boundary_run (lent_further l c) (further r c) cs (holds_kept key arm r.state r.machine h c)
      (ap (λ (x : EditCall). x.state) e)
      (ap₂ (λ (x : ℕ) (y : EditCall). x + y.count) t e)
      (ap₂ (λ (x : List ℕ) (y : EditCall). x ++ (y.refusal ∷ [])) a e)

  -- a list of tasks, before which these numbers were answered
  task_run : (l : LentRun) (r : Run) (answered : List ℕ) (ts : List Task) → Holds key arm r.state r.machine
      → l.state ≡ packed_state r.state → l.total ≡ r.total → l.refusals ≡ answered
      → Boundary (lent_tasks l ts) (run r (as_calls r ts)) (answered ++ task_refusals r ts)
  unfolding lent_tasks as_calls task_refusals lent_with
  task_run l r answered [] h b t a = unfold run in record { held = held r h l b t; refusals = a ∙ sym (append-nil answered) }
  task_run l r answered (x ∷ xs) h b t a =
      let calls = task_calls (length r.machine.bytes) x in
      let number = task_refusal r.machine x ∷ [] in
      let same = task_same r answered [] [] key arm x h in
      let e = lent-task (editor_of r answered [] []) (room r h) x in
      rw (run-append r calls (as_calls (run r calls) xs), ← (append_assoc answered number (task_refusals (run r calls) xs)))
      (task_run (lent_with l (lent_task l.state x)) (run r calls) (answered ++ number) xs (holds-run key arm r calls h)
      (ap (λ (s : List ℕ). (lent_task s x).state) b ∙ e.0 ∙ ap (λ (w : Editor). packed_state w.state) same)
      (ap₂ (λ (n : ℕ) (s : List ℕ). n + (lent_task s x).count) t b ∙ e.1 ∙ ap (λ (w : Editor). w.total) same)
      (ap₂ (λ (ns : List ℕ) (s : List ℕ). ns ++ ((lent_task s x).refusal ∷ [])) a b ∙ e.2 ∙ ap (λ (w : Editor). w.refusals) same))

-- a journal that is refused as a whole leaves the bytes of the state that was read
whole_kept : (state j : List ℕ) → length state ≡ state_bytes → ((i : ℕ) → i < state_bytes → get_or state i 0 < 256)
    → replay_refusal (state_from state).n j ≢ 0 → (replay_call state j).state ≡ state
unfolding replay_call written
whole_kept state j l small z = rw (replayed_whole (state_from state) j z) (bytes_back state l (λ i h. small i (rw l at h)))

-- ---- from an accepted start or read, whatever bytes are lent

pub boundary_theorem : BoundaryTheorem
unfolding start_call read_call lent_begun begun_from from_read begun
boundary_theorem =
    record {
      starts = start_leaves;
      reads = read-leaves;
      start = λ s a lent count calls.
          boundary_run s.key s.arm (begun_start s a.accepted).fits a.arm _ _ calls (holds_start s a.accepted a.last)
          (ap (λ (x : EditCall). x.state) (kept_accepted (started s) lent count a.accepted)) refl refl;
      read = λ r a lent calls.
          boundary_run r.key r.arm (begun-read r a.accepted).fits a.arm _ _ calls (holds_read r a.accepted a.last)
          (ap (λ (x : EditCall). x.state) (kept_accepted (read_file r) lent 0 a.accepted)) refl refl;
      start_tasks = λ s a lent count ts.
          task_run s.key s.arm (begun_start s a.accepted).fits a.arm _ (begun (started s).state (blank s)) [] ts
          (holds_start s a.accepted a.last)
          (ap (λ (x : EditCall). x.state) (kept_accepted (started s) lent count a.accepted)) refl refl;
      read_tasks = λ r a lent ts.
          task_run r.key r.arm (begun-read r a.accepted).fits a.arm _ (begun (read_file r).state (lentFile r)) [] ts
          (holds_read r a.accepted a.last)
          (ap (λ (x : EditCall). x.state) (kept_accepted (read_file r) lent 0 a.accepted)) refl refl;
      whole = whole_kept;
      forecasts = forecast_holds;
      joins = join-leaves;
      parts = parts-joined;
    }
