-- Lists of journals of appends, and seals behind them: what the demands of lists in which journals stand say of them.
-- It rests on these demands (`Lists`), on such journals (`KnownJournals`) and on the file keeper's lists of appends and of seals (`KnownLists`).
use mathlib.Core.Path.{◌≡◌, refl, sym, ap, ap₂, subst, ◌∙◌}
use mathlib.Core.List.{List, [], ◌∷◌, ◌++◌, map, map-map, map-append, flatten, append_assoc}
use Prim.Native.Nat.{ℕ, zero, suc, ◌+◌, ◌≤◌, ◌<◌, ◌^◌}
use native.Mathlib.Nat.{zero-add}
use native.Mathlib.Omega.{arith}
use lib.ListN.{length, replicate, length-append, length-replicate}
use Rattle.field.specs.Field.{zero_block, sum, max_bytes}
use Rattle.field.proofs.Parts.{flatten_append}
use Rattle.gcm.specs.Gcm.{hash_key}
use Rattle.file.specs.declared.states.State.{State}
use Rattle.file.specs.Edits.{append}
use Rattle.file.specs.States.{zero_state, put, Start, started, read_file}
use Rattle.file.specs.Slips.{slip_bytes, slip_number, sealed}
use Rattle.file.specs.Calls.{Call, edit, seal}
use Rattle.file.specs.Machine.{Machine, blank, lent}
use Rattle.file.specs.Runs.{Run, begun, further, run, begun_from, from_read, Written, written_in}
use Rattle.file.specs.Demands.{AcceptedStart, SlipOf, up_from}
use Rattle.file.specs.Met.{appends, append_counts}
use Rattle.file.proofs.KnownLists.{run-append, longer, seal-accepts, risen}
use Rattle.file.proofs.HypothesesMet.{read-sum}
use Rattle.journal.specs.Singly.{made, stop_of, Task, call, replay, idle, worked_all, task_calls, task_refusal, as_calls, task_refusals}
use Rattle.journal.specs.Met.{append_journal, Replayable, AllReplayable, journals_then_seals, Filed, JournalDemandsMet}
use Rattle.journal.proofs.Singly.{replay_theorem}
use Rattle.journal.proofs.Lists.{journal_demands}
use Rattle.journal.proofs.KnownJournals.{made_journal, replayed_whole}

-- ---- what stands for such a list

-- the calls that stand for a list of tasks, and what the plain machine answers to each task
record StandsFor (r : Run) (ts : List Task) (cs : List Call) (ns : List ℕ) : Type 0 where
  pub calls : as_calls r ts ≡ cs
  pub refusals : task_refusals r ts ≡ ns

-- a journal of appends isn't stopped, told by lengths alone
stop-none : (n : ℕ) (parts : List (List ℕ)) → Replayable parts → n + length (flatten parts) ≤ max_bytes → (stop_of n (append_journal parts)).0 ≡ 0
unfolding begun put
stop-none n parts h l =
    let st = put zero_state zero_block n in
    let m : Machine = record { bytes = []; last = 0 } in
    ap (λ (x : ℕ × ℕ). x.0) (sym (replay_theorem.stops st (append_journal parts))) ∙ (replayed_whole (begun st m) parts h l).refusal

abbrev journals : List (List (List ℕ)) → List Task
journals groups = map (λ (parts : List (List ℕ)). replay (append_journal parts)) groups

-- journals of appends stand for the appends of all their parts
as_appends : (r : Run) (groups : List (List (List ℕ))) (ts : List Task) → AllReplayable groups
    → length r.machine.bytes + length (flatten (flatten groups)) ≤ max_bytes
    → let after = run r (appends (flatten groups)) in
    StandsFor r (journals groups ++ ts) (appends (flatten groups) ++ as_calls after ts) (replicate (length groups) 0 ++ task_refusals after ts)
unfolding as_calls task_calls task_refusals task_refusal AllReplayable flatten run
as_appends r [] ts h l = record { calls = refl; refusals = refl }
as_appends r (parts ∷ groups) ts h l =
    let n = length r.machine.bytes in
    let rest = flatten groups in
    let sizes : length (flatten (parts ++ rest)) ≡ length (flatten parts) + length (flatten rest) =
    ap length (flatten_append parts rest) ∙ length-append (flatten parts) (flatten rest) in
    let room : n + length (flatten parts) ≤ max_bytes = omega (arith, l, sizes) in
    let calls : map edit (made n (append_journal parts)) ≡ appends parts = ap (map edit) (made_journal n parts h.0 room) ∙ map-map edit append parts in
    let size : length (run r (appends parts)).machine.bytes ≡ n + length (flatten parts) =
    ap length (longer r parts room).bytes ∙ length-append r.machine.bytes (flatten parts) in
    let later = as_appends (run r (appends parts)) groups ts h.1 (omega (arith, l, sizes, size)) in
    let all : appends (parts ++ rest) ≡ appends parts ++ appends rest = map-append (λ (part : List ℕ). edit (append part)) parts rest in
    let end : run (run r (appends parts)) (appends rest) ≡ run r (appends (parts ++ rest)) =
    sym (ap (run r) all ∙ run-append r (appends parts) (appends rest)) in
    record {
      calls = ap (λ (cs : List Call). cs ++ as_calls (run r cs) (journals groups ++ ts)) calls
          ∙ ap (λ (cs : List Call). appends parts ++ cs) later.calls
          ∙ sym (append_assoc (appends parts) (appends rest) _)
          ∙ ap₂ (λ (cs : List Call) (x : Run). cs ++ as_calls x ts) (sym all) end;
      refusals = ap₂ {C = List ℕ} (λ (x : ℕ) (cs : List Call). x ∷ task_refusals (run r cs) (journals groups ++ ts)) (stop-none n parts h.0 room) calls
          ∙ ap {B = List ℕ} (λ (xs : List ℕ). 0 ∷ xs) later.refusals
          ∙ ap (λ (x : Run). replicate (suc (length groups)) 0 ++ task_refusals x ts) end;
    }

-- and plain seals for themselves
as_seals : (r : Run) (k : ℕ) (out : List ℕ) → length r.machine.bytes ≤ max_bytes → length out ≡ slip_bytes → r.machine.last + k < 2 ^ 64
    → StandsFor r (replicate k (call (seal out))) (replicate k (seal out)) (replicate k 0)
unfolding as_calls task_calls task_refusals task_refusal run further
as_seals r zero out short room left = record { calls = refl; refusals = refl }
as_seals r (suc k) out short room left =
    let one = risen r out 1 short room (omega (arith, left)) in
    let accepted = seal-accepts r.machine out short room (omega (arith, left)) in
    let later = as_seals (further r (seal out)) k out (rw one.bytes short) room (omega (arith, left, one.last)) in
    record {
      calls = ap {B = List Call} (λ (cs : List Call). seal out ∷ cs) later.calls;
      refusals = ap₂ {C = List ℕ} (λ (x : ℕ) (xs : List ℕ). x ∷ xs) accepted later.refusals;
    }

-- ---- what such a list leaves of the plain machine

-- k seals behind journals of groups of parts, run from b to r
record Left (b : Run) (groups : List (List (List ℕ))) (k : ℕ) (tasks : List Task) (r : Run) : Type 0 where
  pub refusals : task_refusals b tasks ≡ replicate (length groups) 0 ++ replicate k 0
  pub bytes : r.machine.bytes ≡ b.machine.bytes ++ flatten (flatten groups)
  pub last : r.machine.last ≡ b.machine.last + k
  pub truth : b.truth → r.truth
  pub total : r.machine_total ≡ b.machine_total + append_counts (length b.machine.bytes) (flatten groups)

leaves : (b : Run) (groups : List (List (List ℕ))) → AllReplayable groups → length b.machine.bytes + length (flatten (flatten groups)) ≤ max_bytes
    → (k : ℕ) → b.machine.last + k < 2 ^ 64 → (out : List ℕ) → length out ≡ slip_bytes
    → let tasks = journals_then_seals groups k out in
    Left b groups k tasks (run b (as_calls b tasks))
leaves b groups h short k left out room =
    let parts = flatten groups in
    let longest = longer b parts short in
    let r = run b (appends parts) in
    let size : length r.machine.bytes ≤ max_bytes = rw (longest.bytes, length-append b.machine.bytes (flatten parts)) short in
    let number : r.machine.last + k < 2 ^ 64 = rw longest.last left in
    let front = as_appends b groups (replicate k (call (seal out))) h short in
    let back = as_seals r k out size room number in
    let raised = risen r out k size room number in
    let calls : run b (as_calls b (journals_then_seals groups k out)) ≡ run r (replicate k (seal out)) =
    ap (run b) (front.calls ∙ ap (λ (cs : List Call). appends parts ++ cs) back.calls) ∙ run-append b (appends parts) (replicate k (seal out)) in
    record {
      refusals = front.refusals ∙ ap (λ (xs : List ℕ). replicate (length groups) 0 ++ xs) back.refusals;
      bytes = ap (λ (x : Run). x.machine.bytes) calls ∙ raised.bytes ∙ longest.bytes;
      last = ap (λ (x : Run). x.machine.last) calls ∙ raised.last ∙ ap (λ (n : ℕ). n + k) longest.last;
      truth = λ t. subst (λ (x : Run). x.truth) (sym calls) (raised.truth (longest.truth t));
      total = ap (λ (x : Run). x.machine_total) calls ∙ raised.total ∙ longest.total;
    }

-- ---- from a start and from a read

filed : (s : Start) → AcceptedStart s → (groups : List (List (List ℕ))) → AllReplayable groups → s.n + length (flatten (flatten groups)) ≤ max_bytes
    → (k : ℕ) → s.last + k < 2 ^ 64 → (out : List ℕ) → length out ≡ slip_bytes
    → Filed s groups k (worked_all (idle (started s).state) (journals_then_seals groups k out))
unfolding begun_from begun blank
filed s a groups h short k left out room =
    let ts = journals_then_seals groups k out in
    let b = begun (started s).state (blank s) in
    let size = length-replicate s.n s.fill in
    let g = leaves b groups h (rw size short) k left out room in
    let demands = journal_demands.start s a ts in
    let same = demands.0 in
    let runs = demands.1 in
    let many : length (run b (as_calls b ts)).numbers ≡ k = omega (arith, runs.issues, g.last) in
    let numbers = runs.numbers ∙ ap (up_from (s.last + 1)) many in
    record {
      refusals = same.refusals ∙ g.refusals;
      sums = ap (λ (st : State). st.s) same.state ∙ read-sum s _ runs (g.truth tt) ∙ ap (sum (hash_key s.key)) g.bytes;
      lengths = ap (λ (st : State). st.n) same.state
          ∙ runs.lengths
          ∙ ap length g.bytes
          ∙ length-append (replicate s.n s.fill) (flatten (flatten groups))
          ∙ ap (λ (n : ℕ). n + length (flatten (flatten groups))) size;
      total = same.total ∙ runs.total ∙ g.total ∙ ap (λ (n : ℕ). 0 + append_counts n (flatten groups)) size ∙ zero-add _;
      numbers = same.numbers ∙ numbers;
      on_slips = ap (map slip_number) same.slips ∙ map-map slip_number (λ (w : Written). w.slip) (written_in b (as_calls b ts)) ∙ demands.3.numbers ∙ numbers;
    }

pub journal_demands_met : JournalDemandsMet
unfolding from_read begun lent
journal_demands_met =
    record {
      start = filed;
      read = λ f a groups h short k left out room.
          let ts = journals_then_seals groups k out in
          let b = begun (read_file f).state (lent f) in
          let g = leaves b groups h short k (omega (arith, left)) out room in
          let demands = journal_demands.read f a ts in
          let r = run b (as_calls b ts) in
          let size : length r.machine.bytes ≤ max_bytes = rw (g.bytes, length-append f.file (flatten (flatten groups))) short in
          let accepted = seal-accepts r.machine out size room (omega (arith, left, g.last)) in
          subst (λ (st : State). SlipOf f.key f.arm (f.file ++ flatten (flatten groups)) (sealed st out).slip) (sym demands.0.state)
          (subst (λ (x : List ℕ). SlipOf f.key f.arm x (sealed r.state out).slip) g.bytes ((demands.1 (g.truth tt)).seals out accepted));
    }
