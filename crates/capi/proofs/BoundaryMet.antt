-- What the boundary's theorem says of appends, of a seal behind them and of lists in which journals stand.
-- It rests on that theorem (`Boundary`), and on what the demands say of the same lists: the file keeper's `met` and `journal_demands`.
use mathlib.Core.Path.{◌≡◌, refl, sym, ap, ap₂, subst, ◌∙◌}
use mathlib.Core.Bool.{true, false, not}
use mathlib.Core.Logic.{◌≢◌}
use mathlib.Core.List.{List, [], ◌∷◌, ◌++◌, map, flatten}
use Prim.Native.Nat.{ℕ, ◌+◌, ◌≤◌, ◌<◌, ◌^◌}
use native.Mathlib.Omega.{arith}
use lib.ListN.{length, replicate, length-append, length-replicate}
use borrow.Author.Tests.{lt-ltb, le-ltb}
use Rattle.refusals.proofs.Laws.{first_here, first_later}
use Rattle.cipher.specs.Aes.{key_fits}
use Rattle.field.specs.Field.{bytes_of, sum, max_bytes, Whole}
use Rattle.field.proofs.JoinsMet.{joins-met}
use Rattle.gcm.specs.Gcm.{hash_key}
use Rattle.file.specs.declared.states.State.{State}
use Rattle.file.specs.declared.geometry.Kind.TheVariants.{Append}
use Rattle.file.specs.Edits.{append, kind_of, place_of, given, replacing, kind_causes, kind_refusal, geometry_at, edit_refusal}
use Rattle.file.specs.States.{Start, Reading, begin_refusal, started, read_file, edited}
use Rattle.file.specs.Slips.{slip_bytes, slip_number, sealed}
use Rattle.file.specs.Calls.{Call, seal}
use Rattle.file.specs.Machine.{blank, lent as lentFile, machine_refusal}
use Rattle.file.specs.Runs.{Run, begun, run, begun_from, from_read}
use Rattle.file.specs.Demands.{AcceptedStart, SlipOf}
use Rattle.file.specs.Met.{appends, Sealable}
use Rattle.file.specs.Parts.{AllAgree, read_state}
use Rattle.file.proofs.ShapeLaws.{geometry-refusal}
use Rattle.file.proofs.Calls.{read-accepts}
use Rattle.file.proofs.Invariant.{holds_read}
use Rattle.file.proofs.EditAnswers.{edited-refusal}
use Rattle.file.proofs.Agreement.{Agrees, agrees_start, agrees-read}
use Rattle.file.proofs.Demand1.{demand_1}
use Rattle.file.proofs.Demand2.{sealing}
use Rattle.file.proofs.SlipAges.{seal-refusal}
use Rattle.file.proofs.KnownLists.{longer, seal-accepts}
use Rattle.file.proofs.HypothesesMet.{met}
use Rattle.file.proofs.Parts.{states_join-met}
use Rattle.journal.specs.Journals.{max_journal, replay_refusal}
use Rattle.journal.specs.Met.{append_journal}
use Rattle.journal.proofs.PlaceLaws.{passed}
use Rattle.journal.proofs.KnownJournals.{replay-met}
use Rattle.journal.proofs.Lists.{journal_demands}
use Rattle.capi.specs.Bytes.{state_from}
use Rattle.capi.specs.Calls.{start_call, read_call, seal_call, check_call}
use Rattle.capi.specs.Clauses.{join_result}
use Rattle.capi.specs.LentRuns.{lent_call, LentRun, lent_begun, lent_with, lent_further, lent_run, Boundary, states_joined}
use Rattle.capi.specs.Met.{GrownInBytes, SealedInBytes, BoundaryMet}
use Rattle.capi.proofs.Boundary.{boundary_theorem}

-- ---- what is refused

-- a key of the wrong length
key-refused : (key : List ℕ) (n : ℕ) → key_fits key ≡ false → begin_refusal key n ≡ 1
unfolding begin_refusal
key-refused key n k = sym (first_here _ _ _ (ap not k))

-- an append past the limit
append-refused : (st : State) (s : List ℕ) → st.n ≤ max_bytes → max_bytes < st.n + length s → (edited st (append s)).refusal ≡ 2
unfolding edit_refusal geometry_at kind_of place_of given replacing kind_refusal kind_causes
append-refused st s short past =
    edited-refusal st (append s)
    ∙ geometry-refusal Append 0 (length s) 0 st.n
    ∙ sym (first_later _ _ _ (le-ltb max_bytes st.n short) (first_here _ _ _ (lt-ltb _ _ past)))

-- a journal of too many bytes, whatever the state's length
journal_refused : (n k : ℕ) → max_journal < k → replay_refusal n (replicate k 0) ≢ 0
journal_refused n k long z = omega (arith, long, (passed n (replicate k 0) z).1, length-replicate {A = ℕ} k 0)

-- ---- lists of appends

-- two lists one after the other
lent-append : (l : LentRun) (cs ds : List Call) → lent_run l (cs ++ ds) ≡ lent_run (lent_run l cs) ds
unfolding lent_run
lent-append l [] ds = refl
lent-append l (c ∷ cs) ds = lent-append (lent_further l c) cs ds

grows : (s : Start) → AcceptedStart s → (lent : List ℕ) (count : ℕ) (parts : List (List ℕ)) → s.n + length (flatten parts) ≤ max_bytes
    → let x = start_call s lent count in
    GrownInBytes s parts x (lent_run (lent_begun x.state) (appends parts))
grows s a lent count parts short =
    let starts = boundary_theorem.starts s lent count in
    let b = boundary_theorem.start s a lent count (appends parts) in
    let g = met.appends_grow s a parts short in
    record {
      begins = (starts.refusal ∙ a.accepted, starts.counts a.accepted);
      refusals = b.refusals ∙ g.refusals;
      total = b.held.total ∙ g.total;
      sums = ap (λ (st : State). st.s) b.held.state ∙ g.sums;
      lengths = ap (λ (st : State). st.n) b.held.state ∙ g.lengths;
      past = λ more stood over.
          let x = b.held.edits (append more) stood in
          let two = append-refused (begun_from s (appends parts)).state more (rw g.lengths short) (rw g.lengths over) in
          let left = x.kept (λ z. omega (arith, two, z)) in
          λ i. record { refusal = (x.refusal ∙ two) i; state = left.0 i; count = left.1 i };
      replays = λ more fit room.
          let x = b.held.replays (append_journal more) in
          let whole = replay-met.whole (begun_from s (appends parts)) more fit (rw g.lengths room) in
          (x.refusal ∙ whole.refusal, x.offset ∙ whole.offset);
      forecasts = λ j.
          let f = boundary_theorem.forecasts (lent_run (lent_begun (start_call s lent count).state) (appends parts)).state j in
          let n = ap (λ (st : State). st.n) b.held.state ∙ g.lengths in
          (rw n at f.refusal, rw n at f.offset, rw n at f.count, rw n at (b.held.longest j));
    }

-- b is the run before the first call, and l are the lent bytes there, of which the boundary's theorem speaks
module _ (key : List ℕ) (arm : ℕ) (small : arm < 2 ^ 32) (b : Run) (true-so-far : b.truth) (l : LentRun)
    (agrees : (calls : List Call) → Agrees key arm b.machine.last (run b calls))
    (bound : (calls : List Call) → Boundary (lent_run l calls) (run b calls) (run b calls).refusals)
    (parts : List (List ℕ)) (short : length b.machine.bytes + length (flatten parts) ≤ max_bytes) (left : b.machine.last + 1 < 2 ^ 64)
    (out : List ℕ) (room : length out ≡ slip_bytes) where
  seals : Sealable key arm (b.machine.bytes ++ flatten parts) out (run b (appends parts)) (run b (appends parts ++ (seal out ∷ [])))
      → SealedInBytes key arm b.machine.last (b.machine.bytes ++ flatten parts) (lent_run l (appends parts)).state out
  unfolding lent_run lent_further lent_with lent_call
  seals known =
      let r = run b (appends parts) in
      let lr = lent_run l (appends parts) in
      let g = longer b parts short in
      let size : length r.machine.bytes ≤ max_bytes = rw (g.bytes, length-append b.machine.bytes (flatten parts)) short in
      let accepted : machine_refusal r.machine (seal out) ≡ 0 = seal-accepts r.machine out size room (rw g.last left) in
      let next = (bound (appends parts)).held.seals out in
      let after = (bound (appends parts ++ (seal out ∷ []))).held.checks (sealed r.state out).slip in
      let bytes : (lent_run l (appends parts ++ (seal out ∷ []))).state ≡ (seal_call lr.state out).state =
      ap (λ (x : LentRun). x.state) (lent-append l (appends parts) (seal out ∷ [])) in
      record {
        refusal = next.refusal ∙ seal-refusal r (agrees (appends parts)) out ∙ accepted;
        slip_of = subst (SlipOf key arm (b.machine.bytes ++ flatten parts)) (sym next.slip) known.slip_of;
        number = ap slip_number next.slip
            ∙ (sealing key arm b.machine.last r small (agrees (appends parts)) (g.truth true-so-far)).numbers out accepted
            ∙ ap (λ (n : ℕ). n + 1) g.last;
        found = λ verdict. ap₂ (λ (x y : List ℕ). check_call x y verdict) (sym bytes) next.slip ∙ (after verdict).current.1 known.found;
      }

-- ---- files that are each read, joined

module _ (key : List ℕ) (arm last : ℕ) (k : key_fits key ≡ true) (a : arm < 2 ^ 32) (l : last < 2 ^ 64) (state : List ℕ) where
  abbrev reading : List ℕ → Reading
  reading file = record { key = key; arm = arm; last = last; file = file }

  abbrev reads : List ℕ → List ℕ
  reads file = (read_call (reading file) state).state

  -- the lent bytes hold the state that a read makes
  read_back : (file : List ℕ) → length file ≤ max_bytes → state_from (reads file) ≡ read_state key arm last file
  read_back file short = (boundary_theorem.reads (reading file) state).state (met.read (reading file) k short a l)

  all_back : (files : List (List ℕ)) → length (flatten files) ≤ max_bytes → map state_from (map reads files) ≡ map (read_state key arm last) files
  unfolding flatten
  all_back [] short = refl
  all_back (file ∷ files) short =
      let both = length-append file (flatten files) in
      ap₂ (λ (x : State) (xs : List State). x ∷ xs) (read_back file (omega (arith, short, both))) (all_back files (omega (arith, short, both)))

  reads_join : (files : List (List ℕ)) → Whole files → length (flatten files) ≤ max_bytes → (lent : List ℕ) (n : ℕ)
      → states_joined (reads []) (map reads files) lent n ≡ join_result 0 (bytes_of (sum (hash_key key) (flatten files))) (length (flatten files))
  reads_join files w short lent n =
      boundary_theorem.parts key (map reads files) files
      (subst (λ (states : List State). AllAgree key states files) (sym (all_back files short)) (states_join-met.read key arm last files k short))
      w short (reads []) (ap (λ (st : State). st.h) (read_back [] (omega arith)) ∙ (holds_read (reading []) (read-accepts (reading []) k (omega arith)) l).same_h) lent n

pub boundary_met : BoundaryMet
unfolding begun_from from_read begun blank lentFile
boundary_met =
    record {
      start_grows = grows;
      start_seals = λ s a lent count parts short left out room.
          seals s.key s.arm a.arm (begun (started s).state (blank s)) tt (lent_begun (start_call s lent count).state) (agrees_start s a)
          (boundary_theorem.start s a lent count) parts (rw (length-replicate s.n s.fill) short) left out room
          (met.start_sealable s a parts short left out room);
      read_seals = λ r a lent parts short left out room.
          seals r.key r.arm a.arm (begun (read_file r).state (lentFile r)) tt (lent_begun (read_call r lent).state) (agrees-read r a)
          (boundary_theorem.read r a lent) parts short left out room (met.read_sealable r a parts short left out room);
      start_refused = λ s k lent count.
          let x = boundary_theorem.starts s lent count in
          let one = demand_1.start_causes s ∙ key-refused s.key s.n k in
          let left = x.kept (λ z. omega (arith, one, z)) in
          λ i. record { refusal = (x.refusal ∙ one) i; state = left.0 i; count = left.1 i };
      read_refused = λ r k lent.
          let x = boundary_theorem.reads r lent in
          let one = demand_1.read_causes r ∙ key-refused r.key (length r.file) k in
          λ i. record { refusal = (x.refusal ∙ one) i; state = x.kept (λ z. omega (arith, one, z)) i };
      journal_refused = λ lent l small k long. boundary_theorem.whole lent (replicate k 0) l small (journal_refused (state_from lent).n k long);
      start_works = λ s a lent count ts.
          let b = boundary_theorem.start_tasks s a lent count ts in
          let same = (journal_demands.start s a ts).0 in
          record {
            state = b.held.state ∙ sym same.state;
            total = b.held.total ∙ sym same.total;
            refusals = b.refusals ∙ sym same.refusals;
          };
      read_works = λ r a lent ts.
          let b = boundary_theorem.read_tasks r a lent ts in
          let same = (journal_demands.read r a ts).0 in
          record {
            state = b.held.state ∙ sym same.state;
            total = b.held.total ∙ sym same.total;
            refusals = b.refusals ∙ sym same.refusals;
          };
      reads_join = λ key arm last files k a l w short state lent n. reads_join key arm last k a l state files w short lent n;
      join_refused = λ h s₂ s₃ l₂ l₃ n ok some z e lent m.
          let x = boundary_theorem.joins h (s₂ ++ s₃) (l₂ ++ (n ∷ l₃)) lent m in
          let five = joins-met.broken h s₂ s₃ l₂ l₃ n ok some z e in
          x.kept (λ y. omega (arith, five, y)) ∙ ap (λ (k : ℕ). join_result k lent m) five;
    }
