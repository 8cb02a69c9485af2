-- The demands' hypotheses are met: by every start and read within the limits, and by every edit that names the machine's own bytes; and what
-- the demands then say of lists of appends and of seals.
-- It rests on what start and read answer (`Calls`), on such lists as the plain machine runs them (`KnownLists`), on demands 2 and 3 and on the theorem
-- on a list's slips (`SlipAges`).
use mathlib.Core.Path.{◌≡◌, refl, sym, ap, subst, ◌∙◌}
use mathlib.Core.Logic.{◌↔◌}
use mathlib.Core.List.{List, [], ◌∷◌, ◌++◌, flatten}
use mathlib.Core.List.Memᴰ
use mathlib.Core.List.{Memᴰ}
use Prim.Native.Nat.{ℕ, ◌+◌, ◌-◌, ◌≤◌, ◌<◌, ◌^◌}
use native.Mathlib.Nat.{zero-add}
use native.Mathlib.Omega.{arith}
use lib.ListN.{length, take, drop, replicate, length-drop, length-append, length-replicate, take-append-drop}
use lib.Seq.{take-append_seam}
use Rattle.field.specs.Field.{sum, max_bytes}
use Rattle.gcm.specs.Gcm.{hash_key}
use Rattle.file.specs.declared.sealing.Verdict.TheVariants.{Current}
use Rattle.file.specs.declared.states.State.{State}
use Rattle.file.specs.States.{state_of, Start, started}
use Rattle.file.specs.Slips.{slip_bytes, slip_number, sealed, Finds, FindsGenuine, Condition}
use Rattle.file.specs.Calls.{Call, seal}
use Rattle.file.specs.Machine.{Machine, blank, lent, with_last, NamesHeld, TrueCall}
use Rattle.file.specs.Runs.{Run, begun, further, run, begun_from, from_read, Written, written_in}
use Rattle.file.specs.Demands.{AcceptedStart, Opens, SlipOf, Sealing, TwoRuns, up_from, Demand3}
use Rattle.file.specs.Met.{appends, append_counts, Grown, Sealable, Numbered, Met}
use Rattle.file.proofs.Calls.{begun-read, start_accepts, read-accepts}
use Rattle.file.proofs.KnownLists.{run-append, append_true, longer, seal-accepts, seal-machine, risen}
use Rattle.file.proofs.Agreement.{agrees_start}
use Rattle.file.proofs.Demand2.{demand_2}
use Rattle.file.proofs.Demand3.{demand_3}
use Rattle.file.proofs.SlipAges.{slip-ages}

-- ---- a list's own bytes

front_own : (l : ℕ) (f : List ℕ) → take (length (take l f)) f ≡ take l f
front_own l f = ap (take (length (take l f))) (sym (take-append-drop l f)) ∙ take-append_seam (take l f) (drop l f)

tail_own : (l : ℕ) (f : List ℕ) → drop (length f - length (drop (length f - l) f)) f ≡ drop (length f - l) f
tail_own l f =
    let same : length f - length (drop (length f - l) f) ≡ length f - l = rw (length-drop (length f - l) f) (omega arith) in
    ap (λ (n : ℕ). drop n f) same

-- ---- appends

-- under true bytes the sum is that of the machine's bytes, by demand 3's reader
pub read-sum : (s : Start) (r : Run) → TwoRuns s r → r.truth → r.state.s ≡ sum (hash_key s.key) r.machine.bytes
unfolding state_of
read-sum s r d t =
    let reader = d.reader t 0 0 in
    reader.sum ∙ ap (λ (st : State). st.s) (begun-read _ reader.accepted).state

grows : (s : Start) → AcceptedStart s → (parts : List (List ℕ)) → s.n + length (flatten parts) ≤ max_bytes
    → Grown s parts (begun_from s (appends parts))
unfolding Demand3 begun_from begun blank
grows s a parts l =
    let size = length-replicate s.n s.fill in
    let g = longer (begun (started s).state (blank s)) parts (rw size l) in
    let d = demand_3 s a (appends parts) in
    record {
      refusals = d.refusals ∙ g.refusals;
      sums = read-sum s (begun_from s (appends parts)) d (g.truth tt) ∙ ap (sum (hash_key s.key)) g.bytes;
      lengths = d.lengths
          ∙ ap length g.bytes
          ∙ length-append (replicate s.n s.fill) (flatten parts)
          ∙ ap (λ (n : ℕ). n + length (flatten parts)) size;
      lasts = d.lasts ∙ g.last;
      total = d.total ∙ g.total ∙ ap (λ (n : ℕ). 0 + append_counts n parts) size ∙ zero-add (append_counts s.n parts);
      within = d.within;
    }

-- ---- a seal after them

-- b is the run before the first call, of which demand 2 speaks
module _ (key : List ℕ) (arm : ℕ) (b : Run) (true-so-far : b.truth) (speaks : (calls : List Call) → (run b calls).truth → Sealing key arm (run b calls))
    (parts : List (List ℕ)) (short : length b.machine.bytes + length (flatten parts) ≤ max_bytes) (left : b.machine.last + 1 < 2 ^ 64)
    (out : List ℕ) (room : length out ≡ slip_bytes) where
  sealable : Sealable key arm (b.machine.bytes ++ flatten parts) out (run b (appends parts)) (run b (appends parts ++ (seal out ∷ [])))
  unfolding run further TrueCall with_last Condition
  sealable =
      let r = run b (appends parts) in
      let g = longer b parts short in
      let size : length r.machine.bytes ≤ max_bytes = rw (g.bytes, length-append b.machine.bytes (flatten parts)) short in
      let accepted = seal-accepts r.machine out size room (rw g.last left) in
      let raised = seal-machine r.machine out accepted in
      let both = run-append b (appends parts) (seal out ∷ []) in
      let e = run b (appends parts ++ (seal out ∷ [])) in
      let last : e.machine ≡ with_last r.machine (r.machine.last + 1) = ap (λ (x : Run). x.machine) both ∙ raised in
      let bytes : e.machine.bytes ≡ b.machine.bytes ++ flatten parts = ap (λ (m : Machine). m.bytes) last ∙ g.bytes in
      let before = speaks (appends parts) (g.truth true-so-far) in
      let after = speaks (appends parts ++ (seal out ∷ [])) (subst (λ (x : Run). x.truth) (sym both) (g.truth true-so-far, tt)) in
      let slip = (sealed r.state out).slip in
      let slip_of = subst (λ (f : List ℕ). SlipOf key arm f slip) g.bytes (before.seals out accepted) in
      record {
        slip_of = slip_of;
        found = (after.verdicts slip Current).1 (
          subst (λ (f : List ℕ). SlipOf key arm f slip) (sym bytes) slip_of,
          before.numbers out accepted ∙ ap (λ (m : Machine). m.last) (sym last),
        );
        checks = λ s. subst (λ (f : List ℕ). FindsGenuine e.state s ↔ SlipOf key arm f s) bytes (after.checks s);
        verdicts = λ s v.
            subst (λ (f : List ℕ). Finds e.state s v ↔ Condition (Opens s) (SlipOf key arm f s) e.machine.last (slip_number s) v) bytes
            (after.verdicts s v);
      }

-- ---- seals

module _ (s : Start) (a : AcceptedStart s) (k : ℕ) (left : s.last + k < 2 ^ 64) (out : List ℕ) (room : length out ≡ slip_bytes) where
  abbrev calls : List Call
  calls = replicate k (seal out)

  numbered : Numbered s k (written_in (begun_from s []) calls) (begun_from s calls)
  unfolding Demand3 begun_from run begun blank
  numbered =
      let g = risen (begun (started s).state (blank s)) out k (agrees_start s a []).holds.short room left in
      let d = demand_3 s a calls in
      let ages = slip-ages.start s a calls in
      let many : length (begun_from s calls).numbers ≡ k = omega (arith, d.issues, g.last) in
      let issued = d.numbers ∙ ap (up_from (s.last + 1)) many in
      let among : (before after : List Written) (w : Written) → written_in (begun_from s []) calls ≡ before ++ (w ∷ after)
      → (begun_from s calls).machine.bytes ≡ w.bytes = λ before after w e.
      g.bytes ∙ sym (g.slips w (subst (Memᴰ w) (sym e) (Memᴰ.append_right before (Memᴰ.head refl)))) in
      record {
        refusals = d.refusals ∙ g.refusals;
        total = d.total ∙ g.total;
        numbers = issued;
        distinct = λ i j p q. d.distinct i j p (rw many q);
        on_slips = ages.numbers ∙ issued;
        newest = λ before w e. ages.newest before w e (g.truth tt) (among before [] w e);
        older = λ before after w next e. ages.put_back before after w next e (g.truth tt) (among before (next ∷ after) w e);
        none_ahead = λ slip i l e. ages.issued slip i (rw many l) e;
      }

-- ---- the whole

pub met : Met
unfolding TrueCall NamesHeld begun_from from_read begun blank lent
met =
    record {
      start = λ s k n arm last. record { accepted = start_accepts s k n; arm = arm; last = last };
      read = λ r k n arm last. record { accepted = read-accepts r k n; arm = arm; last = last };
      change_true = λ m p l new a. front_own l (drop p m.bytes);
      append_true = append_true;
      prepend_true = λ m s a. tt;
      drop_true = λ m l a. front_own l m.bytes;
      cut_true = λ m l a. tail_own l m.bytes;
      seal_true = λ m out. tt;
      check_true = λ m slip. tt;
      appends_grow = grows;
      start_sealable = λ s a parts short left out room.
          sealable s.key s.arm _ tt (demand_2.start s a) parts (rw (length-replicate s.n s.fill) short) left out room;
      read_sealable = λ r a parts short left out room. sealable r.key r.arm _ tt (demand_2.read r a) parts short left out room;
      seals_numbered = numbered;
      start_outdated = λ s a calls before after w next e. ((slip-ages.start s a calls).earlier before after w next e).0;
      read_outdated = λ r a calls before after w next e. ((slip-ages.read r a calls).earlier before after w next e).0;
    }
