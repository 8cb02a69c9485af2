-- Replay is the same edits called singly: an induction over the records, by what stands at each place.
-- It rests on what an opening tells (`OpeningLaws`) and on what an edit answers by itself (the file keeper's `EditAnswers`, `Demand1`).
use mathlib.Core.Path.{◌≡◌, refl, sym, ap, subst, ◌∙◌}
use mathlib.Core.Bool.{Bool, true, false, cond}
use mathlib.Core.List.{List, [], ◌∷◌, ◌++◌, map, append-nil, append_assoc}
use Prim.Native.Nat.{ℕ, zero, suc, ◌+◌, ◌≤◌, ◌<◌}
use native.Mathlib.Nat.{add-zero}
use native.Mathlib.Omega.{arith}
use lib.Dec.{eqb}
use lib.ListN.{length, replicate}
use borrow.Author.Tests.{eq-eqb, ne_eqb, eqb-true, eqb-false}
use Rattle.field.specs.Field.{max_bytes}
use Rattle.file.specs.declared.states.State.{State}
use Rattle.file.specs.Edits.{Edit, geometry_at, edit_refusal}
use Rattle.file.specs.States.{edited}
use Rattle.file.specs.Calls.{edit, call_answer}
use Rattle.file.specs.Runs.{Run, further, run}
use Rattle.file.proofs.Demand1.{edited_kept}
use Rattle.file.proofs.EditAnswers.{edited-refusal, edited-length}
use Rattle.journal.specs.Records.{head_bytes, record_bytes, Opening, opens, refused, ended, opening}
use Rattle.journal.specs.Journals.{Journal, journal_with, journal_from, opened_journal, max_journal, replay_refusal, ReplayAnswer, stopped_at, applied_edits, applied, replayed}
use Rattle.journal.specs.Singly.{made_from, made, stop_from, stop_of, Opens, answer_at, ReplayTheorem}
use Rattle.journal.proofs.OpeningLaws.{Tells, tells, record_some, applied-opens, applied-refused, applied-ended, replayed_whole, replayed-records}
use Rattle.journal.proofs.PlaceLaws.{whole_file, whole_journal, passes}

-- ---- the edits made from a place on, by what stands there

module _ (most : ℕ) (j : List ℕ) (at n : ℕ) where
  pub made-opens : {e : Edit} {next : ℕ} → opening j at ≡ opens e next
      → made_from n (journal_from (suc most) j at).edits
      ≡ cond (eqb (edit_refusal n e) 0) (e ∷ made_from (geometry_at n e).n (journal_from most j next).edits) []
  unfolding made_from journal_from journal_with
  made-opens q = rw q

  made-refused : {m : ℕ} → opening j at ≡ refused m → made_from n (journal_from (suc most) j at).edits ≡ []
  unfolding made_from journal_from journal_with
  made-refused q = rw q

  pub made-ended : opening j at ≡ ended → made_from n (journal_from (suc most) j at).edits ≡ []
  unfolding made_from journal_from journal_with
  made-ended q = rw q

-- ---- from a place on

-- what replay from a place on, with a count, has in common with the edits es called singly: `Singly` but for what follows from it
record Walked (r : Run) (j : List ℕ) (at count : ℕ) (es : List Edit) (a : ReplayAnswer) : Type 0 where
  pub accepted : (run r (map edit es)).refusals ≡ r.refusals ++ replicate (length es) 0
  pub state : a.state ≡ (run r (map edit es)).state
  pub total : r.total + a.count ≡ (run r (map edit es)).total + count
  pub records : Opens j at es a.offset
  pub answer : a.refusal ≡ answer_at a.state (opening j a.offset)
  pub done : a.refusal ≡ 0 → a.offset ≡ length j

-- where nothing more is applied
walked_stop : (r : Run) (j : List ℕ) (at count refusal : ℕ) → refusal ≡ answer_at r.state (opening j at) → (refusal ≡ 0 → at ≡ length j)
    → Walked r j at count [] (stopped_at r.state count refusal at)
unfolding run Opens
walked_stop r j at count refusal e d =
    record {
      accepted = sym (append-nil r.refusals);
      state = refl;
      total = refl;
      records = refl;
      answer = e;
      done = d;
    }

-- one accepted edit before the others
walked_next : (r : Run) (j : List ℕ) (at next count : ℕ) (e : Edit) (es : List Edit) (a : ReplayAnswer) → (edited r.state e).refusal ≡ 0
    → opening j at ≡ opens e next → next ≡ at + record_bytes e → Walked (further r (edit e)) j next (count + (edited r.state e).count) es a
    → Walked r j at count (e ∷ es) a
unfolding run further call_answer Opens
walked_next r j at next count e es a z q n w =
    record {
      accepted =
          w.accepted
          ∙ ap (λ (x : ℕ). r.refusals ++ (x ∷ []) ++ replicate (length es) 0) z
          ∙ append_assoc r.refusals (0 ∷ []) (replicate (length es) 0);
      state = w.state;
      total = omega (arith, w.total);
      records = (q ∙ ap (opens e) n, subst (λ (x : ℕ). Opens j x es a.offset) n w.records);
      answer = w.answer;
      done = w.done;
    }

-- a journal from a place on, of which `most` and one record more are enough
abbrev Walk : (most : ℕ) (j : List ℕ) (r : Run) (at count : ℕ) → Type 0
Walk most j r at count =
    Walked r j at count (made_from r.state.n (journal_from (suc most) j at).edits) (applied r.state count (journal_from (suc most) j at))

-- what the rest gives, for the record that stands at a place
abbrev Rest : (most : ℕ) (j : List ℕ) (at : ℕ) → Type 1
Rest most j at =
    (r : Run) (next count : ℕ) → at + head_bytes ≤ next → next ≤ length j
    → Walked r j next count (made_from r.state.n (journal_from most j next).edits) (applied r.state count (journal_from most j next))

module _ (most : ℕ) (j : List ℕ) (r : Run) (at count : ℕ) (within : at ≤ length j) (rest : Rest most j at) where
  walk-ended : opening j at ≡ ended → Walk most j r at count
  unfolding answer_at
  walk-ended q =
      let end : length j ≤ at = subst (Tells j at) q (tells j at) in
      rw (made-ended most j at r.state.n q, applied-ended most j at r.state count q)
      (walked_stop r j at count 0 (sym (ap (answer_at r.state) q)) (λ z. omega arith))

  walk_refused : (n : ℕ) → opening j at ≡ refused n → Walk most j r at count
  unfolding answer_at
  walk_refused n q =
      let some : 0 < n = subst (Tells j at) q (tells j at) in
      rw (made-refused most j at r.state.n q, applied-refused most j at r.state count q)
      (walked_stop r j at count n (sym (ap (answer_at r.state) q)) (λ z. absurd (omega arith)))

  module _ (e : Edit) (next : ℕ) (q : opening j at ≡ opens e next) where
    behind : (next ≡ at + record_bytes e) × (next ≤ length j)
    behind = subst (Tells j at) q (tells j at)

    walk-stopped : ((edited r.state e).refusal ≡ 0 → ⊥) → Walk most j r at count
    unfolding answer_at
    walk-stopped z =
        let y : edit_refusal r.state.n e ≡ 0 → ⊥ = λ x. z (edited-refusal r.state e ∙ x) in
        rw (made-opens most j at r.state.n q, applied-opens most j at r.state count q, ne_eqb _ 0 z, ne_eqb _ 0 y)
        (walked_stop r j at count (edited r.state e).refusal (sym (ap (answer_at r.state) q)) (λ x. absurd (z x)))

    walk_next : (edited r.state e).refusal ≡ 0 → Walk most j r at count
    unfolding further call_answer
    walk_next z =
        let y : edit_refusal r.state.n e ≡ 0 = sym (edited-refusal r.state e) ∙ z in
        rw (made-opens most j at r.state.n q, applied-opens most j at r.state count q, eq-eqb _ 0 z, eq-eqb _ 0 y)
        (walked_next r j at next count e _ _ z q behind.0
        (rw (edited-length r.state e) at (rest (further r (edit e)) next (count + (edited r.state e).count) (omega (arith, behind, record_some e)) behind.1)))

  walk_record : (e : Edit) (next : ℕ) → opening j at ≡ opens e next → (t : Bool) → eqb (edited r.state e).refusal 0 ≡ t
      → Walk most j r at count
  walk_record e next q true z = walk_next e next q (eqb-true _ _ z)
  walk_record e next q false z = walk-stopped e next q (eqb-false _ _ z)

  walk_by : (o : Opening) → opening j at ≡ o → Walk most j r at count
  walk_by (opens e next) q = walk_record e next q (eqb (edited r.state e).refusal 0) refl
  walk_by (refused n) q = walk_refused n q
  walk_by ended q = walk-ended q

-- each record takes at least its head's bytes, so that as many records as bytes are left are enough
walk : (most : ℕ) (j : List ℕ) (r : Run) (at count : ℕ) → at ≤ length j → length j ≤ at + most → Walk most j r at count
walk zero j r at count l f = walk_by zero j r at count l (λ r' next count' a b. absurd (omega arith)) (opening j at) refl
walk (suc most) j r at count l f =
    walk_by (suc most) j r at count l (λ r' next count' a b. walk most j r' next count' b (omega arith)) (opening j at) refl

-- ---- replay

-- what is refused as a whole
whole : (st : State) (j : List ℕ) (n : ℕ) → n ≡ replay_refusal st.n j → 0 < n → replayed st j ≡ stopped_at st 0 n 0
whole st j n e p = replayed_whole st j (λ z. omega (arith, e)) ∙ ap (λ (m : ℕ). stopped_at st 0 m 0) (sym e)

-- what isn't
module _ (r : Run) (j : List ℕ) (short : r.state.n ≤ max_bytes) (few : length j ≤ max_journal) where
  passed : replay_refusal r.state.n j ≡ 0
  passed = passes r.state.n j short few

  single : Walked r j 0 0 (made r.state.n j) (replayed r.state j)
  unfolding made opened_journal
  single = rw (eq-eqb _ 0 passed, replayed-records r.state j passed) (walk (length j) j r 0 0 (omega arith) (omega arith))

  -- a record at the offset is refused, since the journal's end is not there
  single_kept : (e : Edit) (next : ℕ) → opening j (replayed r.state j).offset ≡ opens e next
      → (edited (replayed r.state j).state e).state ≡ (replayed r.state j).state
  unfolding answer_at
  single_kept e next q =
      let a = replayed r.state j in
      let behind : (next ≡ a.offset + record_bytes e) × (next ≤ length j) = subst (Tells j a.offset) q (tells j a.offset) in
      let same : a.refusal ≡ (edited a.state e).refusal = single.answer ∙ ap (answer_at a.state) q in
      (edited_kept a.state e (λ z. omega (arith, behind, record_some e, single.done (same ∙ z)))).0

-- ---- where it stops

-- told by lengths alone
abbrev Stops : (st : State) (count : ℕ) (rs : List (ℕ × Edit)) (refusal offset : ℕ) → Type 0
Stops st count rs refusal offset =
    let a = applied_edits st count rs refusal offset in
    ◌≡◌ {A = ℕ × ℕ} (a.refusal, a.offset) (stop_from st.n rs refusal offset)

-- since an edit's refusal and the length after it are told by the length before it
module _ (st : State) (count : ℕ) (r : ℕ × Edit) (rs : List (ℕ × Edit)) (refusal offset : ℕ) where
  stops_by : (t : Bool) → eqb (edited st r.1).refusal 0 ≡ t
      → Stops (edited st r.1).state (count + (edited st r.1).count) rs refusal offset → Stops st count (r ∷ rs) refusal offset
  unfolding applied_edits stop_from
  stops_by true z ih =
      let y : edit_refusal st.n r.1 ≡ 0 = sym (edited-refusal st r.1) ∙ eqb-true _ _ z in
      rw (z, eq-eqb _ 0 y) (rw (edited-length st r.1) at ih)
  stops_by false z ih =
      let y : edit_refusal st.n r.1 ≡ 0 → ⊥ = λ x. eqb-false _ _ z (edited-refusal st r.1 ∙ x) in
      rw (z, ne_eqb _ 0 y) (λ i. (edited-refusal st r.1 i, r.0))

stops-from : (st : State) (count : ℕ) (rs : List (ℕ × Edit)) (refusal offset : ℕ) → Stops st count rs refusal offset
stops-from st count [] refusal offset = unfold applied_edits stop_from in refl
stops-from st count (r ∷ rs) refusal offset =
    stops_by st count r rs refusal offset (eqb (edited st r.1).refusal 0) refl (stops-from (edited st r.1).state _ rs refusal offset)

stops_whole : (st : State) (j : List ℕ) → ((replayed st j).refusal, (replayed st j).offset) ≡ stop_of st.n j
unfolding replayed stop_of applied
stops_whole st j = flag (eqb (replay_refusal st.n j) 0) (opened_journal j)
  where
    flag : (t : Bool) (o : Journal)
        → let a = cond t (applied_edits st 0 o.edits o.refusal o.offset) (stopped_at st 0 (replay_refusal st.n j) 0) in
        ◌≡◌ {A = ℕ × ℕ} (a.refusal, a.offset) (cond t (stop_from st.n o.edits o.refusal o.offset) (replay_refusal st.n j, 0))
    flag true o = stops-from st 0 o.edits o.refusal o.offset
    flag false o = refl

pub replay_theorem : ReplayTheorem
replay_theorem =
    record {
      long_state = λ st j l. whole st j 2 (whole_file st.n j l) (omega arith);
      long_journal = λ st j l m. whole st j 10 (whole_journal st.n j l m) (omega arith);
      singly = λ r j l m.
          let w = single r j l m in
          record {
            accepted = w.accepted;
            state = w.state;
            total = w.total ∙ add-zero _;
            records = w.records;
            answer = w.answer;
            done = w.done;
            kept = single_kept r j l m;
          };
      stops = stops_whole;
    }
