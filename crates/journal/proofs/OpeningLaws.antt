-- What an opening tells of the place (`tells`), a journal applied from a place on, by what stands there, and replay by the refusal of the whole.
-- They rest on the definitions of specs/Records and Journals.
use mathlib.Core.Path.{◌≡◌, refl}
use mathlib.Core.Bool.{Bool, true, false, cond}
use mathlib.Core.List.{List}
use Prim.Native.Nat.{ℕ, suc, ◌+◌, ◌-◌, ◌≤◌, ◌<◌}
use native.Mathlib.Omega.{arith}
use lib.Dec.{eqb, ltb}
use lib.ListN.{length, take, drop, length-drop}
use lib.Seq.{length-take-le}
use borrow.Author.Tests.{eq-eqb, ne_eqb, eqb-true, eqb-false, ltb-true, ltb-false}
use Rattle.refusals.proofs.Laws.{first_passed}
use Rattle.file.specs.declared.states.State.{State}
use Rattle.file.specs.Edits.{Edit, given, replacing}
use Rattle.file.specs.States.{edited}
use Rattle.journal.specs.Records.{head_bytes, record_kind, record_place, record_length, body_bytes, edit_named, record_edit, record_bytes, place_after}
use Rattle.journal.specs.Records.{record_refusal, Opening, opens, refused, ended, opening_with, opening}
use Rattle.journal.specs.Journals.{journal_with, journal_from, opened_journal, replay_refusal, stopped_at, applied_edits, applied, replayed}
use Rattle.journal.proofs.RecordLaws.{head_enough, by_kinds, body-kinds}

-- ---- the bytes of a record that opens

-- l bytes of a list from a place on
pub length_part : (j : List ℕ) (at l : ℕ) → at + l ≤ length j → length (take l (drop at j)) ≡ l
length_part j at l h = length-take-le l (drop at j) (rw length-drop (omega arith))

-- an edit has the bytes that stand behind its head
body-size : (j : List ℕ) (kind p l at : ℕ) → at + body_bytes kind l ≤ length j
    → let e = edit_named kind p (take l (drop at j)) (take l (drop (at + l) j)) in
    length (given e) + length (replacing e) ≡ body_bytes kind l
unfolding edit_named given replacing
body-size j kind p l at h =
    let alone : at + l ≤ length j → length (take l (drop at j)) + 0 ≡ l = λ r. omega (arith, length_part j at l r) in
    rw (body-kinds kind l)
    (by_kinds (λ (e : Edit) (y : ℕ). at + y ≤ length j → length (given e) + length (replacing e) ≡ y) kind
    (λ r. omega (arith, length_part j at l (omega arith), length_part j (at + l) l (omega arith))) alone alone alone alone
    (rw (body-kinds kind l) at h))

-- the next place is behind the record's bytes
next_behind : (j : List ℕ) (at : ℕ) → place_after j at ≤ length j → place_after j at ≡ at + record_bytes (record_edit j at)
unfolding place_after record_edit record_bytes
next_behind j at h = omega (arith, body-size j (record_kind j at) (record_place j at) (record_length j at) (at + head_bytes) h)

-- ---- what an opening tells

-- of the place, by what stands there
abbrev pub Tells : (j : List ℕ) (at : ℕ) → Opening → Type 0
Tells j at (opens e next) = (next ≡ at + record_bytes e) × (next ≤ length j)
Tells j at (refused n) = 0 < n
Tells j at ended = length j ≤ at

record_fits : (j : List ℕ) (at : ℕ) → at < length j → record_refusal j at ≡ 0 → place_after j at ≤ length j
unfolding record_refusal place_after
record_fits j at m e =
    let a = first_passed _ _ _ e (omega arith) in
    let enough = head_enough (record_kind j at) (record_place j at) (record_length j at) _ a.1 in
    omega (arith, ltb-false (length j - at) head_bytes a.0, enough)

pub tells : (j : List ℕ) (at : ℕ) → Tells j at (opening j at)
unfolding opening opening_with
tells j at = flag (ltb at (length j)) refl
  where
    by_refusal : (t : Bool) → at < length j → eqb (record_refusal j at) 0 ≡ t
        → Tells j at (cond t (opens (record_edit j at) (place_after j at)) (refused (record_refusal j at)))
    by_refusal true m e =
        let l = record_fits j at m (eqb-true _ _ e) in
        (next_behind j at l, l)
    by_refusal false m e = omega (arith, eqb-false (record_refusal j at) 0 e)

    flag : (t : Bool) → ltb at (length j) ≡ t
        → Tells j at (cond t (cond (eqb (record_refusal j at) 0) (opens (record_edit j at) (place_after j at)) (refused (record_refusal j at))) ended)
    flag true e = by_refusal (eqb (record_refusal j at) 0) (ltb-true _ _ e) refl
    flag false e = ltb-false _ _ e

-- every record has its head's bytes at least
pub record_some : (e : Edit) → head_bytes ≤ record_bytes e
unfolding record_bytes
record_some e = omega arith

-- ---- a journal applied from a place on

module _ (most : ℕ) (j : List ℕ) (at : ℕ) (st : State) (count : ℕ) where
  pub applied-opens : {e : Edit} {next : ℕ} → opening j at ≡ opens e next
      → let a = edited st e in
      applied st count (journal_from (suc most) j at)
      ≡ cond (eqb a.refusal 0) (applied a.state (count + a.count) (journal_from most j next)) (stopped_at st count a.refusal at)
  unfolding applied applied_edits journal_from journal_with
  applied-opens q = rw q

  pub applied-refused : {n : ℕ} → opening j at ≡ refused n → applied st count (journal_from (suc most) j at) ≡ stopped_at st count n at
  unfolding applied applied_edits journal_from journal_with
  applied-refused q = rw q

  pub applied-ended : opening j at ≡ ended → applied st count (journal_from (suc most) j at) ≡ stopped_at st count 0 at
  unfolding applied applied_edits journal_from journal_with
  applied-ended q = rw q

-- ---- replay, by the refusal of the whole

module _ (st : State) (j : List ℕ) where
  pub replayed_whole : (replay_refusal st.n j ≡ 0 → ⊥) → replayed st j ≡ stopped_at st 0 (replay_refusal st.n j) 0
  unfolding replayed
  replayed_whole z = simp (ne_eqb (replay_refusal st.n j) 0 z)

  pub replayed-records : replay_refusal st.n j ≡ 0 → replayed st j ≡ applied st 0 (opened_journal j)
  unfolding replayed
  replayed-records z = simp (eq-eqb (replay_refusal st.n j) 0 z)
