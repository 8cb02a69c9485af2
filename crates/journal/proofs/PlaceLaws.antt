-- A loop over a journal's records, whatever it does with them: where it stands (`AtPlace`), what was opened there, and the journal as a whole.
-- They rest on what an opening tells (`OpeningLaws`).
use mathlib.Core.Path.{◌≡◌, sym, ap, subst, ◌∙◌}
use mathlib.Core.List.{List}
use Prim.Native.Nat.{ℕ, suc, ◌+◌, ◌-◌, ◌≤◌, ◌<◌}
use native.Mathlib.Omega.{arith}
use lib.ListN.{length}
use borrow.Author.Tests.{lt-ltb, le-ltb, ltb-false}
use Rattle.refusals.proofs.Laws.{first_none, first_here, first_later, first_passed}
use Rattle.field.specs.Field.{max_bytes}
use Rattle.journal.specs.declared.causes.Cause.{Cause}
use Rattle.journal.specs.declared.records.Edit.{Edit}
use Rattle.journal.specs.declared.records.Opened.{Opened}
use Rattle.journal.specs.declared.records.Opened.TheVariants as opened
use Rattle.journal.specs.Records.{record_bytes, opens, refused, ended, opening}
use Rattle.journal.specs.Journals.{max_journal, replay_refusal}
use Rattle.journal.specs.Clauses.{cause_number, edit_of, opening_of, OpenedAt}
use Rattle.journal.proofs.OpeningLaws.{Tells, tells}

-- ---- a place

-- the loop stands in the journal, and `most` records and one more are enough for what remains
pub record AtPlace (j : List ℕ) (at : ℕ) : Type 0 where
  pub most : ℕ
  pub within : at ≤ length j
  pub enough : length j ≤ at + most

abbrev pub first_place : (j : List ℕ) → AtPlace j 0
first_place j = record { most = length j; within = omega arith; enough = omega arith }

-- o was opened there
module _ {j : List ℕ} {at : ℕ} (s : AtPlace j at) {o : Opened} (h : OpenedAt j at o) where
  pub end_here : o ≡ opened.End → opening j at ≡ ended
  end_here q = sym h.same ∙ ap (opening_of j) q

  pub refused_here : {c : Cause} → o ≡ opened.Refused c → opening j at ≡ refused (cause_number c)
  refused_here q = sym h.same ∙ ap (opening_of j) q

  module _ {e : Edit} {next : ℕ} (q : o ≡ opened.Record e next) where
    pub record_here : opening j at ≡ opens (edit_of j e) next
    record_here = sym h.same ∙ ap (opening_of j) q

    -- the place moves on, and stays in the journal
    pub record_within : (next ≡ at + record_bytes (edit_of j e)) × (next ≤ length j)
    record_within = subst (Tells j at) record_here (tells j at)

    pub record_less : length j - next < length j - at
    unfolding record_bytes
    record_less = omega (arith, record_within, s.within)

    pub next_place : AtPlace j next
    unfolding record_bytes
    next_place = record { most = s.most - 1; within = record_within.1; enough = omega (arith, record_within, s.enough) }

    pub next_most : suc next_place.most ≡ s.most
    unfolding record_bytes next_place
    next_most = omega (arith, record_within, s.enough)

-- ---- the journal as a whole

-- its refusal, by the two lengths
module _ (n : ℕ) (j : List ℕ) where
  pub whole_file : max_bytes < n → 2 ≡ replay_refusal n j
  unfolding replay_refusal
  whole_file l = first_here _ _ _ (lt-ltb _ _ l)

  pub whole_journal : n ≤ max_bytes → max_journal < length j → 10 ≡ replay_refusal n j
  unfolding replay_refusal
  whole_journal l m = first_later _ _ _ (le-ltb _ _ l) (first_here _ _ _ (lt-ltb _ _ m))

  pub passes : n ≤ max_bytes → length j ≤ max_journal → replay_refusal n j ≡ 0
  unfolding replay_refusal
  passes l m = sym (first_later _ _ _ (le-ltb _ _ l) (first_later _ _ _ (le-ltb _ _ m) first_none))

  pub passed : replay_refusal n j ≡ 0 → (n ≤ max_bytes) × (length j ≤ max_journal)
  unfolding replay_refusal
  passed z =
      let state = first_passed _ _ _ z (omega arith) in
      (ltb-false max_bytes n state.0, ltb-false max_journal (length j) (first_passed _ _ _ state.1 (omega arith)).0)
