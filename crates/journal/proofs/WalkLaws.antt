-- A walk over a journal's records, whatever takes their edits, a law for each return. The loop's invariant (`Standing`) says what remains: the records
-- from here on give what the whole journal gives; and it bounds the total by the place, so that it has room in a word.
-- They rest on the laws of a loop over the records (`PlaceLaws`).
use mathlib.Core.Path.{◌≡◌, sym, ap, ◌∙◌}
use mathlib.Core.List.{List}
use Prim.Native.Nat.{ℕ, suc, ◌+◌, ◌*◌, ◌^◌, ◌≤◌, ◌<◌}
use native.Mathlib.Omega.{arith}
use lib.Dec.{eqb}
use lib.ListN.{length}
use borrow.Author.Tests.{eq-eqb, ne_eqb}
use Rattle.std.specs.Prelude.{cond, Ok, Err}
use Rattle.file.specs.declared.causes.Cause as keeper'
use Rattle.file.specs.Edits.{Edit, given}
use Rattle.file.proofs.ShapeLaws as shape
use Rattle.file.specs.Clauses as law
use Rattle.journal.specs.declared.causes.Cause.{Cause}
use Rattle.journal.specs.declared.records.Edit as code
use Rattle.journal.specs.declared.records.Opened.{Opened}
use Rattle.journal.specs.declared.records.Opened.TheVariants as opened
use Rattle.journal.specs.Records.{record_bytes, opens, refused, ended, opening}
use Rattle.journal.specs.Journals.{max_journal, opened_journal, journal_with, journal_from, replay_refusal}
use Rattle.journal.specs.Walks.{Taken, WalkAnswer, walk_stopped, walked_edits, walked_on, walked}
use Rattle.journal.specs.Clauses.{cause_number, edit_of, OpenedAt, taken_answer}
use Rattle.journal.proofs.PlaceLaws.{AtPlace, first_place, end_here, refused_here, record_here, record_within, next_place, next_most}
use Rattle.journal.proofs.RecordLaws.{cause_pos}

module _ {A : Type 0} (taken : A → Edit → Taken A) where
  -- ---- from a place on, by what stands there

  module _ (most : ℕ) (j : List ℕ) (at : ℕ) (a : A) (total : ℕ) where
    pub walked-opens : {e : Edit} {next : ℕ} → opening j at ≡ opens e next
        → let t = taken a e in
        walked_on taken a total (journal_from (suc most) j at)
        ≡ cond (eqb t.refusal 0) (walked_on taken t.after (total + t.added) (journal_from most j next)) (walk_stopped t.after total t.refusal at)
    unfolding walked_on walked_edits journal_from journal_with
    walked-opens q = rw q

    pub walked-refused : {n : ℕ} → opening j at ≡ refused n → walked_on taken a total (journal_from (suc most) j at) ≡ walk_stopped a total n at
    unfolding walked_on walked_edits journal_from journal_with
    walked-refused q = rw q

    pub walked-ended : opening j at ≡ ended → walked_on taken a total (journal_from (suc most) j at) ≡ walk_stopped a total 0 at
    unfolding walked_on walked_edits journal_from journal_with
    walked-ended q = rw q

  -- ---- by the refusal of the whole

  module _ (n : ℕ) (a : A) (j : List ℕ) where
    walked_whole : (replay_refusal n j ≡ 0 → ⊥) → walked taken n a j ≡ walk_stopped a 0 (replay_refusal n j) 0
    unfolding walked
    walked_whole z = simp (ne_eqb (replay_refusal n j) 0 z)

    -- of code's refusal
    pub refused_whole : (c : Cause) → cause_number c ≡ replay_refusal n j → walk_stopped a 0 (cause_number c) 0 ≡ walked taken n a j
    refused_whole c e = ap (λ (m : ℕ). walk_stopped a 0 m 0) e ∙ sym (walked_whole (λ z. omega (arith, e, cause_pos c)))

    pub walked-records : replay_refusal n j ≡ 0 → walked taken n a j ≡ walked_on taken a 0 (opened_journal j)
    unfolding walked
    walked-records z = simp (eq-eqb (replay_refusal n j) 0 z)

  -- ---- the loop over the records

  -- the records from a place on give what the whole journal gives
  pub record Standing (j : List ℕ) (n₀ : ℕ) (a₀ a : A) (at total : ℕ) : Type 0 where
    pub place : AtPlace j at
    pub rest : walked_on taken a total (journal_from (suc place.most) j at) ≡ walked taken n₀ a₀ j
    pub few : total ≤ 11 * at

  pub standing_start : (j : List ℕ) (n : ℕ) (a : A) → replay_refusal n j ≡ 0 → Standing j n a a 0 0
  unfolding opened_journal
  standing_start j n a z = record { place = first_place j; rest = sym (walked-records n a j z); few = omega arith }

  -- o was opened there
  module _ {j : List ℕ} {n₀ : ℕ} {a₀ a : A} {at total : ℕ} (s : Standing j n₀ a₀ a at total) {o : Opened} (h : OpenedAt j at o) where
    pub standing_end : o ≡ opened.End → walk_stopped a total 0 at ≡ walked taken n₀ a₀ j
    standing_end q = sym (walked-ended s.place.most j at a total (end_here s.place h q)) ∙ s.rest

    pub standing_refused : {c : Cause} → o ≡ opened.Refused c → walk_stopped a total (cause_number c) at ≡ walked taken n₀ a₀ j
    standing_refused q = sym (walked-refused s.place.most j at a total (refused_here s.place h q)) ∙ s.rest

    module _ {e : code.Edit} {next : ℕ} (q : o ≡ opened.Record e next) where
      here : opening j at ≡ opens (edit_of j e) next
      here = record_here s.place h q

      -- b is what taking the edit left, c its refusal
      pub standing_stopped : (b : A) (c : keeper'.Cause) → taken_answer b (Err c) ≡ taken a (edit_of j e)
          → walk_stopped b total (law.cause_number c) at ≡ walked taken n₀ a₀ j
      standing_stopped b c x =
          let t = taken a (edit_of j e) in
          let m : law.cause_number c ≡ t.refusal = ap (λ (y : Taken A). y.refusal) x in
          ap (λ (y : Taken A). walk_stopped y.after total y.refusal at) x
          ∙ sym (walked-opens s.place.most j at a total here ∙ simp (ne_eqb t.refusal 0 (λ z. omega (arith, m, shape.cause_pos c))))
          ∙ s.rest

      -- m is what it added
      module _ (b : A) (m : ℕ) (x : taken_answer b (Ok m) ≡ taken a (edit_of j e))
          (few : (taken a (edit_of j e)).added ≤ length (given (edit_of j e)) + 128) where
        -- an edit adds at most 128 more than the bytes that it gives, its record has 12 bytes besides, and 128 is below 11 times 12
        total_few : total + m ≤ 11 * next
        unfolding record_bytes
        total_few = omega (arith, ap (λ (y : Taken A). y.added) x, few, (record_within s.place h q).0, s.few)

        -- so the total has room in a word
        pub total_fits : length j ≤ max_journal → total + m < 2 ^ 64
        total_fits l = omega (arith, total_few, (record_within s.place h q).1)

        pub standing_next : Standing j n₀ a₀ b next (total + m)
        standing_next =
            let left = journal_from s.place.most j next in
            let rest : Taken A → WalkAnswer A =
            λ y. cond (eqb y.refusal 0) (walked_on taken y.after (total + y.added) left) (walk_stopped y.after total y.refusal at)
            in
            record {
              place = next_place s.place h q;
              rest = rw (next_most s.place h q) (ap rest x ∙ sym (walked-opens s.place.most j at a total here) ∙ s.rest);
              few = total_few;
            }
