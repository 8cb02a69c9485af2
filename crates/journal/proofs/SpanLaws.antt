-- A record opened: its edit, whose bytes are spans, and what stands at a place, a law for each return.
-- They rest on the laws of heads (`RecordLaws`).
use mathlib.Core.Path.{◌≡◌, refl, sym, ap, ap₂, subst, ◌∙◌}
use mathlib.Core.List.{List}
use Prim.Native.Nat.{ℕ, ◌+◌, ◌-◌, ◌≤◌, ◌<◌}
use native.Mathlib.Omega.{arith}
use lib.ListN.{length, take, drop}
use borrow.Author.Tests.{ne_eqb, lt-ltb, le-ltb}
use Rattle.std.specs.Prelude.{Some, Result, Ok, Err}
use Rattle.refusals.specs.Refusals.{first}
use Rattle.refusals.proofs.Laws.{first_here, first_later}
use Rattle.file.specs.declared.geometry.Kind.{Kind}
use Rattle.file.specs.declared.geometry.Kind.TheVariants as kind
use Rattle.file.specs.Edits as keeper
use Rattle.journal.specs.declared.causes.Cause.{Cause}
use Rattle.journal.specs.declared.causes.Cause.TheVariants.{JournalLength}
use Rattle.journal.specs.declared.records.Head.{Head}
use Rattle.journal.specs.declared.records.Edit.{Edit}
use Rattle.journal.specs.declared.records.Opened.TheVariants as opened
use Rattle.journal.specs.Records.{head_bytes, kind_number, record_kind, record_length, body_bytes, by_kind, edit_named, record_edit, place_after}
use Rattle.journal.specs.Records.{head_causes, record_refusal, opens, refused, opening_with, opening}
use Rattle.journal.specs.Clauses.{cause_number, answer_refusal, KindOf, HeadAt, body_of, spans_of, edit_of, InsideEdit, OpenedAt}
use Rattle.journal.proofs.RecordLaws.{cause_pos, body-named, head_enough}

-- code's edit of a kind is the edit of the record, with the bytes that stand there
spans-edit : (j : List ℕ) (k : Kind) (p l start : ℕ)
    → edit_of j (spans_of k p l start) ≡ edit_named (kind_number k) p (take l (drop start j)) (take l (drop (start + l) j))
unfolding edit_named by_kind kind_number
spans-edit j kind.Change p l start = refl
spans-edit j kind.Append p l start = refl
spans-edit j kind.Prepend p l start = refl
spans-edit j kind.DropFront p l start = refl
spans-edit j kind.CutTail p l start = refl

-- its bytes lie in a journal of n bytes where the record does
spans-inside : (n : ℕ) (k : Kind) (p l start : ℕ) → start + body_of (Some k) l ≤ n → InsideEdit n (spans_of k p l start)
spans-inside n kind.Change p l start h = (omega arith, omega arith)
spans-inside n kind.Append p l start h = h
spans-inside n kind.Prepend p l start h = h
spans-inside n kind.DropFront p l start h = h
spans-inside n kind.CutTail p l start h = h

-- ---- what stands at a place

module _ (j : List ℕ) (at : ℕ) where
  pub at-end : length j ≤ at → OpenedAt j at opened.End
  unfolding opening
  at-end h = record { same = rw (le-ltb at (length j) h); inside = tt }

  module _ (more : at < length j) where
    -- a record that is refused
    with-refusal : (r : ℕ) → r ≡ record_refusal j at → (r ≡ 0 → ⊥) → refused r ≡ opening j at
    unfolding opening opening_with
    with-refusal r e z = rw (lt-ltb at (length j) more, ← e) (simp (ne_eqb _ _ z))

    pub at_short : length j - at < head_bytes → OpenedAt j at (opened.Refused JournalLength)
    unfolding record_refusal
    at_short h =
        record {
          same = with-refusal 10 (first_here _ _ _ (lt-ltb (length j - at) head_bytes h)) (λ z. omega arith);
          inside = tt;
        }

    -- t is what testing the head answered
    module _ (h : head_bytes ≤ length j - at) (head : Head) (e : HeadAt j at head) (t : Result Kind Cause)
        (r : (n : ℕ) → KindOf n head.kind → answer_refusal t ≡ first (head_causes n head.p head.size (length j - at - head_bytes))) where
      by_head : answer_refusal t ≡ record_refusal j at
      unfolding record_refusal
      by_head =
          first_later _ _ _ (le-ltb (length j - at) head_bytes h)
          (r (record_kind j at) e.kind
          ∙ ap₂ (λ (p l : ℕ). first (head_causes (record_kind j at) p l (length j - at - head_bytes))) e.p e.size)

      pub at_refused : {c : Cause} → t ≡ Err c → OpenedAt j at (opened.Refused c)
      at_refused {c} q =
          record {
            same = with-refusal (cause_number c) (sym (ap answer_refusal q) ∙ by_head) (λ z. omega (arith, cause_pos c));
            inside = tt;
          }

      module _ {k : Kind} (q : t ≡ Ok k) (named : head.kind ≡ Some k) where
        body_here : body_of head.kind head.size ≡ body_bytes (record_kind j at) (record_length j at)
        body_here = body-named head.kind (record_kind j at) head.size e.kind ∙ ap (body_bytes (record_kind j at)) e.size

        -- the record lies in the journal
        pub at_room : at + head_bytes + body_of head.kind head.size ≤ length j
        at_room =
            let n = record_kind j at in
            omega (
              arith,
              body-named head.kind n head.size e.kind,
              head_enough n head.p head.size (length j - at - head_bytes) (sym (r n e.kind) ∙ ap answer_refusal q),
            )

        edit_here : edit_of j (spans_of k head.p head.size (at + head_bytes)) ≡ record_edit j at
        unfolding record_edit
        edit_here =
            let start = at + head_bytes in
            let number : record_kind j at ≡ kind_number k = subst (KindOf (record_kind j at)) named e.kind in
            let named_by : (n p l : ℕ) → keeper.Edit = λ n p l. edit_named n p (take l (drop start j)) (take l (drop (start + l) j)) in
            spans-edit j k head.p head.size start
            ∙ ap (λ (n : ℕ). named_by n head.p head.size) (sym number)
            ∙ ap₂ (named_by (record_kind j at)) e.p e.size

        pub at_record : {body : ℕ} {s : Edit} → body ≡ body_of head.kind head.size → s ≡ spans_of k head.p head.size (at + head_bytes)
            → OpenedAt j at (opened.Record s (at + head_bytes + body))
        unfolding opening opening_with place_after
        at_record {body} {s} eb es =
            let fits : record_refusal j at ≡ 0 = sym by_head ∙ ap answer_refusal q in
            let room : at + head_bytes + body_of (Some k) head.size ≤ length j = rw named at at_room in
            record {
              same =
                  rw (lt-ltb at (length j) more, fits)
                  (ap₂ (λ (x : keeper.Edit) (b : ℕ). opens x (at + head_bytes + b)) (ap (edit_of j) es ∙ edit_here) (eb ∙ body_here));
              inside = rw es (spans-inside (length j) k head.p head.size (at + head_bytes) room);
            }
