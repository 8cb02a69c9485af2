-- Journals that are known to the end: what the format says of records of any edits, and replay's theorem of journals of appends.
-- It rests on these (`Format`, `Singly`), on what an opening tells (`OpeningLaws`) and on the file keeper's laws of appends (`KnownLists`).
use mathlib.Core.Path.{◌≡◌, refl, sym, ap, subst, ◌∙◌}
use mathlib.Core.List.{List, [], ◌∷◌, ◌++◌, map, map-map, flatten, append-nil, append_assoc}
use Prim.Native.Nat.{ℕ, zero, suc, ◌+◌, ◌≤◌}
use native.Mathlib.Nat.{add-zero, zero-add}
use native.Mathlib.Omega.{arith}
use lib.ListN.{length, replicate, length-append, length-replicate}
use borrow.Author.Tests.{eq-eqb, le-ltb}
use Rattle.field.specs.Field.{max_bytes}
use Rattle.field.proofs.Bytes.{length-bytes}
use Rattle.file.specs.Edits.{Edit, append}
use Rattle.file.specs.Calls.{edit}
use Rattle.file.specs.Runs.{Run, run}
use Rattle.file.specs.Met.{appends}
use Rattle.file.proofs.KnownLists.{append-refusal, append-length}
use Rattle.journal.specs.Records.{packed_record, record_bytes, ended, opening, HasRecord, Format}
use Rattle.journal.specs.Journals.{journal_from, opened_journal, replayed}
use Rattle.journal.specs.Singly.{made_from, made, Opens, answer_at, Singly}
use Rattle.journal.specs.Met.{packed_records, HaveRecords, FormatMet, append_journal, Replayable, ReplayedWhole, ReplayMet}
use Rattle.journal.proofs.Format.{format}
use Rattle.journal.proofs.OpeningLaws.{record_some}
use Rattle.journal.proofs.PlaceLaws.{passes}
use Rattle.journal.proofs.Singly.{made-opens, made-ended, replay_theorem}

-- ---- records back to back

pub length_record : (e : Edit) → length (packed_record e) ≡ record_bytes e
unfolding packed_record record_bytes
length_record e = simp (length-append, length-bytes) (omega arith)

-- the same records, by other names of the journal and of the two places
opens-moved : {j j' : List ℕ} {at at' end end' : ℕ} (es : List Edit) → j ≡ j' → at ≡ at' → end ≡ end' → Opens j at es end → Opens j' at' es end'
opens-moved es p q r o = subst (λ (x : List ℕ × ℕ × ℕ). Opens x.0 x.1 es x.2) (λ i. (p i, q i, r i)) o

opened : (es : List Edit) → HaveRecords es → (before behind : List ℕ)
    → Opens (before ++ packed_records es ++ behind) (length before) es (length before + length (packed_records es))
unfolding Opens HaveRecords packed_records Format
opened [] h before behind = sym (add-zero (length before))
opened (e ∷ es) h before behind =
    let size = length_record e in
    let at : length (before ++ packed_record e) ≡ length before + record_bytes e = simp (length-append, size) in
    let end : length (before ++ packed_record e) + length (packed_records es) ≡ length before + length (packed_record e ++ packed_records es) =
    simp length-append (omega arith) in
    let here : before ++ (packed_record e ++ packed_records es) ++ behind ≡ before ++ packed_record e ++ (packed_records es ++ behind) = simp append_assoc in
    let next : before ++ packed_record e ++ packed_records es ++ behind ≡ before ++ (packed_record e ++ packed_records es) ++ behind = simp append_assoc in (
      ap (λ (j : List ℕ). opening j (length before)) here ∙ format e h.0 before (packed_records es ++ behind),
      opens-moved es next at end (opened es h.1 (before ++ packed_record e) behind),
    )

-- edits end at one place
opens-end : (j : List ℕ) (at x y : ℕ) (es : List Edit) → Opens j at es x → Opens j at es y → x ≡ y
unfolding Opens
opens-end j at x y [] p q = sym p ∙ q
opens-end j at x y (e ∷ es) p q = opens-end j (at + record_bytes e) x y es p.1 q.1

-- and there are no more of them than bytes
opens-few : (j : List ℕ) (at end : ℕ) (es : List Edit) → Opens j at es end → at + length es ≤ end
unfolding Opens
opens-few j at end [] o = omega (arith, o)
opens-few j at end (e ∷ es) o = omega (arith, record_some e, opens-few j (at + record_bytes e) end es o.1)

pub end-ended : (j : List ℕ) (at : ℕ) → at ≡ length j → opening j at ≡ ended
unfolding opening
end-ended j at e = rw (le-ltb at (length j) (omega (arith, e)))

pub format_met : FormatMet
unfolding HasRecord
format_met =
    record {
      change_has = λ p old new lp l same. (lp, l, same);
      append_has = λ s l. l;
      prepend_has = λ s l. l;
      drop_has = λ s l. l;
      cut_has = λ s l. l;
      opened = opened;
    }

-- ---- a journal of appends

pub journal_opens : (es : List Edit) → HaveRecords es → Opens (packed_records es) 0 es (length (packed_records es))
journal_opens es h = opens-moved es (append-nil (packed_records es)) refl (zero-add (length (packed_records es))) (opened es h [] [])

-- all of it is made, where there is room
made_all : (most : ℕ) (j : List ℕ) (at n : ℕ) (parts : List (List ℕ)) → Opens j at (map append parts) (length j) → length parts ≤ most
    → n + length (flatten parts) ≤ max_bytes → made_from n (journal_from (suc most) j at).edits ≡ map append parts
unfolding Opens flatten
made_all most j at n [] o few l = made-ended most j at n (end-ended j at o)
made_all zero j at n (part ∷ parts) o few l = absurd (omega arith)
made_all (suc most) j at n (part ∷ parts) o few l =
    let both = length-append part (flatten parts) in
    let room : n + length part ≤ max_bytes = omega (arith, l, both) in
    made-opens (suc most) j at n o.0
    ∙ rw (eq-eqb _ 0 (append-refusal n part room), append-length n part room)
    (ap {B = List Edit} (λ (es : List Edit). append part ∷ es)
    (made_all most j (at + record_bytes (append part)) (n + length part) parts o.1 (omega arith) (omega (arith, l, both))))

length-map : {A B : Type 0} (f : A → B) (xs : List A) → length (map f xs) ≡ length xs
length-map f [] = refl
length-map f (x ∷ xs) = ap suc (length-map f xs)

pub made_journal : (n : ℕ) (parts : List (List ℕ)) → Replayable parts → n + length (flatten parts) ≤ max_bytes
    → made n (append_journal parts) ≡ map append parts
unfolding made opened_journal
made_journal n parts h l =
    let j = append_journal parts in
    let records = journal_opens (map append parts) h.0 in
    let few = opens-few j 0 (length j) (map append parts) records in
    rw (eq-eqb _ 0 (passes n j (omega (arith, l)) h.1))
    (made_all (length j) j 0 n parts records (omega (arith, few, length-map append parts)) l)

pub replayed_whole : (r : Run) (parts : List (List ℕ)) → Replayable parts → r.state.n + length (flatten parts) ≤ max_bytes
    → ReplayedWhole r (run r (appends parts)) (append_journal parts) (replayed r.state (append_journal parts))
unfolding answer_at
replayed_whole r parts h l =
    let j = append_journal parts in
    let a = replayed r.state j in
    let es = map append parts in
    let s : Singly r (run r (map edit es)) j es a =
    subst (λ (x : List Edit). Singly r (run r (map edit x)) j x a) (made_journal r.state.n parts h l)
    (replay_theorem.singly r j (omega (arith, l)) h.1) in
    let calls : run r (map edit es) ≡ run r (appends parts) = ap (run r) (map-map edit append parts) in
    let offset : a.offset ≡ length j = opens-end j 0 a.offset (length j) es s.records (journal_opens es h.0) in
    record {
      refusal = s.answer ∙ ap (answer_at a.state) (end-ended j a.offset offset);
      offset = offset;
      state = s.state ∙ ap (λ (x : Run). x.state) calls;
      total = s.total ∙ ap (λ (x : Run). x.total) calls;
    }

pub replay-met : ReplayMet
replay-met =
    record {
      whole = replayed_whole;
      too_long = λ st k n l. replay_theorem.long_journal st (replicate k 0) n (rw (length-replicate {A = ℕ} k 0) l);
      state_too_long = λ st parts l. replay_theorem.long_state st (append_journal parts) l;
    }
