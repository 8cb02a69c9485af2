-- What the forecast's theorem says of journals of appends, however many and however long.
-- It rests on that theorem (`Forecasts`), on such journals (`KnownJournals`) and on the file keeper's laws of appends (`KnownLists`).
use mathlib.Core.Path.{◌≡◌, refl, sym, ap, ap₂, subst, ◌∙◌}
use mathlib.Core.Logic.{◌⊎◌, inl, inr}
use mathlib.Core.List.{List, [], ◌∷◌, ◌++◌, map, flatten, append_assoc}
use Prim.Native.Nat.{ℕ, zero, suc, ◌+◌, ◌^◌, ◌≤◌, ◌<◌}
use native.Mathlib.Nat.{le_refl}
use native.Mathlib.Omega.{arith}
use lib.ListN.{length, take, drop, replicate, length-append, length-replicate}
use lib.Seq.{take_at, drop-append_seam}
use Rattle.field.specs.Field.{max_bytes, bytes}
use Rattle.field.proofs.Bytes.{length-bytes}
use Rattle.file.specs.declared.states.State.{State}
use Rattle.file.specs.Edits.{Edit, append, kind_of, place_of, given, replacing}
use Rattle.file.specs.Calls.{edit, call_answer}
use Rattle.file.specs.Runs.{Run, further, run}
use Rattle.file.specs.Met.{appends}
use Rattle.file.proofs.EditAnswers.{edited-length}
use Rattle.file.proofs.KnownLists.{append-refusal, append-length}
use Rattle.journal.specs.Records.{head_bytes, kind_number, head_value, packed_record, record_bytes, Opening, opens, refused, ended, opening}
use Rattle.journal.specs.Singly.{Opens}
use Rattle.journal.specs.Forecasts.{forecasted, Begins, at_first, behind, Greatest}
use Rattle.journal.specs.Met.{packed_records, HaveRecords, append_journal, Replayable, ForecastWhole, SameLengths, ForecastMet}
use Rattle.journal.proofs.OpeningLaws.{Tells, tells, record_some}
use Rattle.journal.proofs.Forecasts.{forecast_theorem}
use Rattle.journal.proofs.KnownJournals.{length_record, journal_opens, made_journal, replay-met}

-- ---- a journal of appends that fit

-- the length after some of the appends is at most that after all
some-appended : (k : ℕ) (r : Run) (parts : List (List ℕ)) → r.state.n + length (flatten parts) ≤ max_bytes
    → let m = (run r (map edit (take k (map append parts)))).state.n in
    let all = r.state.n + length (flatten parts) in
    (m ≤ all) × (length parts ≤ k → m ≡ all)
unfolding run further call_answer flatten
some-appended zero r [] l = (omega arith, λ z. omega arith)
some-appended zero r (part ∷ parts) l = (omega arith, λ z. absurd (omega arith))
some-appended (suc k) r [] l = (omega arith, λ z. omega arith)
some-appended (suc k) r (part ∷ parts) l =
    let both = length-append part (flatten parts) in
    let one : (further r (edit (append part))).state.n ≡ r.state.n + length part =
    edited-length r.state (append part) ∙ append-length r.state.n part (omega (arith, both)) in
    let later = some-appended k (further r (edit (append part))) parts (omega (arith, one, both)) in
    (omega (arith, later.0, one, both), λ z. omega (arith, later.1 (omega arith), one, both))

whole : (r : Run) (parts : List (List ℕ)) → Replayable parts → r.state.n + length (flatten parts) ≤ max_bytes
    → ForecastWhole r (run r (appends parts)) parts (forecasted r.state.n (append_journal parts))
whole r parts h l =
    let j = append_journal parts in
    let replays = replay-met.whole r parts h l in
    let longest : Greatest r (map append parts) (forecasted r.state.n j).greatest =
    subst (λ (es : List Edit). Greatest r es (forecasted r.state.n j).greatest) (made_journal r.state.n parts h l)
    (forecast_theorem.greatest r j) in
    let all = (some-appended (length parts) r parts l).1 (le_refl (length parts)) in
    let reached = (some-appended longest.calls r parts l).0 in
    record {
      refusal = sym (forecast_theorem.refusal r.state j) ∙ replays.refusal;
      offset = sym (forecast_theorem.offset r.state j) ∙ replays.offset;
      greatest = omega (arith, longest.none_longer (length parts), longest.reached, all, reached);
      left = subst (λ (st : State). st.n ≤ (forecasted r.state.n j).greatest) replays.state (forecast_theorem.left r.state j);
      bound = omega (arith, replays.total, forecast_theorem.bound r.state j);
      fits = forecast_theorem.fits r.state.n j;
    }

-- ---- where its records begin

-- a place is where one of some records begins, the first of which begins at a start, or the end of the last
unfoldable Starts : List Edit → (start at : ℕ) → Type 0
Starts [] start at = at ≡ start
Starts (e ∷ es) start at = (at ≡ start) ⊎ Starts es (start + record_bytes e) at

starts_first : (es : List Edit) (start : ℕ) → Starts es start start
unfolding Starts
starts_first [] start = refl
starts_first (e ∷ es) start = inl refl

-- the place behind a record that opens
behind_of : Opening → ℕ
behind_of (opens e next) = next
behind_of (refused n) = 0
behind_of ended = 0

starts_next : (j : List ℕ) (es : List Edit) (start at next : ℕ) {e : Edit} → Opens j start es (length j) → Starts es start at
    → opening j at ≡ opens e next → Starts es start next
unfolding Starts Opens behind_of
starts_next j [] start at next {e} o s q =
    let t = subst (Tells j at) q (tells j at) in
    absurd (omega (arith, o, s, t, record_some e))
starts_next j (x ∷ es) start at next {e} o (inl s) q =
    let here : start + record_bytes x ≡ next = ap behind_of (sym o.0 ∙ ap (opening j) (sym s) ∙ q) in
    inr (subst (Starts es (start + record_bytes x)) here (starts_first es (start + record_bytes x)))
starts_next j (x ∷ es) start at next {e} o (inr s) q = inr (starts_next j es (start + record_bytes x) at next o.1 s q)

begins_starts : (j : List ℕ) (es : List Edit) (at : ℕ) → Opens j 0 es (length j) → Begins j at → Starts es 0 at
begins_starts j es at o at_first = starts_first es 0
begins_starts j es at o (behind {at = from} b q) = starts_next j es 0 from at o (begins_starts j es from o b) q

-- ---- appends of other bytes

-- a part's record, and what stands before and behind it
head_here : (before part rest : List ℕ) → take head_bytes (drop (length before) (before ++ (packed_record (append part) ++ rest)))
    ≡ bytes head_bytes (head_value 2 0 (length part))
unfolding packed_record kind_of place_of given replacing kind_number
head_here before part rest =
    let head = bytes head_bytes (head_value 2 0 (length part)) in
    let flat : packed_record (append part) ++ rest ≡ head ++ (part ++ ([] ++ rest)) =
    append_assoc (head ++ part) [] rest ∙ append_assoc head part ([] ++ rest) in
    ap (take head_bytes) (drop-append_seam before (packed_record (append part) ++ rest) ∙ flat)
    ∙ take_at head (part ++ ([] ++ rest)) head_bytes (length-bytes head_bytes (head_value 2 0 (length part)))

record_alike : (part part' : List ℕ) → length part ≡ length part' → length (packed_record (append part)) ≡ length (packed_record (append part'))
unfolding record_bytes given replacing
record_alike part part' e = rw (length_record (append part), length_record (append part'), e)

same_size : (parts parts' : List (List ℕ)) → SameLengths parts parts' → length (append_journal parts) ≡ length (append_journal parts')
unfolding SameLengths packed_records
same_size [] [] same = refl
same_size [] (part' ∷ parts') same = absurd same
same_size (part ∷ parts) [] same = absurd same
same_size (part ∷ parts) (part' ∷ parts') same =
    simp length-append (ap₂ ◌+◌ (record_alike part part' same.0) (same_size parts parts' same.1))

-- behind as many bytes
same_heads : (before before' : List ℕ) (parts parts' : List (List ℕ)) (at : ℕ) → length before ≡ length before' → SameLengths parts parts'
    → Starts (map append parts) (length before) at → at + head_bytes ≤ length (before ++ append_journal parts)
    → take head_bytes (drop at (before ++ append_journal parts)) ≡ take head_bytes (drop at (before' ++ append_journal parts'))
unfolding SameLengths Starts packed_records
same_heads before before' [] [] at e same s l = absurd (omega (arith, s, length-append before []))
same_heads before before' [] (part' ∷ parts') at e same s l = absurd same
same_heads before before' (part ∷ parts) [] at e same s l = absurd same
same_heads before before' (part ∷ parts) (part' ∷ parts') at e same (inl s) l =
    let whole' = before' ++ (packed_record (append part') ++ append_journal parts') in
    rw s
    (head_here before part (append_journal parts)
    ∙ ap (λ (n : ℕ). bytes head_bytes (head_value 2 0 n)) same.0
    ∙ sym (ap (λ (n : ℕ). take head_bytes (drop n whole')) e ∙ head_here before' part' (append_journal parts')))
same_heads before before' (part ∷ parts) (part' ∷ parts') at e same (inr s) l =
    let record_of = packed_record (append part) in
    let record-of' = packed_record (append part') in
    let moved : length before + record_bytes (append part) ≡ length (before ++ record_of) = simp (length-append, length_record (append part)) in
    let even : length (before ++ record_of) ≡ length (before' ++ record-of') = simp length-append (ap₂ ◌+◌ e (record_alike part part' same.0)) in
    let joined = append_assoc before record_of (append_journal parts) in
    ap (λ (j : List ℕ). take head_bytes (drop at j)) (sym joined)
    ∙ same_heads (before ++ record_of) (before' ++ record-of') parts parts' at even same.1
    (subst (λ (n : ℕ). Starts (map append parts) n at) moved s) (rw joined l)
    ∙ ap (λ (j : List ℕ). take head_bytes (drop at j)) (append_assoc before' record-of' (append_journal parts'))

other_bytes : (n : ℕ) (parts parts' : List (List ℕ)) → HaveRecords (map append parts) → SameLengths parts parts'
    → forecasted n (append_journal parts) ≡ forecasted n (append_journal parts')
other_bytes n parts parts' h same =
    let j = append_journal parts in
    let records = journal_opens (map append parts) h in
    forecast_theorem.by_heads n j (append_journal parts')
    (record {
      size = same_size parts parts' same;
      heads = λ at b l. same_heads [] [] parts parts' at refl same (begins_starts j (map append parts) at records b) l;
    })

-- ---- any journal

no_head : (n : ℕ) (j j' : List ℕ) → length j ≡ length j' → length j < head_bytes → forecasted n j ≡ forecasted n j'
no_head n j j' size few = forecast_theorem.by_heads n j j' (record { size = size; heads = λ at b l. absurd (omega arith) })

every : (r : Run) (j : List ℕ) → (r.state.n ≤ (forecasted r.state.n j).greatest) × ((forecasted r.state.n j).bound < 2 ^ 64)
unfolding run
every r j = ((forecast_theorem.greatest r j).none_longer 0, forecast_theorem.fits r.state.n j)

pub forecast_met : ForecastMet
forecast_met =
    record {
      whole = whole;
      part_adds = λ n part l some. unfold given in forecast_theorem.charged n (append part) (append-refusal n part l) some;
      nothing_adds = λ n l. unfold given in forecast_theorem.uncharged n (append []) (append-refusal n [] (omega arith)) refl;
      other_bytes = other_bytes;
      no_head = no_head;
      every = every;
      too_long = λ n k l long. forecast_theorem.long_journal n (replicate k 0) l (rw (length-replicate {A = ℕ} k 0) long);
      file_too_long = λ n parts l. forecast_theorem.long_file n (append_journal parts) l;
    }
