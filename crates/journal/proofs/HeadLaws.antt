-- A forecast is told by the heads alone (`by_heads`). An edit is hollowed: its bytes become as many zeros, which leaves its head and its geometry. Two
-- journals whose heads agree open to the same hollowed edits (`hollow_journal`), and a forecast is that of hollowed edits (`hollow_forecast`).
-- They rest on the field's laws of numbers as bytes, on the laws of records (`RecordLaws`) and on a journal's forecast from a place on (`ForecastLaws`).
use mathlib.Core.Path.{◌≡◌, refl, sym, ap, ap₂, ◌∙◌}
use mathlib.Core.Bool.{Bool, true, false, cond}
use mathlib.Core.List.{List, [], ◌∷◌}
use Prim.Native.Nat.{ℕ, zero, suc, ◌+◌, ◌-◌, ◌<◌, max}
use native.Mathlib.Omega.{arith}
use lib.Dec.{eqb, ltb}
use lib.ListN.{length, take, drop, replicate, length-take, length-drop, length-replicate}
use borrow.Author.Tests.{eqb-true, eqb-false, lt-ltb, ltb-true, ltb-false}
use Rattle.refusals.proofs.Laws.{first_here}
use Rattle.field.specs.Field.{number}
use Rattle.field.proofs.Bytes.{number-from, number-take}
use Rattle.file.specs.Edits.{Edit, change, append, prepend, drop_front, cut_tail, kind_of, place_of, given, replacing, Geometry, geometry_at, edit_refusal}
use Rattle.journal.specs.Records.{head_bytes, record_kind, record_place, record_length, edit_named, record_edit, place_after}
use Rattle.journal.specs.Records.{record_refusal, Opening, opens, refused, ended, opening_with, opening}
use Rattle.journal.specs.Journals.{Journal, journal_with, journal_from, opened_journal, replay_refusal}
use Rattle.journal.specs.Singly.{made_from, stop_from}
use Rattle.journal.specs.Forecasts.{charge, charges, greatest_length, forecast_at, forecasted, Begins, at_first, behind, HeadsAgree}
use Rattle.journal.proofs.RecordLaws.{by_kinds}
use Rattle.journal.proofs.ForecastLaws.{forecast_from, forecasted_whole, forecasted-records}

-- ---- an edit without its bytes

abbrev zeros : List ℕ → List ℕ
zeros s = replicate (length s) 0

unfoldable hollow : Edit → Edit
hollow (change p old new) = change p (zeros old) (zeros new)
hollow (append s) = append (zeros s)
hollow (prepend s) = prepend (zeros s)
hollow (drop_front s) = drop_front (zeros s)
hollow (cut_tail s) = cut_tail (zeros s)

hollow_geometry : (n : ℕ) (e : Edit) → geometry_at n (hollow e) ≡ geometry_at n e
unfolding hollow geometry_at kind_of place_of given replacing
hollow_geometry n (change p old new) = rw (length-replicate {A = ℕ} (length old) 0, length-replicate {A = ℕ} (length new) 0)
hollow_geometry n (append s) = rw (length-replicate {A = ℕ} (length s) 0)
hollow_geometry n (prepend s) = rw (length-replicate {A = ℕ} (length s) 0)
hollow_geometry n (drop_front s) = rw (length-replicate {A = ℕ} (length s) 0)
hollow_geometry n (cut_tail s) = rw (length-replicate {A = ℕ} (length s) 0)

hollow_refusal : (n : ℕ) (e : Edit) → edit_refusal n (hollow e) ≡ edit_refusal n e
unfolding edit_refusal
hollow_refusal n e = ap (λ (g : Geometry). g.refusal) (hollow_geometry n e)

-- edits of one kind and place, with as many bytes
hollow_named : (kind p : ℕ) (a b a' b' : List ℕ) → length a ≡ length a' → length b ≡ length b'
    → hollow (edit_named kind p a b) ≡ hollow (edit_named kind p a' b')
unfolding hollow edit_named
hollow_named kind p a b a' b' ea eb = by_kinds (λ (x y : Edit). hollow x ≡ hollow y) kind (rw (ea, eb)) (rw ea) (rw ea) (rw ea) (rw ea)

-- an opening with its edit hollowed, and a journal with all of them
unfoldable hollow_opening : Opening → Opening
hollow_opening (opens e next) = opens (hollow e) next
hollow_opening (refused m) = refused m
hollow_opening ended = ended

unfoldable hollow_all : List (ℕ × Edit) → List (ℕ × Edit)
hollow_all [] = []
hollow_all (r ∷ rs) = (r.0, hollow r.1) ∷ hollow_all rs

unfoldable hollowed : Journal → Journal
hollowed o = record { edits = hollow_all o.edits; refusal = o.refusal; offset = o.offset }

-- ---- one place

-- the same twelve bytes are the same number
head_number : (j j' : List ℕ) (at : ℕ) → take head_bytes (drop at j) ≡ take head_bytes (drop at j') → number j at head_bytes ≡ number j' at head_bytes
head_number j j' at e =
    sym (number-take (drop at j) head_bytes 0 head_bytes (omega arith) ∙ number-from j at head_bytes)
    ∙ ap (λ (s : List ℕ). number s 0 head_bytes) e
    ∙ number-take (drop at j') head_bytes 0 head_bytes (omega arith)
    ∙ number-from j' at head_bytes

module _ (j j' : List ℕ) (at : ℕ) (size : length j ≡ length j') where
  part_size : (l from : ℕ) → length (take l (drop from j)) ≡ length (take l (drop from j'))
  part_size l from = simp (length-take, length-drop, size)

  -- the heads are the same
  module _ (e : number j at head_bytes ≡ number j' at head_bytes) where
    same_refusal : record_refusal j at ≡ record_refusal j' at
    unfolding record_refusal record_kind record_place record_length
    same_refusal = rw (e, size)

    same_next : place_after j at ≡ place_after j' at
    unfolding place_after record_kind record_length
    same_next = rw e

    same_edit : hollow (record_edit j at) ≡ hollow (record_edit j' at)
    unfolding record_edit record_kind record_place record_length
    same_edit =
        let l = record_length j' at in
        let body = at + head_bytes in
        rw e (hollow_named _ _ _ _ _ _ (part_size l body) (part_size l (body + l)))

    same_with : (m : ℕ) → hollow_opening (opening_with m j at) ≡ hollow_opening (opening_with m j' at)
    unfolding opening_with hollow_opening
    same_with m = flag (eqb m 0)
      where
        flag : (t : Bool) → hollow_opening (cond t (opens (record_edit j at) (place_after j at)) (refused m))
            ≡ hollow_opening (cond t (opens (record_edit j' at) (place_after j' at)) (refused m))
        flag true = ap₂ opens same_edit same_next
        flag false = refl

    same_here : hollow_opening (opening j at) ≡ hollow_opening (opening j' at)
    unfolding opening hollow_opening
    same_here = rw (size, same_refusal) (flag (ltb at (length j')))
      where
        flag : (t : Bool) → hollow_opening (cond t (opening_with (record_refusal j' at) j at) ended)
            ≡ hollow_opening (cond t (opening_with (record_refusal j' at) j' at) ended)
        flag true = same_with (record_refusal j' at)
        flag false = refl

  -- and where no head is left, both are refused for it, or ended
  short-refusal : (k : List ℕ) → length k - at < head_bytes → record_refusal k at ≡ 10
  unfolding record_refusal
  short-refusal k l = sym (first_here _ _ _ (lt-ltb (length k - at) head_bytes l))

  same_short : length j - at < head_bytes → opening j at ≡ opening j' at
  unfolding opening opening_with
  same_short l = rw (short-refusal j l, short-refusal j' (omega (arith, size)), size)

same_by : (j j' : List ℕ) (at : ℕ) → HeadsAgree j j' → Begins j at → (t : Bool) → ltb (length j - at) head_bytes ≡ t
    → hollow_opening (opening j at) ≡ hollow_opening (opening j' at)
same_by j j' at h b true t = ap hollow_opening (same_short j j' at h.size (ltb-true _ _ t))
same_by j j' at h b false t =
    let l = ltb-false (length j - at) head_bytes t in
    same_here j j' at h.size (head_number j j' at (h.heads at b (omega arith)))

-- ---- from a place on

-- by the opening there
hollow_with : (at : ℕ) (o : Opening) (rest : ℕ → Journal) → hollowed (journal_with at o rest) ≡ journal_with at (hollow_opening o) (λ next. hollowed (rest next))
unfolding hollowed hollow_all journal_with hollow_opening
hollow_with at (opens e next) rest = refl
hollow_with at (refused m) rest = refl
hollow_with at ended rest = refl

module _ (j j' : List ℕ) (h : HeadsAgree j j') where
  -- where the rest is the same
  hollow_at : (most at : ℕ) → Begins j at → ((next : ℕ) → Begins j next → hollowed (journal_from most j next) ≡ hollowed (journal_from most j' next))
      → (o : Opening) → opening j at ≡ o
      → journal_with at (hollow_opening o) (λ next. hollowed (journal_from most j next))
      ≡ journal_with at (hollow_opening o) (λ next. hollowed (journal_from most j' next))
  unfolding journal_with hollow_opening
  hollow_at most at b rest (opens e next) q =
      ap (λ (r : Journal). record { edits = (at, hollow e) ∷ r.edits; refusal = r.refusal; offset = r.offset }) (rest next (behind b q))
  hollow_at most at b rest (refused m) q = refl
  hollow_at most at b rest ended q = refl

  hollow_journal : (most at : ℕ) → Begins j at → hollowed (journal_from most j at) ≡ hollowed (journal_from most j' at)
  unfolding journal_from
  hollow_journal zero at b = refl
  hollow_journal (suc most) at b =
      hollow_with at (opening j at) (journal_from most j)
      ∙ hollow_at most at b (λ next c. hollow_journal most next c) (opening j at) refl
      ∙ ap (λ (o : Opening). journal_with at o (λ next. hollowed (journal_from most j' next))) (same_by j j' at h b (ltb (length j - at) head_bytes) refl)
      ∙ sym (hollow_with at (opening j' at) (journal_from most j'))

-- ---- the forecast of hollowed edits

-- it adds up to the same, and stops at the same place
abbrev HollowTells : (n refusal offset : ℕ) → List (ℕ × Edit) → Type 0
HollowTells n refusal offset rs =
    (charges n (made_from n (hollow_all rs)) ≡ charges n (made_from n rs))
    × (greatest_length n (made_from n (hollow_all rs)) ≡ greatest_length n (made_from n rs))
    × (stop_from n (hollow_all rs) refusal offset ≡ stop_from n rs refusal offset)

hollow_tells : (n refusal offset : ℕ) (rs : List (ℕ × Edit)) → HollowTells n refusal offset rs
unfolding hollow_all made_from stop_from charges greatest_length
hollow_tells n refusal offset [] = (refl, refl, refl)
hollow_tells n refusal offset (r ∷ rs) =
    rw (hollow_refusal n r.1, hollow_geometry n r.1) (flag (eqb (edit_refusal n r.1) 0) (hollow_tells (geometry_at n r.1).n refusal offset rs))
  where
    m : ℕ
    m = (geometry_at n r.1).n

    stop : ℕ × ℕ
    stop = (edit_refusal n r.1, r.0)

    flag : (t : Bool) → HollowTells m refusal offset rs
        → (charges n (cond t (hollow r.1 ∷ made_from m (hollow_all rs)) []) ≡ charges n (cond t (r.1 ∷ made_from m rs) []))
        × (greatest_length n (cond t (hollow r.1 ∷ made_from m (hollow_all rs)) []) ≡ greatest_length n (cond t (r.1 ∷ made_from m rs) []))
        × (cond t (stop_from m (hollow_all rs) refusal offset) stop ≡ cond t (stop_from m rs refusal offset) stop)
    flag true later =
        rw (hollow_geometry n r.1) (ap (λ (x : ℕ). charge n (geometry_at n r.1) + x) later.0, ap (max n) later.1, later.2)
    flag false later = (refl, refl, refl)

hollow_forecast : (n bound greatest : ℕ) (o : Journal) → forecast_from n bound greatest (hollowed o) ≡ forecast_from n bound greatest o
unfolding forecast_from hollowed
hollow_forecast n bound greatest o =
    let t = hollow_tells n o.refusal o.offset o.edits in
    λ i. forecast_at (bound + t.0 i) (max greatest (t.1 i)) (t.2 i).0 (t.2 i).1

module _ (n : ℕ) (j j' : List ℕ) (h : HeadsAgree j j') where
  same_whole : replay_refusal n j ≡ replay_refusal n j'
  unfolding replay_refusal
  same_whole = rw h.size

  heads_by : (t : Bool) → eqb (replay_refusal n j) 0 ≡ t → forecasted n j ≡ forecasted n j'
  unfolding opened_journal
  heads_by true t =
      let z = eqb-true (replay_refusal n j) 0 t in
      sym (forecasted-records n j z)
      ∙ sym (hollow_forecast n 0 n (opened_journal j))
      ∙ ap (forecast_from n 0 n) (hollow_journal j j' h (suc (length j)) 0 at_first)
      ∙ hollow_forecast n 0 n (journal_from (suc (length j)) j' 0)
      ∙ ap (λ (m : ℕ). forecast_from n 0 n (journal_from (suc m) j' 0)) h.size
      ∙ forecasted-records n j' (sym same_whole ∙ z)
  heads_by false t =
      let z = eqb-false (replay_refusal n j) 0 t in
      forecasted_whole n j z
      ∙ ap (λ (m : ℕ). forecast_at 0 n m 0) same_whole
      ∙ sym (forecasted_whole n j' (λ y. z (same_whole ∙ y)))

  pub by_heads : forecasted n j ≡ forecasted n j'
  by_heads = heads_by (eqb (replay_refusal n j) 0) refl
