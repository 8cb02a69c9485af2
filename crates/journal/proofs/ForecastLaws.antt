-- A forecast by what came before a place and the rest of a journal; and that it is a walk whose edits lengths take.
use mathlib.Core.Path.{◌≡◌, refl, sym, ap, ◌∙◌}
use mathlib.Core.Bool.{Bool, true, false}
use mathlib.Core.Logic.{◌≢◌}
use mathlib.Core.List.{List, [], ◌∷◌}
use Prim.Native.Nat.{ℕ, ◌+◌, ◌^◌, ◌≤◌, max}
use native.Mathlib.Nat.{le_refl}
use native.Mathlib.Omega.{arith}
use lib.Dec.{eqb}
use lib.ListN.{length}
use borrow.Author.Tests.{eq-eqb, ne_eqb, eqb-true, eqb-false}
use Rattle.std.specs.Prelude.{cond, Ok, Err}
use Rattle.file.specs.declared.causes.Cause.{Cause}
use Rattle.file.specs.declared.geometry.Shape.{Shape}
use Rattle.file.specs.Edits as keeper
use Rattle.file.specs.Edits.{Geometry, geometry_at, edit_refusal}
use Rattle.file.specs.Clauses.{cause_number, geometry_of}
use Rattle.file.proofs.ShapeLaws.{cause_pos}
use Rattle.journal.specs.declared.forecasting.Lengths.{Lengths}
use Rattle.journal.specs.declared.records.Edit.{Edit}
use Rattle.journal.specs.Journals.{Journal, opened_journal, replay_refusal}
use Rattle.journal.specs.Singly.{made_from, made, stop_from, stop_of}
use Rattle.journal.specs.Forecasts.{charge, charges, greatest_length, ForecastAnswer, forecast_at, forecasted}
use Rattle.journal.specs.Walks.{WalkAnswer, walk_stopped, walked_edits, walked_on, walked, lengths_taken}
use Rattle.journal.specs.Clauses.{edit_of, InsideEdit, taken_answer, span_geometry}
use Rattle.journal.proofs.ChargeLaws.{span-geometry, touched-few, charge-few}

-- ---- a journal from a place on

-- the first length is among those of which the greatest is
pub greatest-from : (n : ℕ) (es : List keeper.Edit) → n ≤ greatest_length n es
unfolding greatest_length
greatest-from n [] = le_refl n
greatest-from n (e ∷ es) = omega arith

-- what is forecast of a file of n bytes and the rest of a journal, with the bound and the greatest length of what came before
unfoldable pub forecast_from : (n bound greatest : ℕ) → Journal → ForecastAnswer
forecast_from n bound greatest o =
    let es = made_from n o.edits in
    let stop = stop_from n o.edits o.refusal o.offset in
    forecast_at (bound + charges n es) (max greatest (greatest_length n es)) stop.0 stop.1

-- the same by equal bounds and greatest lengths
forecast_so : {b b' g g' : ℕ} (stop : ℕ × ℕ) → b ≡ b' → g ≡ g' → forecast_at b g stop.0 stop.1 ≡ forecast_at b' g' stop.0 stop.1
forecast_so stop eb eg = λ i. forecast_at (eb i) (eg i) stop.0 stop.1

-- the whole journal
module _ (n : ℕ) (j : List ℕ) where
  pub forecasted_whole : replay_refusal n j ≢ 0 → forecasted n j ≡ forecast_at 0 n (replay_refusal n j) 0
  unfolding forecasted made stop_of charges greatest_length
  forecasted_whole z = simp (ne_eqb (replay_refusal n j) 0 z)

  pub forecasted-records : replay_refusal n j ≡ 0 → forecast_from n 0 n (opened_journal j) ≡ forecasted n j
  unfolding forecasted forecast_from made stop_of
  forecasted-records z =
      let es = made_from n (opened_journal j).edits in
      rw (eq-eqb (replay_refusal n j) 0 z) (forecast_so _ (omega arith) (omega (arith, greatest-from n es)))

-- ---- a walk whose edits lengths take

-- what forecast answers, by its walk
abbrev pub forecast_of : WalkAnswer Lengths → ForecastAnswer
forecast_of w = forecast_at w.total w.after.greatest w.refusal w.offset

abbrev pub lengths : (n greatest : ℕ) → Lengths
lengths n greatest = record { n = n; greatest = greatest }

-- where the greatest length is at least n
forecasts-from : (n bound greatest : ℕ) → n ≤ greatest → (rs : List (ℕ × keeper.Edit)) (refusal offset : ℕ)
    → forecast_of (walked_edits lengths_taken (lengths n greatest) bound rs refusal offset)
    ≡ forecast_from n bound greatest (record { edits = rs; refusal = refusal; offset = offset })
unfolding walked_edits lengths_taken forecast_from made_from stop_from charges greatest_length edit_refusal
forecasts-from n bound greatest l [] refusal offset = forecast_so (refusal, offset) (omega arith) (omega arith)
forecasts-from n bound greatest l (r ∷ rs) refusal offset =
    flag (eqb g.refusal 0) (forecasts-from g.n (bound + charge n g) (max greatest g.n) (omega arith) rs refusal offset)
  where
    g : Geometry
    g = geometry_at n r.1

    flag : (t : Bool)
        → forecast_of (walked_edits lengths_taken (lengths g.n (max greatest g.n)) (bound + charge n g) rs refusal offset)
        ≡ forecast_from g.n (bound + charge n g) (max greatest g.n) (record { edits = rs; refusal = refusal; offset = offset })
        → let after = cond t (lengths g.n (max greatest g.n)) (lengths n greatest) in
        let es = cond t (r.1 ∷ made_from g.n rs) [] in
        let stop = cond t (stop_from g.n rs refusal offset) (g.refusal, r.0) in
        forecast_of (cond t (walked_edits lengths_taken after (bound + charge n g) rs refusal offset) (walk_stopped after bound g.refusal r.0))
        ≡ forecast_at (bound + charges n es) (max greatest (greatest_length n es)) stop.0 stop.1
    flag true ih =
        let es = made_from g.n rs in
        ih ∙ forecast_so (stop_from g.n rs refusal offset) (omega arith) (omega (arith, greatest-from g.n es))
    flag false ih = forecast_so (g.refusal, r.0) (omega arith) (omega arith)

pub forecasts : (n : ℕ) (j : List ℕ) → forecast_of (walked lengths_taken n (lengths n n) j) ≡ forecasted n j
unfolding walked walked_on
forecasts n j = flag (eqb (replay_refusal n j) 0) refl
  where
    flag : (t : Bool) → eqb (replay_refusal n j) 0 ≡ t
        → let o = opened_journal j in
        forecast_of (cond t (walked_edits lengths_taken (lengths n n) 0 o.edits o.refusal o.offset) (walk_stopped (lengths n n) 0 (replay_refusal n j) 0))
        ≡ forecasted n j
    flag true t =
        let o = opened_journal j in
        forecasts-from n 0 n (le_refl n) o.edits o.refusal o.offset ∙ forecasted-records n j (eqb-true (replay_refusal n j) 0 t)
    flag false t = sym (forecasted_whole n j (eqb-false (replay_refusal n j) 0 t))

-- ---- one record

-- what was measured of a record's edit, and what is added for it, is what lengths make of it
module _ (j : List ℕ) (s : Lengths) (e : Edit) (inside : InsideEdit (length j) e) where
  pub measured-refused : (c : Cause) → geometry_of s.n (Err c) ≡ span_geometry s.n e → taken_answer s (Err c) ≡ lengths_taken s (edit_of j e)
  unfolding lengths_taken charge
  measured-refused c x = rw (← (x ∙ span-geometry j s.n e inside)) (rw (ne_eqb (cause_number c) 0 (λ z. omega (arith, cause_pos c))))

  module _ {w : Shape} (x : geometry_of s.n (Ok w) ≡ span_geometry s.n e) where
    pub measured-taken : {m a : ℕ} → m ≡ max s.greatest w.n → a ≡ charge s.n (geometry_of s.n (Ok w))
        → taken_answer (lengths w.n m) (Ok a) ≡ lengths_taken s (edit_of j e)
    unfolding lengths_taken
    measured-taken em ea = rw (← (x ∙ span-geometry j s.n e inside)) (rw (em, ea))

    pub measured-few : w.q ≤ 2 ^ 60
    measured-few = omega (arith, ap (λ (g : Geometry). g.q) (x ∙ span-geometry j s.n e inside), touched-few s.n (edit_of j e))

pub lengths-few : (s : Lengths) (e : keeper.Edit) → (lengths_taken s e).added ≤ length (keeper.given e) + 128
unfolding lengths_taken
lengths-few s e = charge-few s.n e
