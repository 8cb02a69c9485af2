-- What forecast says of replay, for every state and every journal.
-- It rests on replay's theorem (`Singly`), on what an edit answers by itself (the file keeper's `EditAnswers`) and on the laws of a forecast
-- (`ChargeLaws`, `ForecastLaws`, `HeadLaws`).
use mathlib.Core.Path.{◌≡◌, refl, sym, ap, subst, ◌∙◌}
use mathlib.Core.Bool.{Bool, true, false}
use mathlib.Core.List.{List, [], ◌∷◌, map}
use Prim.Native.Nat.{ℕ, zero, suc, ◌+◌, ◌*◌, ◌^◌, ◌≤◌, ◌<◌, max}
use native.Mathlib.Nat.{le_refl}
use native.Mathlib.Omega.{arith}
use lib.Dec.{eqb, ltb}
use lib.ListN.{length, take}
use lib.Seq.{take_all}
use borrow.Author.Tests.{eqb-true, eqb-false, ltb-true, ltb-false}
use Rattle.field.specs.Field.{zero_block}
use Rattle.file.specs.declared.states.State.{State}
use Rattle.file.specs.Edits.{Edit, geometry_at}
use Rattle.file.specs.States.{zero_state, put}
use Rattle.file.specs.Calls.{edit, call_answer}
use Rattle.file.specs.Runs.{Run, begun, further, run}
use Rattle.file.proofs.EditAnswers.{edited-length}
use Rattle.journal.specs.Records.{record_bytes}
use Rattle.journal.specs.Journals.{replay_refusal, ReplayAnswer, replayed}
use Rattle.journal.specs.Singly.{made, Opens, Singly}
use Rattle.journal.specs.Forecasts.{charges, greatest_length, ForecastAnswer, forecast_at, forecasted, Greatest, ForecastTheorem}
use Rattle.journal.proofs.OpeningLaws.{Tells, tells, replayed_whole}
use Rattle.journal.proofs.PlaceLaws.{whole_file, whole_journal, passed}
use Rattle.journal.proofs.Singly.{replay_theorem}
use Rattle.journal.proofs.ChargeLaws.{charged, uncharged, charge-few, charge-covers}
use Rattle.journal.proofs.ForecastLaws.{forecasted_whole}
use Rattle.journal.proofs.HeadLaws.{by_heads}

-- ---- the bound

-- calls of edits count no more than they are charged
run-charged : (r : Run) (es : List Edit) → (run r (map edit es)).total ≤ r.total + charges r.state.n es
unfolding run further call_answer charges
run-charged r [] = omega arith
run-charged r (e ∷ es) =
    omega (arith, rw (edited-length r.state e) at (run-charged (further r (edit e)) es), charge-covers r.state e)

-- the records of edits are charged at most eleven times their bytes
records-charged : (j : List ℕ) (at end n : ℕ) (es : List Edit) → at ≤ length j → Opens j at es end → charges n es + 11 * at ≤ 11 * length j
unfolding Opens charges record_bytes
records-charged j at end n [] l o = omega arith
records-charged j at end n (e ∷ es) l o =
    let behind = (subst (Tells j at) o.0 (tells j at)).1 in
    omega (arith, charge-few n e, records-charged j (at + record_bytes e) end (geometry_at n e).n es behind o.1)

-- a run that begins with a state; its plain machine is no matter
abbrev from_state : State → Run
from_state st = begun st (record { bytes = []; last = 0 })

-- of a journal that is not refused as a whole
module _ (st : State) (j : List ℕ) (z : replay_refusal st.n j ≡ 0) where
  singly : Singly (from_state st) (run (from_state st) (map edit (made st.n j))) j (made st.n j) (replayed st j)
  unfolding begun
  singly = replay_theorem.singly (from_state st) j (passed st.n j z).0 (passed st.n j z).1

  records-bound : ((replayed st j).count ≤ (forecasted st.n j).bound) × ((forecasted st.n j).bound < 2 ^ 64)
  unfolding forecasted begun
  records-bound = (
    omega (arith, singly.total, run-charged (from_state st) (made st.n j)),
    omega (arith, records-charged j 0 _ st.n (made st.n j) (omega arith) singly.records, (passed st.n j z).1),
  )

bound_by : (st : State) (j : List ℕ) (t : Bool) → eqb (replay_refusal st.n j) 0 ≡ t
    → ((replayed st j).count ≤ (forecasted st.n j).bound) × ((forecasted st.n j).bound < 2 ^ 64)
bound_by st j true t = records-bound st j (eqb-true (replay_refusal st.n j) 0 t)
bound_by st j false t =
    let z = eqb-false (replay_refusal st.n j) 0 t in
    let bound = ap (λ (a : ForecastAnswer). a.bound) (forecasted_whole st.n j z) in
    let count = ap (λ (a : ReplayAnswer). a.count) (replayed_whole st j z) in
    (omega (arith, bound, count), omega (arith, bound))

-- ---- the greatest length

-- of no calls
greatest-none : (r : Run) → Greatest r [] r.state.n
greatest-none r = record { none_longer = λ k. none k; calls = 0; reached = unfold run in refl }
  where
    none : (k : ℕ) → (run r (map edit (take k []))).state.n ≤ r.state.n
    none zero = unfold run in le_refl r.state.n
    none (suc k) = unfold run in le_refl r.state.n

-- of one call more before the others
module _ (r : Run) (e : Edit) (es : List Edit) (g : ℕ) (h : Greatest (further r (edit e)) es g) where
  none_by : (k : ℕ) → (run r (map edit (take k (e ∷ es)))).state.n ≤ max r.state.n g
  unfolding run
  none_by zero = omega arith
  none_by (suc k) = omega (arith, h.none_longer k)

  greatest_by : (t : Bool) → ltb g r.state.n ≡ t → Greatest r (e ∷ es) (max r.state.n g)
  unfolding run
  greatest_by true t = record { none_longer = none_by; calls = 0; reached = omega (arith, ltb-true g r.state.n t) }
  greatest_by false t = record { none_longer = none_by; calls = suc h.calls; reached = omega (arith, ltb-false g r.state.n t, h.reached) }

greatest_of : (r : Run) (es : List Edit) → Greatest r es (greatest_length r.state.n es)
unfolding greatest_length further call_answer
greatest_of r [] = greatest-none r
greatest_of r (e ∷ es) =
    let g = greatest_length (geometry_at r.state.n e).n es in
    let later : Greatest (further r (edit e)) es g = rw (edited-length r.state e) at (greatest_of (further r (edit e)) es) in
    greatest_by r e es g later (ltb g r.state.n) refl

-- the file that replay leaves is no longer
left_by : (st : State) (j : List ℕ) (t : Bool) → eqb (replay_refusal st.n j) 0 ≡ t → (replayed st j).state.n ≤ (forecasted st.n j).greatest
unfolding forecasted begun
left_by st j true t =
    let z = eqb-true (replay_refusal st.n j) 0 t in
    let es = made st.n j in
    let all = (greatest_of (from_state st) es).none_longer (length es) in
    rw (singly st j z).state (rw (take_all (length es) es (le_refl (length es))) at all)
left_by st j false t =
    let z = eqb-false (replay_refusal st.n j) 0 t in
    omega (
      arith,
      ap (λ (a : ReplayAnswer). a.state.n) (replayed_whole st j z),
      ap (λ (a : ForecastAnswer). a.greatest) (forecasted_whole st.n j z),
    )

-- ---- the theorem

whole : (n : ℕ) (j : List ℕ) (m : ℕ) → m ≡ replay_refusal n j → 0 < m → forecasted n j ≡ forecast_at 0 n m 0
whole n j m e p = forecasted_whole n j (λ z. omega (arith, e)) ∙ ap (λ (k : ℕ). forecast_at 0 n k 0) (sym e)

pub forecast_theorem : ForecastTheorem
unfolding forecasted put
forecast_theorem =
    record {
      long_file = λ n j l. whole n j 2 (whole_file n j l) (omega arith);
      long_journal = λ n j l m. whole n j 10 (whole_journal n j l m) (omega arith);
      refusal = λ st j. ap (λ (x : ℕ × ℕ). x.0) (replay_theorem.stops st j);
      offset = λ st j. ap (λ (x : ℕ × ℕ). x.1) (replay_theorem.stops st j);
      bound = λ st j. (bound_by st j (eqb (replay_refusal st.n j) 0) refl).0;
      fits = λ n j. (bound_by (put zero_state zero_block n) j (eqb (replay_refusal n j) 0) refl).1;
      charged = charged;
      uncharged = uncharged;
      greatest = λ r j. greatest_of r (made r.state.n j);
      left = λ st j. left_by st j (eqb (replay_refusal st.n j) 0) refl;
      by_heads = by_heads;
    }
