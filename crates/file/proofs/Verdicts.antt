-- The verdicts of a check at any state: the three are together what genuine was, and each of the four comes exactly on its condition (`Split`).
-- It rests on the definitions of specs/Slips, and on a genuine slip not being refused (`SealLaws`).
use mathlib.Core.Path.{◌≡◌, refl, sym, ap, subst}
use mathlib.Core.Bool.{Bool, true, false, cond, false≢true}
use mathlib.Core.Logic.Iff
use mathlib.Core.Logic.{◌↔◌, inl, inr, ⊎_elim}
use mathlib.Core.List.{List}
use Prim.Native.Nat.{ℕ}
use native.Mathlib.Omega.{arith}
use lib.Dec.{ltb}
use borrow.Author.Tests.{eq-eqb, ne_eqb, ltb-true, ltb-false, lt-ltb, le-ltb}
use Rattle.file.specs.declared.states.State.{State}
use Rattle.file.specs.declared.sealing.Verdict.{Verdict}
use Rattle.file.specs.declared.sealing.Verdict.TheVariants.{NotGenuine, Current, Stale, Ahead}
use Rattle.file.specs.Slips.{slip_number, check_refusal, genuine, by_its_number, CheckAnswer, checked, Finds, FindsGenuine, Condition, Split}
use Rattle.file.proofs.SealLaws.{genuine-opens}

-- ---- conditions

-- they may be said in other words
pub condition_iff : {opens opens' fits fits' : Type 0} (last number : ℕ) → opens ↔ opens' → fits ↔ fits' → (v : Verdict)
    → Condition opens fits last number v ↔ Condition opens' fits' last number v
unfolding Condition
condition_iff last number o f NotGenuine = Iff.and o (Iff.not f)
condition_iff last number o f Current = Iff.and f Iff.rfl
condition_iff last number o f Stale = Iff.and f Iff.rfl
condition_iff last number o f Ahead = Iff.and f Iff.rfl

module _ (opens : Type 0) (last number : ℕ) where
  -- of a genuine slip the verdict that is on its condition is the number's
  numbered : {fits : Type 0} (v : Verdict) → fits → Condition opens fits last number v → by_its_number last number ≡ v
  unfolding Condition by_its_number
  numbered NotGenuine f k = absurd (k.1 f)
  numbered Current f k = simp (eq-eqb _ _ k.1)
  numbered Stale f k = simp (ne_eqb _ _ (λ (e : number ≡ last). omega (arith, k.1)), lt-ltb _ _ k.1)
  numbered Ahead f k = simp (ne_eqb _ _ (λ (e : number ≡ last). omega (arith, k.1)), le-ltb number last (omega (arith, k.1)))

  -- and one of them is
  found : {fits : Type 0} → fits → Condition opens fits last number (by_its_number last number)
  unfolding Condition
  found {fits} f = by (ltb number last) (ltb last number) refl refl
    where
      at : (v : Verdict) → Condition opens fits last number v → Condition opens fits last number (by_its_number last number)
      at v k = subst (Condition opens fits last number) (sym (numbered v f k)) k

      by : (t u : Bool) → ltb number last ≡ t → ltb last number ≡ u → Condition opens fits last number (by_its_number last number)
      by true u e g = at Stale (f, ltb-true _ _ e)
      by false true e g = at Ahead (f, ltb-true _ _ g)
      by false false e g = at Current (f, omega (arith, ltb-false number last e, ltb-false last number g))

  -- check's verdict is on its condition, t being whether the slip is genuine
  judged : (t : Bool) → opens → Condition opens (t ≡ true) last number (cond t (by_its_number last number) NotGenuine)
  unfolding Condition
  judged true o = found refl
  judged false o = (o, false≢true)

  -- and no other is
  told : (t : Bool) (v : Verdict) → Condition opens (t ≡ true) last number v → cond t (by_its_number last number) NotGenuine ≡ v
  unfolding Condition
  told true v k = numbered v refl k
  told false NotGenuine k = refl
  told false Current k = absurd (false≢true k.0)
  told false Stale k = absurd (false≢true k.0)
  told false Ahead k = absurd (false≢true k.0)

-- ---- check at a state

module _ (st : State) (slip : List ℕ) where
  abbrev At : Verdict → Type 0
  At v = Condition (check_refusal st.n slip ≡ 0) (genuine st slip ≡ true) st.last (slip_number slip) v

  opens : (v : Verdict) → At v → check_refusal st.n slip ≡ 0
  unfolding Condition
  opens NotGenuine k = k.0
  opens Current k = genuine-opens st slip k.0
  opens Stale k = genuine-opens st slip k.0
  opens Ahead k = genuine-opens st slip k.0

  verdicts : (v : Verdict) → Finds st slip v ↔ At v
  unfolding Finds checked
  verdicts v = (
    λ f. subst At (ap (λ (a : CheckAnswer). a.verdict) f) (judged _ _ _ (genuine st slip) (ap (λ (a : CheckAnswer). a.refusal) f)),
    λ k. λ j. record { refusal = opens v k j; verdict = told _ _ _ (genuine st slip) v k j },
  )

  one_of : genuine st slip ≡ true → (v : Verdict) → At v → FindsGenuine st slip
  unfolding FindsGenuine Condition
  one_of g NotGenuine k = absurd (k.1 g)
  one_of g Current k = inl ((verdicts Current).1 k)
  one_of g Stale k = inr (inl ((verdicts Stale).1 k))
  one_of g Ahead k = inr (inr ((verdicts Ahead).1 k))

  together : FindsGenuine st slip ↔ (genuine st slip ≡ true)
  unfolding FindsGenuine Condition
  together = (
    ⊎_elim (λ f. ((verdicts Current).0 f).0) (⊎_elim (λ f. ((verdicts Stale).0 f).0) (λ f. ((verdicts Ahead).0 f).0)),
    λ g. one_of g (by_its_number st.last (slip_number slip)) (found _ _ _ g),
  )

pub split : Split
split = record { together = together; verdicts = verdicts }
