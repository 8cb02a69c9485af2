-- What a record's edit adds to a forecast's bound: by the sizes of its spans, as code counts it, and how it stands to the edit's count and to its bytes.
-- They rest on the file keeper's laws of an edit's geometry (`EditLaws`, `EditAnswers`) and on the field's law of widths.
use mathlib.Core.Path.{◌≡◌, sym, ap, ap₂, ◌∙◌}
use mathlib.Core.Bool.{Bool, true, false, cond}
use mathlib.Core.Logic.{◌≢◌, ◌⊎◌, inl, inr}
use mathlib.Core.List.{List}
use Prim.Native.Nat.{ℕ, ◌+◌, ◌-◌, ◌*◌, ◌^◌, ◌≤◌, ◌<◌, zero-le, max}
use native.Mathlib.Nat.{eq-zero-or-pos}
use native.Mathlib.Omega.{arith}
use lib.Count.{count_leading_zeros}
use lib.Dec.{eqb}
use lib.ListN.{length}
use borrow.Author.Tests.{eq-eqb, ne_eqb}
use Rattle.field.specs.Field.{blocks, width}
use Rattle.field.proofs.Steps.{leading-width}
use Rattle.file.specs.declared.states.State.{State}
use Rattle.file.specs.Edits as keeper
use Rattle.file.specs.Edits.{Geometry, kind_of, place_of, given, replacing, kind_refusal, touched, geometry_at, edit_refusal, count_of, count_limit}
use Rattle.file.specs.States.{edited}
use Rattle.file.proofs.ShapeLaws.{reach, geometry-refusal}
use Rattle.file.proofs.EditLaws.{geometry-some, some-touched, none-untouched, refused-untouched, count-within}
use Rattle.file.proofs.EditAnswers.{edited-count, limit-few}
use Rattle.journal.specs.declared.records.Edit.{Edit}
use Rattle.journal.specs.declared.records.Edit.TheVariants.{Change, Append, Prepend, DropFront, CutTail}
use Rattle.journal.specs.Forecasts.{charge}
use Rattle.journal.specs.Clauses.{edit_of, InsideEdit, span_geometry}
use Rattle.journal.proofs.OpeningLaws.{length_part}

-- ---- its lengths

-- an edit does to lengths what the sizes of its spans say
pub span-geometry : (j : List ℕ) (n : ℕ) (e : Edit) → InsideEdit (length j) e → span_geometry n e ≡ geometry_at n (edit_of j e)
unfolding geometry_at kind_of place_of given replacing
span-geometry j n (Change p old new) h = rw (length_part j old.at old.size h.0, length_part j new.at new.size h.1)
span-geometry j n (Append s) h = rw (length_part j s.at s.size h)
span-geometry j n (Prepend s) h = rw (length_part j s.at s.size h)
span-geometry j n (DropFront s) h = rw (length_part j s.at s.size h)
span-geometry j n (CutTail s) h = rw (length_part j s.at s.size h)

-- ---- its charge

-- as code counts it
module _ (n : ℕ) (g : Geometry) where
  pub charge-none : g.q ≡ 0 → 0 ≡ charge n g
  unfolding charge
  charge-none z = simp (eq-eqb _ 0 z)

  pub charge-some : g.q ≢ 0 → {a b m : ℕ} → a ≡ blocks n → b ≡ blocks g.n → m ≡ max a b → m < 2 ^ 64
      → g.q + 2 * (64 - count_leading_zeros 64 m) ≡ charge n g
  unfolding charge count_limit
  charge-some z {a} {b} {m} ea eb em l =
      let same : width m ≡ width (max (blocks n) (blocks g.n)) = ap width (em ∙ ap₂ max ea eb) in
      rw (ne_eqb g.q 0 z) (omega (arith, leading-width 64 m l, same))

-- the blocks touched are so few that what is added has room in a word: an edit that is accepted reaches no further than the most bytes of a file
some-few : (n : ℕ) (e : keeper.Edit) → edit_refusal n e ≡ 0 → length (given e) ≢ 0 → (geometry_at n e).q ≤ 2 ^ 60
unfolding edit_refusal geometry_at touched
some-few n e a z =
    let accepted : kind_refusal (kind_of e) (place_of e) (length (given e)) (length (replacing e)) n ≡ 0 = sym (geometry-refusal _ _ _ _ n) ∙ a in
    omega (arith, ap (λ (g : Geometry). g.q) (geometry-some n e a z), reach (kind_of e) (place_of e) (length (given e)) (length (replacing e)) n accepted)

touched_by : (n : ℕ) (e : keeper.Edit) → (edit_refusal n e ≡ 0) ⊎ (0 < edit_refusal n e) → (length (given e) ≡ 0) ⊎ (0 < length (given e))
    → (geometry_at n e).q ≤ 2 ^ 60
touched_by n e (inr a) l = rw (refused-untouched n e (λ z. omega arith)) zero-le
touched_by n e (inl a) (inl z) = rw (none-untouched n e a z) zero-le
touched_by n e (inl a) (inr z) = some-few n e a (λ y. omega arith)

pub touched-few : (n : ℕ) (e : keeper.Edit) → (geometry_at n e).q ≤ 2 ^ 60
touched-few n e = touched_by n e (eq-zero-or-pos (edit_refusal n e)) (eq-zero-or-pos (length (given e)))

-- of an accepted edit of at least one byte, and of one of none
pub charged : (n : ℕ) (e : keeper.Edit) → edit_refusal n e ≡ 0 → length (given e) ≢ 0 → charge n (geometry_at n e) ≡ count_limit n (geometry_at n e)
unfolding charge
charged n e a z = simp (ne_eqb _ 0 (some-touched n e a z))

pub uncharged : (n : ℕ) (e : keeper.Edit) → edit_refusal n e ≡ 0 → length (given e) ≡ 0 → charge n (geometry_at n e) ≡ 0
uncharged n e a z = sym (charge-none n (geometry_at n e) (none-untouched n e a z))

-- at most 128 more than its bytes, refused or not
few_by : (n : ℕ) (e : keeper.Edit) → (edit_refusal n e ≡ 0) ⊎ (0 < edit_refusal n e) → (length (given e) ≡ 0) ⊎ (0 < length (given e))
    → charge n (geometry_at n e) ≤ length (given e) + 128
few_by n e (inr a) l = rw (← (charge-none n (geometry_at n e) (refused-untouched n e (λ z. omega arith)))) zero-le
few_by n e (inl a) (inl z) = rw (uncharged n e a z) zero-le
few_by n e (inl a) (inr z) = rw (charged n e a (λ y. omega arith)) (limit-few n e a z)

pub charge-few : (n : ℕ) (e : keeper.Edit) → charge n (geometry_at n e) ≤ length (given e) + 128
charge-few n e = few_by n e (eq-zero-or-pos (edit_refusal n e)) (eq-zero-or-pos (length (given e)))

-- at least what its call counts
covers : (t : Bool) (x y : ℕ) → cond t 0 x ≤ y → cond t 0 x ≤ cond t 0 y
covers true x y h = zero-le
covers false x y h = h

pub charge-covers : (st : State) (e : keeper.Edit) → (edited st e).count ≤ charge st.n (geometry_at st.n e)
unfolding charge count_of
charge-covers st e = rw (edited-count st e) (covers (eqb (geometry_at st.n e).q 0) _ _ (count-within st.n e))
