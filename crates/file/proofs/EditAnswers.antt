-- What an edit answers by itself, refused or not: its refusal, the length afterwards and its count; and what its count and its limit q + 2b are at most
-- by the length of its bytes alone, on which rests whoever adds up either in a word.
-- It rests on the laws of edits (`EditLaws`, `ShapeLaws`), on what one call answers (`Calls`, `Demand1`) and on field's law of widths.
use mathlib.Core.Path.{◌≡◌, sym, ap, ◌∙◌}
use mathlib.Core.Logic.{◌≢◌, ◌⊎◌, inl, inr}
use Prim.Native.Nat.{ℕ, ◌+◌, ◌%◌, ◌≤◌, ◌<◌, ◌^◌, zero-le, max}
use native.Mathlib.Nat.{eq-zero-or-pos, le_trans}
use native.Mathlib.Omega.{arith}
use lib.ListN.{length}
use Rattle.field.specs.Field.{blocks}
use Rattle.field.proofs.BlockCounts.{blocks-value}
use Rattle.field.proofs.Steps.{leading-width}
use Rattle.file.specs.declared.states.State.{State}
use Rattle.file.specs.Edits.{Edit, kind_of, place_of, given, stands_on, length_after, Geometry, geometry_at, edit_refusal, count_of, count_limit}
use Rattle.file.specs.States.{StateAnswer, put, edited}
use Rattle.file.specs.Calls.{edit, call_refusal, call_answer}
use Rattle.file.proofs.Calls.{edit-accepted}
use Rattle.file.proofs.Demand1.{demand_1, edited_kept}
use Rattle.file.proofs.EditLaws.{allowed, geometry-some, refused-geometry, refused-untouched, none-untouched, limit_kept, count-within}
use Rattle.file.proofs.ShapeLaws.{touched-blocks}

-- ---- its refusal, the length afterwards and its count, by its geometry

pub edited-refusal : (st : State) (e : Edit) → (edited st e).refusal ≡ edit_refusal st.n e
unfolding call_answer call_refusal
edited-refusal st e = demand_1.causes st (edit e)

-- of no block
none-counted : (g : Geometry) → g.q ≡ 0 → count_of g ≡ 0
unfolding count_of
none-counted g z = rw z

-- accepted, or refused, where the state is kept
edited-by : (st : State) (e : Edit) → (edit_refusal st.n e ≡ 0) ⊎ (0 < edit_refusal st.n e)
    → let g = geometry_at st.n e in
    ((edited st e).state.n ≡ g.n) × ((edited st e).count ≡ count_of g)
unfolding put
edited-by st e (inl a) = (ap (λ (x : StateAnswer). x.state.n) (edit-accepted st e a), ap (λ (x : StateAnswer). x.count) (edit-accepted st e a))
edited-by st e (inr a) =
    let z : edit_refusal st.n e ≢ 0 = λ y. omega arith in
    let kept = edited_kept st e (λ y. z (sym (edited-refusal st e) ∙ y)) in
    let untouched-n = ap (λ (g : Geometry). g.n) (refused-geometry st.n e z) in
    (ap (λ (x : State). x.n) kept.0 ∙ sym untouched-n, kept.1 ∙ sym (none-counted (geometry_at st.n e) (refused-untouched st.n e z)))

pub edited-length : (st : State) (e : Edit) → (edited st e).state.n ≡ (geometry_at st.n e).n
edited-length st e = (edited-by st e (eq-zero-or-pos (edit_refusal st.n e))).0

pub edited-count : (st : State) (e : Edit) → (edited st e).count ≡ count_of (geometry_at st.n e)
edited-count st e = (edited-by st e (eq-zero-or-pos (edit_refusal st.n e))).1

-- ---- at most

-- q + 2b of an accepted edit of at least one byte is at most 128 more than its bytes: they touch no more blocks than they are, and the counts of
-- blocks are numbers of 64 bits
pub limit-few : (n : ℕ) (e : Edit) → edit_refusal n e ≡ 0 → 0 < length (given e) → count_limit n (geometry_at n e) ≤ length (given e) + 128
unfolding count_limit
limit-few n e a z =
    let at = stands_on (kind_of e) (place_of e) (length (given e)) n in
    let after = length_after (kind_of e) (length (given e)) n in
    let most = max (blocks n) (blocks after) in
    let fits : most < 2 ^ 64 = omega (arith, (allowed n e a).bounded, limit_kept n e a, blocks-value n, blocks-value after) in
    rw (geometry-some n e a (λ y. omega arith))
    (omega (arith, touched-blocks at _ z, blocks-value (at % 16 + length (given e)), leading-width 64 most fits))

-- and so is its count
count_by : (n : ℕ) (e : Edit) → (edit_refusal n e ≡ 0) ⊎ (0 < edit_refusal n e) → (length (given e) ≡ 0) ⊎ (0 < length (given e))
    → count_of (geometry_at n e) ≤ length (given e) + 128
count_by n e (inr a) l = rw (none-counted (geometry_at n e) (refused-untouched n e (λ z. omega arith))) zero-le
count_by n e (inl a) (inl z) = rw (none-counted (geometry_at n e) (none-untouched n e a z)) zero-le
count_by n e (inl a) (inr z) = le_trans (count-within n e) (limit-few n e a z)

pub edited-few : (st : State) (e : Edit) → (edited st e).count ≤ length (given e) + 128
edited-few st e = rw (edited-count st e) (count_by st.n e (eq-zero-or-pos (edit_refusal st.n e)) (eq-zero-or-pos (length (given e))))
