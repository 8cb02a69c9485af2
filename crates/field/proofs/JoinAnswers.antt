-- What a join answers: its refusals as code finds them, and what is known where there is none. It rests on the laws of the first cause that holds
-- (`refusals`).
use mathlib.Core.Path.{◌≡◌, refl, sym, ap, ap₂, ◌∙◌}
use mathlib.Core.Bool.{Bool, true, false, cond}
use mathlib.Core.List.{List, [], ◌∷◌}
use Prim.Native.Nat.{ℕ, ◌*◌, ◌/◌, ◌%◌, ◌≤◌, ◌<◌}
use native.Mathlib.Omega.{arith}
use lib.Dec.{eqb, ltb}
use lib.ListN.{length}
use borrow.Author.Tests.{ltb-false, lt-ltb, le-ltb, eq-eqb, eqb-true}
use Rattle.std.specs.Prelude.{Option, Some, None, MatchOption}
use Rattle.std.specs.Option.{ok_or}
use Rattle.refusals.specs.Refusals.{first}
use Rattle.refusals.proofs.Laws.{first_none, first_here, first_later, first_passed, agree, agreed}
use Rattle.field.specs.declared.blocks.Block.{Block}
use Rattle.field.specs.declared.Cause.{Cause}
use Rattle.field.specs.declared.Cause.TheVariants.{TooLong}
use Rattle.field.specs.Blocks.{zero_block, block_at}
use Rattle.field.specs.Answers.{max_bytes}
use Rattle.field.specs.Clauses.{cause_number, answer_refusal}
use Rattle.field.specs.Parts.{parts_of, joined_sum, total_of, unaligned, join_refusal, JoinAnswer, joined_to, joined}
use Rattle.field.proofs.Values.{words, zero-words}
use Rattle.field.proofs.Refusals.{cause_not-0}

-- ---- the sums' byte length, as code tests it: it is 16 times the number of lengths where nothing is left over and its sixteenth is that number

pub odd-sums : {a : ℕ} (b : ℕ) → (a % 16 ≡ 0 → ⊥) → a ≡ 16 * b → ⊥
odd-sums b f e = f (omega arith)

pub wrong-sums : {a b : ℕ} → (a / 16 ≡ b → ⊥) → a ≡ 16 * b → ⊥
wrong-sums f e = f (omega arith)

-- ---- the causes

pub record Fits (h sums lengths : List ℕ) : Type 0 where
  pub key : length h ≡ 16
  pub sums-fit : length sums ≡ 16 * length lengths
  pub aligned : unaligned lengths ≡ false
  pub limit : total_of lengths ≤ max_bytes

module _ (h sums lengths : List ℕ) where
  -- where H and the sums have passed, what is left of the causes decides
  pub past-sizes : {x : ℕ} → length h ≡ 16 → length sums % 16 ≡ 0 → length sums / 16 ≡ length lengths
      → x ≡ first ((unaligned lengths, 5) ∷ (ltb max_bytes (total_of lengths), 2) ∷ []) → x ≡ join_refusal h sums lengths
  unfolding join_refusal
  past-sizes e f g i =
      let fit : length sums ≡ 16 * length lengths = omega (arith, f, g) in
      first_later _ _ _ (agree e) (first_later _ _ _ (agree fit) i)

  -- and the last of them by the total r, as code finds it
  pub by_total : (r : Option ℕ) → length h ≡ 16 → length sums % 16 ≡ 0 → length sums / 16 ≡ length lengths → unaligned lengths ≡ false
      → MatchOption r (max_bytes < total_of lengths) (λ n. (n ≡ total_of lengths) × (n ≤ max_bytes))
      → answer_refusal (ok_or r TooLong) ≡ join_refusal h sums lengths
  by_total (Some n) e f g a t =
      let limit : total_of lengths ≤ max_bytes = omega (arith, t.0, t.1) in
      past-sizes e f g (first_later _ _ _ a (first_later _ _ _ (le-ltb _ _ limit) first_none))
  by_total None e f g a t = past-sizes e f g (first_later _ _ _ a (first_here _ _ _ (lt-ltb _ _ t)))

  -- nothing is refused exactly where all fits
  pub join-fits : join_refusal h sums lengths ≡ 0 → Fits h sums lengths
  unfolding join_refusal
  join-fits e =
      let after-h = first_passed _ _ _ e (omega arith) in
      let after-sums = first_passed _ _ _ after-h.1 (omega arith) in
      let after-aligned = first_passed _ _ _ after-sums.1 (omega arith) in
      let after-total = first_passed _ _ _ after-aligned.1 (omega arith) in
      record {
        key = agreed _ _ after-h.0;
        sums-fit = agreed _ _ after-sums.0;
        aligned = after-aligned.0;
        limit = ltb-false _ _ after-total.0;
      }

  join-passes : Fits h sums lengths → join_refusal h sums lengths ≡ 0
  unfolding join_refusal
  join-passes f =
      sym (first_later _ _ _ (agree f.key) (first_later _ _ _ (agree f.sums-fit)
      (first_later _ _ _ f.aligned (first_later _ _ _ (le-ltb _ _ f.limit) first_none))))

  -- ---- the answer, by its refusal

  -- by whether there is none
  by_refusal : Bool → JoinAnswer
  by_refusal t =
      cond t (joined_to (joined_sum (block_at h 0) (parts_of sums 0 lengths)) (total_of lengths))
      (record { refusal = join_refusal h sums lengths; s = zero_block; n = 0 })

  accepted : join_refusal h sums lengths ≡ 0 → joined h sums lengths ≡ joined_to (joined_sum (block_at h 0) (parts_of sums 0 lengths)) (total_of lengths)
  unfolding joined by_refusal
  accepted e = ap by_refusal (eq-eqb _ _ e)

  pub join-fitting : Fits h sums lengths → joined h sums lengths ≡ joined_to (joined_sum (block_at h 0) (parts_of sums 0 lengths)) (total_of lengths)
  join-fitting f = accepted (join-passes f)

  -- its refusal is the refusal
  refusal_by : (t : Bool) → eqb (join_refusal h sums lengths) 0 ≡ t → (by_refusal t).refusal ≡ join_refusal h sums lengths
  unfolding by_refusal
  refusal_by true e = sym (eqb-true _ _ e)
  refusal_by false e = refl

  pub join-refusal : (joined h sums lengths).refusal ≡ join_refusal h sums lengths
  unfolding joined by_refusal
  join-refusal = refusal_by (eqb (join_refusal h sums lengths) 0) refl

  -- ---- code's answer

  pub join_refused : (cause : Cause) → cause_number cause ≡ join_refusal h sums lengths
      → ◌≡◌ {A = JoinAnswer} (record { refusal = cause_number cause; s = words 0 0; n = 0 }) (joined h sums lengths)
  unfolding joined by_refusal
  join_refused cause e =
      ap₂ (λ (m : ℕ) (b : Block). record { refusal = m; s = b; n = 0 }) e zero-words
      ∙ ap by_refusal (sym (ap (λ (m : ℕ). eqb m 0) (sym e) ∙ cause_not-0 cause))

  -- k is the block that was read of h, s the sum and n the total
  pub join_done : {k s : Block} {n : ℕ} → 0 ≡ join_refusal h sums lengths → k ≡ block_at h 0 → s ≡ joined_sum k (parts_of sums 0 lengths)
      → n ≡ total_of lengths → joined_to s n ≡ joined h sums lengths
  join_done e ek es en =
      ap₂ joined_to (es ∙ ap (λ (b : Block). joined_sum b (parts_of sums 0 lengths)) ek) en ∙ sym (accepted (sym e))
