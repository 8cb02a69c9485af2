-- What joining says of known lists (`joins-met`), each sentence by the theorem (`Joins`) alone.
use mathlib.Core.Path.{◌≡◌, refl, sym, ap, ap₂, ◌∙◌}
use mathlib.Core.Bool.{Bool, ◌||◌}
use mathlib.Core.List.{List, [], ◌∷◌, ◌++◌, map-append, flatten, cons-ne-nil}
use Prim.Native.Nat.{ℕ, ◌*◌, ◌%◌, ◌≤◌}
use native.Mathlib.Omega.{arith}
use lib.ListN.{length, length-append}
use Rattle.refusals.proofs.Laws.{first_here, first_later, agree, differ}
use Rattle.field.specs.declared.blocks.Block.{Block}
use Rattle.field.specs.Blocks.{◌⊕◌, ◌•◌, zero_block, block_at, bytes_of}
use Rattle.field.specs.Sums.{sum}
use Rattle.field.specs.Ghash.{length_block, ghash}
use Rattle.field.specs.Streams.{Whole, none, last, more}
use Rattle.field.specs.Answers.{max_bytes}
use Rattle.field.specs.Parts.{join_refusal, JoinAnswer, joined_to, joined, unaligned}
use Rattle.field.specs.Joins.{sums_of, lengths_of}
use Rattle.field.specs.JoinsMet.{joined_of, JoinsMet}
use Rattle.field.proofs.BlockAt.{length-block_bytes}
use Rattle.field.proofs.Parts.{flatten_append}
use Rattle.field.proofs.JoinAnswers.{join-fits, join-refusal}
use Rattle.field.proofs.Joins.{sums-length, parts_join}

-- ---- lists of files one behind the other

sums-append : (h : Block) (a b : List (List ℕ)) → sums_of h (a ++ b) ≡ sums_of h a ++ sums_of h b
sums-append h a b = ap flatten (map-append _ a b) ∙ flatten_append _ _

lengths-append : (a b : List (List ℕ)) → lengths_of (a ++ b) ≡ lengths_of a ++ lengths_of b
lengths-append a b = map-append (λ (file : List ℕ). length file) a b

-- the files behind some of them, and those before some, are whole blocks but for the last, too
whole_tail : {t : List ℕ} {r : List (List ℕ)} → Whole (t ∷ r) → Whole r
whole_tail (last t) = none
whole_tail (more j e w) = w

whole_head : {t u : List ℕ} {r : List (List ℕ)} → Whole (t ∷ u ∷ r) → (j : ℕ) × (length t ≡ 16 * j)
whole_head (more j e w) = (j, e)

whole_behind : (a b : List (List ℕ)) → Whole (a ++ b) → Whole b
whole_behind [] b w = w
whole_behind (t ∷ a) b w = whole_behind a b (whole_tail w)

whole_before : (a b : List (List ℕ)) → Whole (a ++ b) → Whole a
whole_before [] b w = none
whole_before (t ∷ []) b w = last t
whole_before (t ∷ u ∷ a) b w =
    let here = whole_head w in
    more here.0 here.1 (whole_before (u ∷ a) b (whole_tail w))

-- ---- some of them joined first

module _ (h : List ℕ) (before : List (List ℕ)) (file : List ℕ) (rest after : List (List ℕ)) where
  abbrev k : Block
  k = block_at h 0

  abbrev inner : List (List ℕ)
  inner = file ∷ rest

  abbrev files : List (List ℕ)
  files = before ++ (inner ++ after)

  inner-short : length (flatten files) ≤ max_bytes → length (flatten inner) ≤ max_bytes
  inner-short l =
      let all = ap length (flatten_append before (inner ++ after)) ∙ length-append (flatten before) (flatten (inner ++ after)) in
      let behind = ap length (flatten_append inner after) ∙ length-append (flatten inner) (flatten after) in
      omega (arith, l, all, behind)

  module _ (key : length h ≡ 16) (w : Whole files) (l : length (flatten files) ≤ max_bytes) where
    as_all : joined_of h before file rest after ≡ joined h (sums_of k files) (lengths_of files)
    as_all =
        let ok = ap (λ (j : JoinAnswer). j.refusal)
        (parts_join.true_parts h inner key (whole_before inner after (whole_behind before (inner ++ after) w)) (inner-short l)) in
        parts_join.nested h (sums_of k before) (sums_of k inner) (sums_of k after) (lengths_of before) (lengths_of inner) (lengths_of after)
        (sums-length k before) ok (cons-ne-nil _ _)
        ∙ sym (ap₂ (joined h)
        (sums-append k before (inner ++ after) ∙ ap (◌++◌ (sums_of k before)) (sums-append k inner after))
        (lengths-append before (inner ++ after) ∙ ap (◌++◌ (lengths_of before)) (lengths-append inner after)))

    grouped-sum : joined_of h before file rest after ≡ joined_to (sum k (flatten files)) (length (flatten files))
    grouped-sum = as_all ∙ parts_join.true_parts h files key w l

    grouped-hash : let j = joined_of h before file rest after in
        (j.s ⊕ length_block j.n 0) • k ≡ ghash k (flatten files) []
    grouped-hash = ap (λ (j : JoinAnswer). (j.s ⊕ length_block j.n 0) • k) as_all ∙ parts_join.hash h files key w l

-- ---- parts of no bytes, and parts behind a broken block

empty_part : (h s₁ s₃ l₁ l₃ : List ℕ) → length s₁ ≡ 16 * length l₁
    → (joined h (s₁ ++ (bytes_of zero_block ++ s₃)) (l₁ ++ (0 ∷ l₃))).refusal ≡ 0
    → joined h (s₁ ++ (bytes_of zero_block ++ s₃)) (l₁ ++ (0 ∷ l₃)) ≡ joined h (s₁ ++ s₃) (l₁ ++ l₃)
empty_part h s₁ s₃ l₁ l₃ e ok =
    let nothing = parts_join.no_parts h (join-fits h _ _ (sym (join-refusal h _ _) ∙ ok)).key in
    let within : JoinAnswer → JoinAnswer = λ j. joined h (s₁ ++ (bytes_of j.s ++ s₃)) (l₁ ++ (j.n ∷ l₃)) in
    sym (ap within nothing)
    ∙ parts_join.nested_accepted h s₁ [] s₃ l₁ [] l₃ e (ap (λ (j : JoinAnswer). j.refusal) nothing)
    (ap (λ (j : JoinAnswer). (within j).refusal) nothing ∙ ok)

-- a first part that ends inside a block
first_broken : (h : List ℕ) (b : Block) (s l : List ℕ) (m n : ℕ) → length h ≡ 16 → length s ≡ 16 * length (n ∷ l) → (m % 16 ≡ 0 → ⊥)
    → join_refusal h (bytes_of b ++ s) (m ∷ n ∷ l) ≡ 5
unfolding join_refusal unaligned
first_broken h b s l m n key e z =
    let sizes : length (bytes_of b ++ s) ≡ 16 * length (m ∷ n ∷ l) = length-append (bytes_of b) s ∙ omega (arith, length-block_bytes b, e) in
    sym (first_later _ _ _ (agree key) (first_later _ _ _ (agree sizes) (first_here _ _ _ (ap (λ (t : Bool). t || unaligned (n ∷ l)) (differ z)))))

pub joins-met : JoinsMet
joins-met =
    record {
      grouped = λ h before file rest after key w l. (grouped-sum h before file rest after key w l, grouped-hash h before file rest after key w l);
      empty_part = empty_part;
      broken = λ h s₂ s₃ l₂ l₃ n ok some z e.
          let j = joined h s₂ l₂ in
          sym (ap (λ (x : JoinAnswer). x.refusal) (parts_join.nested h [] s₂ s₃ [] l₂ (n ∷ l₃) refl ok some))
          ∙ join-refusal h _ _
          ∙ first_broken h j.s s₃ l₃ j.n n (join-fits h s₂ l₂ (sym (join-refusal h s₂ l₂) ∙ ok)).key e z;
    }
