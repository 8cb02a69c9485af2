-- Document 02's sentences about joins (`parts_join`): true sums, and a join as a part. They rest on the laws of parts (`Parts`) and of their lengths
-- (`PartLengths`), on what a join answers (`JoinAnswers`) and on the sum of joined lists (`Sums`).
use mathlib.Core.Path.{◌≡◌, refl, sym, ap, ap₂, ◌∙◌}
use mathlib.Core.Bool.{Bool, true, false}
use mathlib.Core.Logic.{◌≢◌, ◌⊎◌, inl, inr, ⊎_map}
use mathlib.Core.List.{List, [], ◌∷◌, ◌++◌, flatten, append-nil}
use Prim.Native.Nat.{ℕ, suc, ◌+◌, ◌*◌, ◌≤◌}
use native.Mathlib.Omega.{arith}
use lib.Dec.{eqb}
use lib.ListN.{length, length-append}
use borrow.Author.Tests.{eq-eqb, ne_eqb, eqb-true, eqb-false}
use Rattle.field.specs.declared.blocks.Block.{Block}
use Rattle.field.specs.Blocks.{◌⊕◌, ◌•◌, zero_block, block_at, bytes_of}
use Rattle.field.specs.Powers.{power}
use Rattle.field.specs.Sums.{blocks, sum}
use Rattle.field.specs.Ghash.{length_block}
use Rattle.field.specs.Streams.{Whole, none, last, more}
use Rattle.field.specs.Answers.{max_bytes}
use Rattle.field.specs.Parts.{Part, parts_of, blocks_in, joined_sum, total_of, unaligned, join_refusal, JoinAnswer, joined_to, joined}
use Rattle.field.specs.Joins.{sums_of, lengths_of, PartsJoin}
use Rattle.field.proofs.Ring.{⊕-zero, •-one, small-•}
use Rattle.field.proofs.BlockAt.{length-block_bytes}
use Rattle.field.proofs.Sums.{small-sum, sum-append-power, sum_zeros}
use Rattle.field.proofs.Hash.{ghash-empty}
use Rattle.field.proofs.Parts.{joined-append, blocks_in-append, small-joined, parts-append, parts_front}
use Rattle.field.proofs.PartLengths.{total-append, aligned-cons, aligned-without, unaligned_front, total-alone, blocks-total}
use Rattle.field.proofs.JoinAnswers.{Fits, join-fits, join-fitting, join-refusal}

-- ---- true sums

pub sums-length : (h : Block) (files : List (List ℕ)) → length (sums_of h files) ≡ 16 * length (lengths_of files)
unfolding flatten
sums-length h [] = refl
sums-length h (file ∷ files) = length-append (bytes_of (sum h file)) (sums_of h files) ∙ omega (arith, length-block_bytes (sum h file), sums-length h files)

total-lengths : (files : List (List ℕ)) → total_of (lengths_of files) ≡ length (flatten files)
unfolding total_of flatten
total-lengths [] = refl
total-lengths (file ∷ files) = ap (◌+◌ (length file)) (total-lengths files) ∙ sym (length-append file (flatten files))

whole_aligned : {files : List (List ℕ)} → Whole files → unaligned (lengths_of files) ≡ false
unfolding unaligned
whole_aligned none = refl
whole_aligned (last t) = refl
whole_aligned (more j {t} {r} e w) = aligned-cons (length t) (lengths_of r) (omega arith) (whole_aligned w)

-- one part more in front
true_front : (h : Block) (file : List ℕ) (files : List (List ℕ)) → unaligned (lengths_of files) ≡ false
    → joined_sum h (parts_of (sums_of h (file ∷ files)) 0 (lengths_of (file ∷ files)))
    ≡ sum h file • power h (blocks (length (flatten files))) ⊕ joined_sum h (parts_of (sums_of h files) 0 (lengths_of files))
unfolding flatten joined_sum
true_front h file files a =
    ap (joined_sum h) (parts_front (sum h file) (length file) (sums_of h files) (lengths_of files) (small-sum h file))
    ∙ ap (λ (n : ℕ). sum h file • power h n ⊕ joined_sum h (parts_of (sums_of h files) 0 (lengths_of files)))
    (sym (blocks-total (sums_of h files) 0 (lengths_of files) a) ∙ ap blocks (total-lengths files))

-- the sum of the last part
true_last : (h : Block) (file : List ℕ) → sum h file • power h (blocks 0) ⊕ zero_block ≡ sum h (file ++ [])
unfolding power blocks
true_last h file = ⊕-zero _ (small-• _ _) ∙ •-one (sum h file) (small-sum h file) ∙ ap (sum h) (sym (append-nil file))

true_sum : (h : Block) {files : List (List ℕ)} → Whole files → joined_sum h (parts_of (sums_of h files) 0 (lengths_of files)) ≡ sum h (flatten files)
unfolding flatten
true_sum h none = unfold joined_sum parts_of in sym (sum_zeros h 0)
true_sum h (last t) = true_front h t [] (whole_aligned none) ∙ unfold joined_sum parts_of in true_last h t
true_sum h (more j {t} {r} e w) =
    true_front h t r (whole_aligned w)
    ∙ ap (◌⊕◌ (sum h t • power h (blocks (length (flatten r))))) (true_sum h w)
    ∙ sym (sum-append-power h t (flatten r) j e)

true_parts : (h : List ℕ) (files : List (List ℕ)) → length h ≡ 16 → Whole files → length (flatten files) ≤ max_bytes
    → joined h (sums_of (block_at h 0) files) (lengths_of files) ≡ joined_to (sum (block_at h 0) (flatten files)) (length (flatten files))
true_parts h files k w l =
    let fits : Fits h (sums_of (block_at h 0) files) (lengths_of files) =
    record { key = k; sums-fit = sums-length (block_at h 0) files; aligned = whole_aligned w; limit = rw total-lengths l } in
    join-fitting h (sums_of (block_at h 0) files) (lengths_of files) fits ∙ ap₂ joined_to (true_sum (block_at h 0) w) (total-lengths files)

-- ---- a join as a part

-- the answer rests on four things
same_answer : (h s t l m : List ℕ) → eqb (length s) (16 * length l) ≡ eqb (length t) (16 * length m) → unaligned l ≡ unaligned m
    → total_of l ≡ total_of m → joined_sum (block_at h 0) (parts_of s 0 l) ≡ joined_sum (block_at h 0) (parts_of t 0 m) → joined h s l ≡ joined h t m
unfolding joined join_refusal
same_answer h s t l m e f g j = rw (e, f, g, j)

eqb_same : (a b c d : ℕ) → (a ≡ b → c ≡ d) → (c ≡ d → a ≡ b) → (t : Bool) → eqb a b ≡ t → t ≡ eqb c d
eqb_same a b c d f g true e = sym (eq-eqb c d (f (eqb-true a b e)))
eqb_same a b c d f g false e = sym (ne_eqb c d (λ x. eqb-false a b e (g x)))

-- a list of sums and lengths with the join of the second lists in their place
module _ (h s₁ s₂ s₃ l₁ l₂ l₃ : List ℕ) (e : length s₁ ≡ 16 * length l₁) (fits : Fits h s₂ l₂) where
  abbrev k : Block
  k = block_at h 0

  abbrev whole : Block
  whole = joined_sum k (parts_of s₂ 0 l₂)

  abbrev s' : List ℕ
  s' = s₁ ++ (bytes_of whole ++ s₃)

  abbrev l' : List ℕ
  l' = l₁ ++ (total_of l₂ ∷ l₃)

  nested-sum : joined_sum k (parts_of s' 0 l') ≡ joined_sum k (parts_of (s₁ ++ (s₂ ++ s₃)) 0 (l₁ ++ (l₂ ++ l₃)))
  nested-sum =
      let p₁ = parts_of s₁ 0 l₁ in
      let p₂ = parts_of s₂ 0 l₂ in
      let p₃ = parts_of s₃ 0 l₃ in
      let p : Part = record { s = whole; n = total_of l₂ } in
      let blocks-same : blocks_in (p ∷ p₃) ≡ blocks_in (p₂ ++ p₃) =
      unfold blocks_in in ap (λ (x : ℕ). x + blocks_in p₃) (blocks-total s₂ 0 l₂ fits.aligned) ∙ sym (blocks_in-append p₂ p₃) in
      let sum_same : joined_sum k (p ∷ p₃) ≡ joined_sum k (p₂ ++ p₃) = unfold joined_sum in sym (joined-append k p₂ p₃) in
      ap (joined_sum k)
      (parts-append s₁ (bytes_of whole ++ s₃) l₁ (total_of l₂ ∷ l₃) e
      ∙ ap (◌++◌ p₁) (parts_front whole (total_of l₂) s₃ l₃ (small-joined k p₂)))
      ∙ joined-append k p₁ (p ∷ p₃)
      ∙ ap₂ (λ (x : ℕ) (b : Block). joined_sum k p₁ • power k x ⊕ b) blocks-same sum_same
      ∙ sym (joined-append k p₁ (p₂ ++ p₃))
      ∙ ap (joined_sum k)
      (sym (parts-append s₁ (s₂ ++ s₃) l₁ (l₂ ++ l₃) e ∙ ap (◌++◌ p₁) (parts-append s₂ s₃ l₂ l₃ fits.sums-fit)))

  nested-total : total_of l' ≡ total_of (l₁ ++ (l₂ ++ l₃))
  nested-total =
      let t : total_of (total_of l₂ ∷ l₃) ≡ total_of l₂ + total_of l₃ = unfold total_of in refl in
      omega (arith, total-append l₁ (total_of l₂ ∷ l₃), t, total-append l₁ (l₂ ++ l₃), total-append l₂ l₃)

  nested-sizes : eqb (length s') (16 * length l') ≡ eqb (length (s₁ ++ (s₂ ++ s₃))) (16 * length (l₁ ++ (l₂ ++ l₃)))
  nested-sizes =
      let a : length s' ≡ length s₁ + (16 + length s₃) = rw (length-append, length-append, length-block_bytes) in
      let b : length l' ≡ length l₁ + suc (length l₃) = rw length-append in
      let c : length (s₁ ++ (s₂ ++ s₃)) ≡ length s₁ + (length s₂ + length s₃) = rw (length-append, length-append) in
      let d : length (l₁ ++ (l₂ ++ l₃)) ≡ length l₁ + (length l₂ + length l₃) = rw (length-append, length-append) in
      eqb_same (length s') (16 * length l') (length (s₁ ++ (s₂ ++ s₃))) (16 * length (l₁ ++ (l₂ ++ l₃)))
      (λ x. omega (arith, x, a, b, c, d, fits.sums-fit)) (λ x. omega (arith, x, a, b, c, d, fits.sums-fit)) _ refl

  nested-answer : unaligned l' ≡ unaligned (l₁ ++ (l₂ ++ l₃)) → joined h s' l' ≡ joined h (s₁ ++ (s₂ ++ s₃)) (l₁ ++ (l₂ ++ l₃))
  nested-answer f = same_answer h s' (s₁ ++ (s₂ ++ s₃)) l' (l₁ ++ (l₂ ++ l₃)) nested-sizes f nested-total nested-sum

nested-aligned : (l₁ l₂ l₃ : List ℕ) → unaligned l₂ ≡ false → (l₂ ≢ []) ⊎ (unaligned (l₁ ++ (total_of l₂ ∷ l₃)) ≡ false)
    → unaligned (l₁ ++ (total_of l₂ ∷ l₃)) ≡ unaligned (l₁ ++ (l₂ ++ l₃))
nested-aligned l₁ [] l₃ e (inl f) = absurd (f refl)
nested-aligned l₁ [] l₃ e (inr f) = f ∙ sym (aligned-without l₁ _ l₃ f)
nested-aligned l₁ (n ∷ l₂) l₃ e f = unaligned_front l₁ _ n l₃ (l₂ ++ l₃) (total-alone n l₂ l₃ e)

-- a list that isn't empty, or any where the list with its join is accepted
nested-either : (h s₁ s₂ s₃ l₁ l₂ l₃ : List ℕ) → length s₁ ≡ 16 * length l₁ → (joined h s₂ l₂).refusal ≡ 0
    → (l₂ ≢ []) ⊎ ((joined h (s₁ ++ (bytes_of (joined h s₂ l₂).s ++ s₃)) (l₁ ++ ((joined h s₂ l₂).n ∷ l₃))).refusal ≡ 0)
    → joined h (s₁ ++ (bytes_of (joined h s₂ l₂).s ++ s₃)) (l₁ ++ ((joined h s₂ l₂).n ∷ l₃)) ≡ joined h (s₁ ++ (s₂ ++ s₃)) (l₁ ++ (l₂ ++ l₃))
nested-either h s₁ s₂ s₃ l₁ l₂ l₃ e ok which =
    let fits = join-fits h s₂ l₂ (sym (join-refusal h s₂ l₂) ∙ ok) in
    let within : JoinAnswer → JoinAnswer = λ j. joined h (s₁ ++ (bytes_of j.s ++ s₃)) (l₁ ++ (j.n ∷ l₃)) in
    let is = ap within (join-fitting h s₂ l₂ fits) in
    is
    ∙ nested-answer h s₁ s₂ s₃ l₁ l₂ l₃ e fits
    (nested-aligned l₁ l₂ l₃ fits.aligned
    (⊎_map (λ some. some) (λ r. (join-fits h _ _ (sym (join-refusal h _ _) ∙ ap (λ (j : JoinAnswer). j.refusal) (sym is) ∙ r)).aligned) which))

-- ---- document 02's sentences

pub parts_join : PartsJoin
parts_join =
    record {
      no_parts = λ h k.
          unfold flatten in true_parts h [] k none (omega arith)
          ∙ unfold flatten in ap (λ (b : Block). joined_to b 0) (sum_zeros (block_at h 0) 0);
      true_parts = true_parts;
      hash = λ h files k w l.
          ap (λ (j : JoinAnswer). (j.s ⊕ length_block j.n 0) • block_at h 0) (true_parts h files k w l)
          ∙ sym (ghash-empty (block_at h 0) (flatten files) l);
      nested = λ h s₁ s₂ s₃ l₁ l₂ l₃ e ok some. nested-either h s₁ s₂ s₃ l₁ l₂ l₃ e ok (inl some);
      nested_accepted = λ h s₁ s₂ s₃ l₁ l₂ l₃ e ok there. nested-either h s₁ s₂ s₃ l₁ l₂ l₃ e ok (inr there);
    }
