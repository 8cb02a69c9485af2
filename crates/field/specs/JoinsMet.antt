-- What joining says of lists that are known: true sums of any files, some of them joined first; parts of no bytes; and parts behind a whole that ends
-- inside a block. A hypothesis added to `PartsJoin`, such as a bound on a list, would break what is said here. The proof is `joins-met` in
-- proofs/JoinsMet.
use Rattle.std.specs.Prelude.{◌≡◌, ◌≢◌, ℕ, ◌*◌, ◌%◌, ◌≤◌, length}
use mathlib.Core.List.{List, [], ◌∷◌, ◌++◌, flatten}
use Rattle.field.specs.Blocks.{◌⊕◌, ◌•◌, zero_block, block_at, bytes_of}
use Rattle.field.specs.Sums.{sum}
use Rattle.field.specs.Ghash.{length_block, ghash}
use Rattle.field.specs.Streams.{Whole}
use Rattle.field.specs.Answers.{max_bytes}
use Rattle.field.specs.Parts.{JoinAnswer, joined_to, joined}
use Rattle.field.specs.Joins.{sums_of, lengths_of}

-- a join of true sums in which some neighbouring files, one at least, are a part that was joined first (document 02, Q-6)
abbrev pub joined_of : (h : List ℕ) (before : List (List ℕ)) (file : List ℕ) (more after : List (List ℕ)) → JoinAnswer
joined_of h before file more after =
    let k = block_at h 0 in
    let j = joined h (sums_of k (file ∷ more)) (lengths_of (file ∷ more)) in
    joined h (sums_of k before ++ (bytes_of j.s ++ sums_of k after)) (lengths_of before ++ (j.n ∷ lengths_of after))

-- document 02, Q-6
pub record JoinsMet : Type 0 where
  -- it is the sum and the length of all the bytes, and their hash follows
  pub grouped :
      (h : List ℕ) (before : List (List ℕ)) (file : List ℕ) (more after : List (List ℕ))
      → let files = before ++ (file ∷ more ++ after) in
      let j = joined_of h before file more after in
      length h ≡ 16 → Whole files → length (flatten files) ≤ max_bytes
      → (j ≡ joined_to (sum (block_at h 0) (flatten files)) (length (flatten files)))
      × ((j.s ⊕ length_block j.n 0) • block_at h 0 ≡ ghash (block_at h 0) (flatten files) [])
  -- a part of no bytes weighs nothing, where the list with it is accepted
  pub empty_part :
      (h s₁ s₃ l₁ l₃ : List ℕ) → length s₁ ≡ 16 * length l₁
      → (joined h (s₁ ++ (bytes_of zero_block ++ s₃)) (l₁ ++ (0 ∷ l₃))).refusal ≡ 0
      → joined h (s₁ ++ (bytes_of zero_block ++ s₃)) (l₁ ++ (0 ∷ l₃)) ≡ joined h (s₁ ++ s₃) (l₁ ++ l₃)
  -- behind parts whose whole ends inside a block any part more is refused with 5, and one of no bytes is too
  pub broken :
      (h s₂ s₃ l₂ l₃ : List ℕ) (n : ℕ) → (joined h s₂ l₂).refusal ≡ 0 → l₂ ≢ [] → (joined h s₂ l₂).n % 16 ≢ 0
      → length s₃ ≡ 16 * length (n ∷ l₃) → (joined h (s₂ ++ s₃) (l₂ ++ (n ∷ l₃))).refusal ≡ 5
