-- What joining parts says (document 02, Q-6), over the definitions of `Parts`. Its proof is `parts_join` in proofs/Joins.
use Rattle.std.specs.Prelude.{◌≡◌, ◌≢◌, ℕ, ◌*◌, ◌≤◌, length}
use mathlib.Core.List.{List, [], ◌∷◌, ◌++◌, map, flatten}
use Rattle.field.specs.declared.blocks.Block.{Block}
use Rattle.field.specs.Blocks.{◌⊕◌, ◌•◌, zero_block, block_at, bytes_of}
use Rattle.field.specs.Sums.{sum}
use Rattle.field.specs.Ghash.{length_block, ghash}
use Rattle.field.specs.Streams.{Whole}
use Rattle.field.specs.Answers.{max_bytes}
use Rattle.field.specs.Parts.{joined_to, joined}

-- the true sums of some files under H, sixteen bytes each, one behind the other (document 02, Q-6)
abbrev pub sums_of : Block → (files : List (List ℕ)) → List ℕ
sums_of h files = flatten (map (λ (file : List ℕ). bytes_of (sum h file)) files)

-- and their lengths (document 02, Q-6)
abbrev pub lengths_of : (files : List (List ℕ)) → List ℕ
lengths_of files = map (λ (file : List ℕ). length file) files

-- document 02, Q-6, sentence by sentence
pub record PartsJoin : Type 0 where
  -- no parts give the empty file
  pub no_parts : (h : List ℕ) → length h ≡ 16 → joined h [] [] ≡ joined_to zero_block 0
  -- for true sums the answer is the sum of the joined bytes and their length
  pub true_parts :
      (h : List ℕ) (files : List (List ℕ)) → length h ≡ 16 → Whole files → length (flatten files) ≤ max_bytes
      → joined h (sums_of (block_at h 0) files) (lengths_of files) ≡ joined_to (sum (block_at h 0) (flatten files)) (length (flatten files))
  -- so GHASH of the joined bytes follows from it
  pub hash :
      (h : List ℕ) (files : List (List ℕ)) → length h ≡ 16 → Whole files → length (flatten files) ≤ max_bytes
      → let j = joined h (sums_of (block_at h 0) files) (lengths_of files) in
      (j.s ⊕ length_block j.n 0) • block_at h 0 ≡ ghash (block_at h 0) (flatten files) []
  -- a joined whole may itself be a part, at any place of the list: joining the list in which it is one gives what joining all the parts gives, for true
  -- sums or not, refused or not
  pub nested :
      (h s₁ s₂ s₃ l₁ l₂ l₃ : List ℕ) → length s₁ ≡ 16 * length l₁ → (joined h s₂ l₂).refusal ≡ 0 → l₂ ≢ []
      → let j = joined h s₂ l₂ in
      joined h (s₁ ++ (bytes_of j.s ++ s₃)) (l₁ ++ (j.n ∷ l₃)) ≡ joined h (s₁ ++ (s₂ ++ s₃)) (l₁ ++ (l₂ ++ l₃))
  -- the join of no parts too, where the list with it is accepted: behind a last part that isn't whole blocks it would make that one no longer the last
  pub nested_accepted :
      (h s₁ s₂ s₃ l₁ l₂ l₃ : List ℕ) → length s₁ ≡ 16 * length l₁ → (joined h s₂ l₂).refusal ≡ 0
      → let j = joined h s₂ l₂ in
      (joined h (s₁ ++ (bytes_of j.s ++ s₃)) (l₁ ++ (j.n ∷ l₃))).refusal ≡ 0
      → joined h (s₁ ++ (bytes_of j.s ++ s₃)) (l₁ ++ (j.n ∷ l₃)) ≡ joined h (s₁ ++ (s₂ ++ s₃)) (l₁ ++ (l₂ ++ l₃))
