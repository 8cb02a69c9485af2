-- Parts of one file, of which only the sums and the lengths are known, joined under one H (document 02, Q-6): part i has block i of the list of sums and
-- place i of the list of lengths.
use Rattle.std.specs.Prelude.{Bool, false, cond, not, ◌||◌, List, [], ◌∷◌, ℕ, suc, ◌+◌, ◌*◌, ◌%◌, eqb, ltb, length}
use Rattle.refusals.specs.Refusals.{first}
use Rattle.field.specs.declared.blocks.Block.{Block}
use Rattle.field.specs.Blocks.{◌⊕◌, ◌•◌, zero_block, block_at}
use Rattle.field.specs.Powers.{power}
use Rattle.field.specs.Sums.{blocks}
use Rattle.field.specs.Answers.{max_bytes}

-- ---- the sum of the whole

-- a part: its sum S and its length n (document 01, "What the controller holds")
pub record Part : Type 0 where
  pub s : Block
  pub n : ℕ

-- the parts of a list of lengths, whose sums stand from block i of the list of sums on (document 02, Q-6)
unfoldable pub parts_of : (sums : List ℕ) (i : ℕ) (lengths : List ℕ) → List Part
parts_of sums i [] = []
parts_of sums i (n ∷ lengths) = record { s = block_at sums i; n = n } ∷ parts_of sums (suc i) lengths

-- the number of blocks in some parts (document 02, Q-6)
unfoldable pub blocks_in : List Part → ℕ
blocks_in [] = 0
blocks_in (p ∷ after) = blocks p.n + blocks_in after

-- each part's sum counts times H to the number of blocks in the parts after it; no parts give the empty file's sum (document 02, Q-6)
unfoldable pub joined_sum : Block → List Part → Block
joined_sum h [] = zero_block
joined_sum h (p ∷ after) = p.s • power h (blocks_in after) ⊕ joined_sum h after

-- ---- refusals and the answer

-- the length of the whole, a whole number that never wraps (document 02, Q-6; document 01, "Causes and their numbers")
unfoldable pub total_of : (lengths : List ℕ) → ℕ
total_of [] = 0
total_of (n ∷ after) = n + total_of after

-- whether any length but the last isn't a multiple of 16 (document 02, Q-6)
unfoldable pub unaligned : (lengths : List ℕ) → Bool
unaligned [] = false
unaligned (n ∷ []) = false
unaligned (n ∷ next ∷ after) = not (eqb (n % 16) 0) || unaligned (next ∷ after)

-- 1 where h is not sixteen bytes, then 15 where the sums' byte length isn't 16 times the number of lengths, then 5 for any length but the last that
-- isn't a multiple of 16, then 2 for the total (document 02, Q-6)
unfoldable pub join_refusal : (h sums lengths : List ℕ) → ℕ
join_refusal h sums lengths =
    first
    ((not (eqb (length h) 16), 1)
    ∷ (not (eqb (length sums) (16 * length lengths)), 15)
    ∷ (unaligned lengths, 5)
    ∷ (ltb max_bytes (total_of lengths), 2)
    ∷ [])

-- what a join answers (document 02, Q-6): its refusal or 0, and the sum and the length of the whole
pub record JoinAnswer : Type 0 where
  pub refusal : ℕ
  pub s : Block
  pub n : ℕ

-- where nothing is refused (document 02, Q-6)
abbrev pub joined_to : Block → ℕ → JoinAnswer
joined_to s n = record { refusal = 0; s = s; n = n }

-- the sum and the length of the whole; where the join is refused, those of the empty file (document 02, Q-6)
unfoldable pub joined : (h sums lengths : List ℕ) → JoinAnswer
joined h sums lengths =
    cond (eqb (join_refusal h sums lengths) 0) (joined_to (joined_sum (block_at h 0) (parts_of sums 0 lengths)) (total_of lengths))
    (record { refusal = join_refusal h sums lengths; s = zero_block; n = 0 })
