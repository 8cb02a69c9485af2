-- The public calls' answers (document 01, "Causes and their numbers"): their refusals in their order, and what a call leaves in
-- its output.
use Rattle.std.specs.Prelude.{cond, not, List, [], ◌∷◌, ℕ, ◌-◌, ◌^◌, length, eqb, ltb}
use Rattle.refusals.specs.Refusals.{first}
use Rattle.field.specs.Blocks.{◌•◌, block_at, bytes_of}
use Rattle.field.specs.Ghash.{ghash}

-- the most bytes that GHASH takes of each input: the number of their bits has 64 bits (document 01, "Causes and their numbers", 2)
abbrev pub max_bytes : ℕ
max_bytes = 2 ^ 61 - 1

-- the block call: 1 where a or b is not sixteen bytes, then 7 where the output is not (document 01, "Causes and their numbers")
unfoldable pub multiply_refusal : (a b out : List ℕ) → ℕ
multiply_refusal a b out =
    first ((not (eqb (length a) 16), 1) ∷ (not (eqb (length b) 16), 1) ∷ (not (eqb (length out) 16), 7) ∷ [])

-- what it leaves in the output: the product's sixteen bytes, or on a refusal what stood there (document 01, "Causes and their numbers")
unfoldable pub multiply_output : (a b out : List ℕ) → List ℕ
multiply_output a b out = cond (eqb (multiply_refusal a b out) 0) (bytes_of (block_at a 0 • block_at b 0)) out

-- GHASH: 1 where h is not sixteen bytes, then 7 where the output is not, then 2 where a or c passes 2^61 − 1 bytes
-- (document 01, "Causes and their numbers")
unfoldable pub ghash_refusal : (h a c out : List ℕ) → ℕ
ghash_refusal h a c out =
    first
    ((not (eqb (length h) 16), 1)
    ∷ (not (eqb (length out) 16), 7)
    ∷ (ltb max_bytes (length a), 2)
    ∷ (ltb max_bytes (length c), 2)
    ∷ [])

-- what it leaves in the output: the hash's sixteen bytes, or on a refusal what stood there (document 01, "Causes and their numbers")
unfoldable pub ghash_output : (h a c out : List ℕ) → List ℕ
ghash_output h a c out = cond (eqb (ghash_refusal h a c out) 0) (bytes_of (ghash (block_at h 0) a c)) out
