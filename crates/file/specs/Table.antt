-- The table of edits, row by row (document 01, "The file and its five edits"): the new sum from S, W, H, I and k.
use Rattle.std.specs.Prelude.{List, ◌++◌, ℕ, replicate}
use Rattle.file.specs.declared.geometry.Kind.{Kind}
use Rattle.file.specs.declared.geometry.Kind.TheVariants.{Change, Append, Prepend, DropFront, CutTail}
use Rattle.field.specs.declared.blocks.Block.{Block}
use Rattle.field.specs.Field.{◌⊕◌, ◌•◌, power, sum, xor_bytes}

-- W (document 01, "The file and its five edits"): the sum of the given bytes, of a change old + new, at their places in zeroed blocks,
-- counted to the last touched block
unfoldable pub placed_sum : Block → (lead : ℕ) → (given replacing : List ℕ) → Block
placed_sum h lead given replacing = sum h (replicate lead 0 ++ xor_bytes given replacing)

-- the new sum, a clause for each row of the table (document 01, "The file and its five edits")
unfoldable pub new_sum : Kind → (h i s w : Block) → ℕ → Block
new_sum Change h i s w k = s ⊕ w • power h k
new_sum Append h i s w k = s • power h k ⊕ w
new_sum Prepend h i s w k = s ⊕ w • power h k
new_sum DropFront h i s w k = s ⊕ w • power h k
new_sum CutTail h i s w k = (s ⊕ w) • power i k
