-- Document 01's bench cases of this layer, those marked with a star, as one statement about the definitions. Its proof is in proofs/FieldBench.
use Rattle.std.specs.Prelude.{◌≡◌, [], ◌∷◌, ◌++◌, replicate}
use Rattle.field.specs.declared.blocks.Block.{Block}
use Rattle.field.specs.Blocks.{block, Small, zero_block, one, ◌•◌}
use Rattle.field.specs.Powers.{steps}
use Rattle.field.specs.Sums.{blocks}
use Rattle.field.specs.Ghash.{ghash}

-- the cases that speak of the field alone (document 01, "Bench cases")
pub record FieldBench : Type 0 where
  -- one times any block is that block
  pub one_times : (b : Block) → Small b → one • b ≡ b
  -- x times x^127
  pub x_times_top : block 0x40000000000000000000000000000000 • block 1 ≡ block 0xe1000000000000000000000000000000
  -- GHASH of nothing, any H
  pub hash_of_nothing : (h : Block) → ghash h [] [] ≡ zero_block
  -- H = one, file 01: its blocks and its hash
  pub blocks_of_one : blocks 1 ≡ 1
  pub hash_under_one : ghash one (1 ∷ []) [] ≡ block 0x01000000000000080000000000000000
  -- H = x, file fifteen 00 then 01
  pub hash_under_x :
      ghash (block 0x40000000000000000000000000000000) (replicate 15 0 ++ (1 ∷ [])) [] ≡ block 0x70800000000000400000000000000000
  -- seek steps
  pub steps_0 : steps 0 ≡ 0
  pub steps_1 : steps 1 ≡ 1
  pub steps_2 : steps 2 ≡ 2
  pub steps_5 : steps 5 ≡ 4
  pub steps_255 : steps 255 ≡ 15
  pub steps_256 : steps 256 ≡ 9
