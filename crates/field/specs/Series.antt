-- The sum of a blank file, one whose bytes are all the same, found without reading a byte (document 02, Q-4).
use Rattle.std.specs.Prelude.{◌≡◌, Bool, cond, ◌||◌, ◌⊎◌, ℕ, zero, suc, ◌+◌, ◌-◌, ◌*◌, eqb, replicate}
use Rattle.std.specs.Int.Count.{ones}
use Rattle.field.specs.declared.blocks.Block.{Block}
use Rattle.field.specs.Blocks.{◌⊕◌, ◌•◌, zero_block, block_at}
use Rattle.field.specs.Powers.{power, width}
use Rattle.field.specs.Sums.{blocks, sum}

-- G for k = m − 1: the sum of H^0 to H^(k − 1), zero for k = 0 (document 02, Q-4)
unfoldable pub series : Block → ℕ → Block
series h zero = zero_block
series h (suc k) = series h k ⊕ power h k

-- the products that build it: two for each binary digit of k after the highest, and two more for each one among those (document 02, Q-4); for
-- k = 0 there is none, as - stops at 0
unfoldable pub series_steps : ℕ → ℕ
series_steps k = 2 * (width k - 1) + 2 * (ones k - 1)

-- F: a block of fill bytes (document 02, Q-4)
unfoldable pub fill_block : ℕ → Block
fill_block fill = block_at (replicate 16 fill) 0

-- the last block of n fill bytes; a partial one counts as padded (document 02, Q-4)
unfoldable pub final_block : (fill n : ℕ) → Block
final_block fill n = block_at (replicate n fill) (blocks n - 1)

-- where nothing is multiplied: n = 0, or fill 0 (document 02, Q-4)
unfoldable pub unfilled : (fill n : ℕ) → Bool
unfilled fill n = eqb n 0 || eqb fill 0

-- the sum of a blank file: H·(F·H·G + last block); zero for n = 0 and for fill 0 (document 02, Q-4)
unfoldable pub blank_sum : Block → (fill n : ℕ) → Block
blank_sum h fill n = cond (unfilled fill n) zero_block (h • (fill_block fill • h • series h (blocks n - 1) ⊕ final_block fill n))

-- its multiplications: those of G, and three; 0 for n = 0 and for fill 0 (document 02, Q-4)
unfoldable pub blank_count : (fill n : ℕ) → ℕ
blank_count fill n = cond (unfilled fill n) 0 (series_steps (blocks n - 1) + 3)

-- what the two say (document 02, Q-4)
pub record BlankSum : Type 0 where
  -- the sum is that of n fill bytes, for every H, zero included
  pub sums : (h : Block) (fill n : ℕ) → blank_sum h fill n ≡ sum h (replicate n fill)
  -- for n = 0 and for fill 0 it is zero, and the count 0
  pub nothing : (h : Block) (fill n : ℕ) → (n ≡ 0) ⊎ (fill ≡ 0) → (blank_sum h fill n ≡ zero_block) × (blank_count fill n ≡ 0)
  -- the counts of one, of three and of four blocks of FF: m − 1 is 0, 10 and 11 in binary
  pub one_block : blank_count 0xff 16 ≡ 3
  pub three_blocks : blank_count 0xff 40 ≡ 5
  pub four_blocks : blank_count 0xff 64 ≡ 7
