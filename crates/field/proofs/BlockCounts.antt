-- How many blocks a number of bytes fills.
use mathlib.Core.Path.{◌≡◌, refl}
use Prim.Native.Nat.{ℕ, ◌+◌, ◌*◌, ◌/◌, ◌≤◌}
use native.Mathlib.Omega.{arith}
use Rattle.field.specs.Sums.{blocks}

-- the definition, for the layers above
pub blocks-value : (n : ℕ) → blocks n ≡ (n + 15) / 16
unfolding blocks
blocks-value n = refl

-- the blocks hold all the bytes
pub le-blocks : (n : ℕ) → n ≤ 16 * blocks n
unfolding blocks
le-blocks n = omega arith

pub blocks-mono : {n m : ℕ} → n ≤ m → blocks n ≤ blocks m
unfolding blocks
blocks-mono h = omega arith

-- whole blocks in front are counted apart from the bytes behind them
pub blocks_whole : (j n : ℕ) → blocks (16 * j + n) ≡ j + blocks n
unfolding blocks
blocks_whole j n = omega arith

pub blocks-times : (j : ℕ) → blocks (16 * j) ≡ j
unfolding blocks
blocks-times j = omega arith
