-- How sixteen bytes stand in 64 lanes, for the cipher, which does not see the definition.
use mathlib.Core.Path.{◌≡◌, refl}
use mathlib.Core.List.{List}
use Prim.Native.Nat.{ℕ, ◌+◌, ◌*◌, ◌/◌, ◌%◌}
use native.Mathlib.Omega.{arith}
use Rattle.planes.specs.Tables.{tab, at}
use Rattle.planes.specs.Lanes.{spread}
use Rattle.planes.proofs.Tables.{get_d_tab}

pub spread_at : (s : List ℕ) (i : ℕ) → spread s i ≡ at s (i / 8 % 4 + 4 * (i % 4))
unfolding spread
spread_at s i = refl

-- where the bytes are a table
pub spread-tab : (f : ℕ → ℕ) (i : ℕ) → spread (tab 16 f) i ≡ f (i / 8 % 4 + 4 * (i % 4))
unfolding spread
spread-tab f i = get_d_tab 16 f (i / 8 % 4 + 4 * (i % 4)) 0 (omega arith)
