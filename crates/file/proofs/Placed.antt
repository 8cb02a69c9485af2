-- How given bytes stand in the file's blocks: how many blocks they touch, the exponents of document 01's table as differences of block
-- counts, the bound on them, and the sum of bytes at a place among zero bytes.
-- Rests on field's laws of block counts (Horner) and of the sum (Sums), and on Accepted.
use mathlib.Core.Path.{◌≡◌, sym, ap, ◌∙◌}
use mathlib.Core.List.{List, ◌++◌}
use Prim.Native.Nat.{ℕ, ◌+◌, ◌-◌, ◌/◌, ◌%◌, ◌≤◌, max}
use native.Mathlib.Nat.{div-add-mod}
use native.Mathlib.Omega.{arith}
use lib.ListN.{length, replicate, length-append, length-replicate}
use Rattle.field.specs.declared.blocks.Block.{Block}
use Rattle.field.specs.Field.{◌•◌, power, sum, blocks}
use Rattle.field.proofs.BlockCounts.{blocks-value}
use Rattle.field.proofs.Sums.{sum_trailing, sum-lead}
use Rattle.file.specs.declared.geometry.Kind.{Kind}
use Rattle.file.specs.declared.geometry.Kind.TheVariants.{Change, Append, Prepend, DropFront, CutTail}
use Rattle.file.specs.Edits.{touched, exponent, length_after}
use Rattle.file.proofs.Accepted.{Accepted}

-- ---- blocks touched

-- the block after the last one that bytes touch: the blocks up to their end
last_touched : (at l : ℕ) → 1 ≤ l → (at + l - 1) / 16 + 1 ≡ blocks (at + l)
last_touched at l h = rw blocks-value (omega arith)

-- ---- exponents

-- change: the blocks after the last touched one
pub exponent-change : (p l n : ℕ) → 1 ≤ l → exponent Change p l n ≡ blocks n - blocks (p + l)
unfolding exponent
exponent-change p l n h = omega (arith, last_touched p l h)

-- drop-front: the blocks of what stays
pub exponent-drop : (p l n : ℕ) → 1 ≤ l → l % 16 ≡ 0 → l ≤ n → exponent DropFront p l n ≡ blocks (n - l)
unfolding exponent touched
exponent-drop p l n h w b = rw (blocks-value n, blocks-value (n - l)) (omega arith)

-- no exponent passes the larger of the block counts before and after
pub exponent-le : (kind : Kind) (p l n : ℕ) → exponent kind p l n ≤ max (blocks n) (blocks (length_after kind l n))
unfolding exponent length_after
exponent-le Change p l n = omega arith
exponent-le Append p l n = omega arith
exponent-le Prepend p l n = omega arith
exponent-le DropFront p l n = omega arith
exponent-le CutTail p l n = omega arith

-- there is a block before or after an accepted edit of at least one byte
pub some_block : (kind : Kind) {p l r n : ℕ} → Accepted kind p l r n → 1 ≤ l → 1 ≤ max (blocks n) (blocks (length_after kind l n))
unfolding length_after
some_block Change {p} {l} {r} {n} a h = omega (arith, blocks-value n)
some_block Append {p} {l} {r} {n} a h = omega (arith, blocks-value (n + l))
some_block Prepend {p} {l} {r} {n} a h = omega (arith, blocks-value (n + l))
some_block DropFront {p} {l} {r} {n} a h = omega (arith, blocks-value n)
some_block CutTail {p} {l} {r} {n} a h = omega (arith, blocks-value n)

-- ---- sums

-- bytes at a place in zeroed blocks: of the zero bytes in front only those in the bytes' first block count
pub sum_at : (h : Block) (at : ℕ) (w : List ℕ) → sum h (replicate at 0 ++ w) ≡ sum h (replicate (at % 16) 0 ++ w)
sum_at h at w =
    ap (λ (n : ℕ). sum h (replicate n 0 ++ w)) (sym (div-add-mod at 16)) ∙ sum-lead h (at / 16) (at % 16) w

-- and r zero bytes behind them multiply by H once for each block that they add
pub sum_amid : (h : Block) (at r : ℕ) (w : List ℕ)
    → sum h (replicate at 0 ++ w ++ replicate r 0)
    ≡ sum h (replicate (at % 16) 0 ++ w) • power h (blocks (at + length w + r) - blocks (at + length w))
sum_amid h at r w =
    let l : length (replicate at 0 ++ w) ≡ at + length w = rw (length-append, length-replicate) in
    sum_trailing h (replicate at 0 ++ w) r ∙ rw (l, sum_at h at w)
