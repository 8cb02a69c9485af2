-- Powers, the companion I, and what seek counts (document 01, "Field").
use Rattle.std.specs.Prelude.{ℕ, zero, suc, ◌+◌, ◌-◌, ◌/◌, ◌^◌}
use Rattle.std.specs.Int.Count.{ones}
use Rattle.field.specs.declared.blocks.Block.{Block}
use Rattle.field.specs.Blocks.{◌•◌, one}

-- b^k; a zero power is one, of zero too (document 01, "Field")
unfoldable pub power : Block → ℕ → Block
power b zero = one
power b (suc k) = power b k • b

-- the companion I = H^(2^128 − 2) (document 01, "Field")
unfoldable pub companion : Block → Block
companion h = power h (2 ^ 128 - 2)

-- the number of binary digits of k, of which at most d are looked at; it serves the definition of width
unfoldable pub digits_within : ℕ → ℕ → ℕ
digits_within zero k = 0
digits_within (suc d) zero = 0
digits_within (suc d) (suc k) = suc (digits_within d (suc k / 2))

-- width: the number of binary digits, 0 for 0 (document 01, "Field"). A number k has no more than k digits.
unfoldable pub width : ℕ → ℕ
width k = digits_within k k

-- seek's steps: for k ≥ 1 the ones among its bits plus its width less one; for k = 0 none (document 01, "Field")
unfoldable pub steps : ℕ → ℕ
steps zero = 0
steps (suc k) = ones (suc k) + width (suc k) - 1
