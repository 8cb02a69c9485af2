-- The laws of powers of blocks: powers are small, exponents add and multiply, and the power of a product is the product of powers.
-- They are unconditional but for the first power, which gives a small block back. Rests on Ring.
use mathlib.Core.Path.{◌≡◌, refl, sym, ap, ap₂, ◌∙◌}
use Prim.Native.Nat.{ℕ, zero, suc, ◌+◌, ◌*◌}
use native.Mathlib.Nat.{add-zero, add-suc, mul-zero, mul-suc}
use native.Mathlib.Omega.{arith}
use Rattle.field.specs.declared.blocks.Block.{Block}
use Rattle.field.specs.Blocks.{Small, one, ◌•◌}
use Rattle.field.specs.Powers.{power, companion}
use Rattle.field.proofs.Values.{small_one}
use Rattle.field.proofs.Ring.{•-assoc, •-swap, •-one, one-•, small-•}

pub power_zero : (b : Block) → power b 0 ≡ one
unfolding power
power_zero b = refl

pub power-suc : (b : Block) (k : ℕ) → power b (suc k) ≡ power b k • b
unfolding power
power-suc b k = refl

pub small_power : (b : Block) (k : ℕ) → Small (power b k)
unfolding power
small_power b zero = small_one
small_power b (suc k) = small-• _ _

pub small-companion : (h : Block) → Small (companion h)
unfolding companion
small-companion h = small_power h _

pub power-one : (b : Block) → Small b → power b 1 ≡ b
power-one b s = power-suc b 0 ∙ ap (λ (c : Block). c • b) (power_zero b) ∙ one-• b s

pub power-add : (b : Block) (j k : ℕ) → power b (j + k) ≡ power b j • power b k
power-add b j zero = ap (power b) (add-zero j) ∙ sym (ap (◌•◌ (power b j)) (power_zero b) ∙ •-one _ (small_power b j))
power-add b j (suc k) =
    ap (power b) (add-suc j k) ∙ power-suc b (j + k) ∙ ap (λ (c : Block). c • b) (power-add b j k) ∙ •-assoc _ _ _
    ∙ ap (◌•◌ (power b j)) (sym (power-suc b k))

pub power-mul : (b : Block) (j k : ℕ) → power b (j * k) ≡ power (power b j) k
power-mul b j zero = ap (power b) (mul-zero j) ∙ power_zero b ∙ sym (power_zero (power b j))
power-mul b j (suc k) =
    ap (power b) (mul-suc j k) ∙ power-add b (j * k) j ∙ ap (λ (c : Block). c • power b j) (power-mul b j k) ∙ sym (power-suc (power b j) k)

pub power_of_product : (a b : Block) (k : ℕ) → power (a • b) k ≡ power a k • power b k
power_of_product a b zero = power_zero (a • b) ∙ sym (ap₂ ◌•◌ (power_zero a) (power_zero b) ∙ one-• one small_one)
power_of_product a b (suc k) =
    power-suc (a • b) k ∙ ap (λ (c : Block). c • (a • b)) (power_of_product a b k) ∙ •-swap _ _ a b
    ∙ sym (ap₂ ◌•◌ (power-suc a k) (power-suc b k))

-- the power of a square
pub power-square : (b : Block) (k : ℕ) → power (b • b) k ≡ power b (2 * k)
power-square b k = power_of_product b b k ∙ sym (power-add b k k) ∙ ap (power b) (omega arith)
