-- `clmul::halves::low_product` meets its contract. A product of two halves is a word (`WordLaws`).
use mathlib.Core.Path.{ap₂}
use Prim.Native.Nat.{ℕ, ◌*◌}
use native.Mathlib.Nat.{mod-lt}
use lib.Pow.{pow_pos}
use Rattle.clmul.proofs.WordLaws.{low_half, halves-fit}
use Rattle.clmul.proofs.halves.low_product.Goals as goal

pub overflow_mul-result : goal.overflow_mul-result
overflow_mul-result c = record { fits = rw (low_half c.args.x, low_half c.args.y) (halves-fit _ _ (mod-lt _ (pow_pos 32)) (mod-lt _ (pow_pos 32))) }

pub returns : goal.returns
returns c = ap₂ (λ (u v : ℕ). u * v) (low_half c.args.x) (low_half c.args.y)
