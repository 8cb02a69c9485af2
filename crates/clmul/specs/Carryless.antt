-- Carry-less products: products of polynomials whose coefficients are 0 and 1, written as the bits of numbers. SP 800-38D (6.3) has the
-- product only together with its reduction; without it, it is the product that is taken before the remainder.
use Rattle.std.specs.Prelude.{ℕ, zero, suc, ◌*◌, ◌/◌, ◌%◌, ◌^◌}
use Rattle.clmul.specs.Xor.{xor, only}

infixl 70 ◌⊗◌
-- the product of the n low bits of x with y: the sum of y moved up by i places over all i below n where bit i of x is one
unfoldable pub carryless : ℕ → ℕ → ℕ → ℕ
carryless zero x y = 0
carryless (suc n) x y = xor (only (x / 2 ^ n % 2) (y * 2 ^ n)) (carryless n x y)

-- the product of a block's 128 bits with y
unfoldable pub ◌⊗◌ : ℕ → ℕ → ℕ
◌⊗◌ x y = carryless 128 x y

-- the sum of the first n terms
unfoldable pub total : (ℕ → ℕ) → ℕ → ℕ
total f zero = 0
total f (suc n) = xor (total f n) (f n)
