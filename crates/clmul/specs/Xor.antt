-- Exclusive or of numbers, bit by bit: the sum of polynomials whose coefficients are the bits (SP 800-38D, 4.2.2 and 6.3).
use Rattle.std.specs.Prelude.{ℕ, zero, suc}
use Rattle.std.specs.Int.Bits.{bit_xor}

-- exclusive or of two blocks (SP 800-38D, 4.2.2). A definition of its own, so that proofs use its laws and not the digits.
unfoldable pub xor : ℕ → ℕ → ℕ
xor a b = bit_xor a b

-- v where the bit is one, and nothing where it is zero (the choice in SP 800-38D, 6.3, step 3)
unfoldable pub only : ℕ → ℕ → ℕ
only zero v = 0
only (suc b) v = v
