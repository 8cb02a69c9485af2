-- The finite field of bytes, GF(2^8) (FIPS 197, section 4). A byte is a number below 256; its bit i, of weight 2 ^ i, is the coefficient
-- of x^i.
use Rattle.std.specs.Prelude.{ℕ, zero, suc, ◌*◌, ◌/◌, ◌%◌}
use Rattle.std.specs.Int.Bits.{bit_xor}

infixl 70 ◌•◌
-- addition: exclusive or (4.1). A definition of its own, so that proofs use its laws and not the digits.
unfoldable pub xor : ℕ → ℕ → ℕ
xor a b = bit_xor a b

-- v where the bit is one, and nothing where it is zero (the choice in XTIMES and in the product, 4.2)
abbrev pub only : ℕ → ℕ → ℕ
only zero v = 0
only (suc b) v = v

-- XTIMES: b times x, modulo x^8 + x^4 + x^3 + x + 1 (4.2)
unfoldable pub x_times : ℕ → ℕ
x_times b = xor (only (b / 128) 0x1b) (b * 2 % 256)

-- x^n, of which the constants of the key schedule are made (5.2)
unfoldable pub x_power : ℕ → ℕ
x_power zero = 1
x_power (suc n) = x_times (x_power n)

-- the sum of b·x^i over the ones among the lowest n bits i of c (4.2)
unfoldable pub product_of : ℕ → ℕ → ℕ → ℕ
product_of zero b c = 0
product_of (suc n) b c = xor (only (c % 2) b) (product_of n (x_times b) (c / 2))

-- the product of two bytes (4.2)
unfoldable pub ◌•◌ : ℕ → ℕ → ℕ
◌•◌ b c = product_of 8 b c

-- b^2, of which the inverse is made (4.4)
unfoldable pub square : ℕ → ℕ
square b = b • b

-- b^(2 + 4 + .. + 2^n): b^2, times the same power of b^2 with one term less; it serves the definition of inverse (4.4)
unfoldable pub power_of_even : ℕ → ℕ → ℕ
power_of_even zero b = 1
power_of_even (suc n) b = square b • power_of_even n (square b)

-- the multiplicative inverse, b^254 (4.4), with 0 to 0 (5.1.1); 254 = 2 + 4 + .. + 2^7
unfoldable pub inverse : ℕ → ℕ
inverse b = power_of_even 7 b
