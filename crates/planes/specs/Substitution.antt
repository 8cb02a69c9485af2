-- The substitution box by its rule (FIPS 197, section 5.1.1): the inverse in the byte field, 0 to 0, and then the affine step.
use Rattle.std.specs.Prelude.{ℕ, zero, suc, ◌+◌, ◌*◌, ◌/◌, ◌%◌, ◌^◌}
use Rattle.planes.specs.ByteField.{inverse}

-- bit i of a byte, of weight 2 ^ i (3.2)
unfoldable pub bit : ℕ → ℕ → ℕ
bit b i = b / 2 ^ i % 2

-- the number with n bits f 0, f 1, .. f (n − 1), lowest first; eight of them are a byte (3.2)
unfoldable pub number_of_bits : ℕ → (ℕ → ℕ) → ℕ
number_of_bits zero f = 0
number_of_bits (suc n) f = number_of_bits n f + f n * 2 ^ n

-- bit i after the affine step (5.1.1), with the constant c = 01100011
unfoldable pub affine_bit : ℕ → ℕ → ℕ
affine_bit b i = (bit b i + bit b ((i + 4) % 8) + bit b ((i + 5) % 8) + bit b ((i + 6) % 8) + bit b ((i + 7) % 8) + bit 0x63 i) % 2

-- the affine step: the byte of the eight bits that it gives (5.1.1)
unfoldable pub affine : ℕ → ℕ
affine b = number_of_bits 8 (affine_bit b)

-- SBOX (5.1.1)
unfoldable pub sbox : ℕ → ℕ
sbox b = affine (inverse b)
