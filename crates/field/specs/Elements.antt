-- The product of two blocks, as Algorithm 1 of NIST SP 800-38D (section 6.3) has it.
-- A block's 128 bits are read as a number below 2 ^ 128, the leftmost bit of weight 2 ^ 127; that bit is the coefficient of x^0.
use Rattle.std.specs.Prelude.{ℕ, zero, suc, ◌-◌, ◌*◌, ◌/◌, ◌%◌, ◌^◌}
use Rattle.clmul.specs.Xor.{xor, only}

-- bit i of x, counted from the left (6.3, step 1)
unfoldable pub bit : ℕ → ℕ → ℕ
bit x i = x / 2 ^ (127 - i) % 2

-- R = 11100001 followed by 120 zeros (6.3)
unfoldable pub R : ℕ
R = 0xe1 * 2 ^ 120

-- V after one step (6.3, step 3): shifted right, and R added where the bit shifted out was a one
unfoldable pub shifted : ℕ → ℕ
shifted v = xor (only (v % 2) R) (v / 2)

-- V_i (6.3, steps 2 and 3): V_0 = Y
unfoldable pub Vᵢ : ℕ → ℕ → ℕ
Vᵢ y zero = y
Vᵢ y (suc i) = shifted (Vᵢ y i)

-- Z_i (6.3, steps 2 and 3): Z_0 = 0, and Z_(i+1) is Z_i with V_i added where x_i is one
unfoldable pub Zᵢ : ℕ → ℕ → ℕ → ℕ
Zᵢ x y zero = 0
Zᵢ x y (suc i) = xor (only (bit x i) (Vᵢ y i)) (Zᵢ x y i)

-- X • Y = Z_128 (6.3, step 4)
unfoldable pub times : ℕ → ℕ → ℕ
times x y = Zᵢ x y 128
