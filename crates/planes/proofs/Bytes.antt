-- Facts of single bytes. A fact of one byte is computed at all 256: two functions with equal tables agree below 256.
use mathlib.Core.Path.{◌≡◌, refl}
use mathlib.Core.List.{[], ◌∷◌}
use Prim.Native.Nat.{ℕ, suc, ◌-◌, ◌<◌}
use lib.Bits.{bit_xor, xor_zero_r}
use Rattle.planes.specs.Tables.{grow, tab}
use Rattle.planes.specs.ByteField.{xor, x_times, x_power, product_of, ◌•◌, square, power_of_even, inverse}
use Rattle.planes.proofs.Tables.{at_each}

-- {02}·b and {03}·b by products by x
pub two-times : (b : ℕ) → b < 256 → 2 • b ≡ x_times b
unfolding tab grow x_times xor product_of ◌•◌
two-times b h = at_each 256 (λ b. 2 • b) x_times refl b h

pub three-times : (b : ℕ) → b < 256 → 3 • b ≡ xor (x_times b) b
unfolding tab grow x_times xor product_of ◌•◌
three-times b h = at_each 256 (λ b. 3 • b) (λ b. xor (x_times b) b) refl b h

-- the product with the inverse is one, for every byte but 0, as FIPS 197 defines the inverse (4.4)
pub inverse_rule : (b : ℕ) → b < 255 → suc b • inverse (suc b) ≡ 1
unfolding tab grow x_times xor product_of ◌•◌ square power_of_even inverse
inverse_rule b h = at_each 255 (λ b. suc b • inverse (suc b)) (λ b. 1) refl b h

pub inverse-zero : inverse 0 ≡ 0
unfolding x_times xor product_of ◌•◌ square power_of_even inverse
inverse-zero = refl

-- the constants of the key schedule are powers of x; the first is there twice
pub x_powers : tab 11 (λ j. x_power (j - 1)) ≡ 1 ∷ 0x01 ∷ 0x02 ∷ 0x04 ∷ 0x08 ∷ 0x10 ∷ 0x20 ∷ 0x40 ∷ 0x80 ∷ 0x1b ∷ 0x36 ∷ []
unfolding tab grow x_times xor x_power
x_powers = refl

-- what code adds is the sum
pub xor_is : (a b : ℕ) → bit_xor a b ≡ xor a b
unfolding xor
xor_is a b = refl

pub xor-zero : (a : ℕ) → xor a 0 ≡ a
unfolding xor
xor-zero a = xor_zero_r a
