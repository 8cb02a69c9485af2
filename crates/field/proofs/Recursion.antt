-- Algorithm 1's Z equals a recursion over the bits of one argument from the left (`times-mul`), and the laws of that
-- recursion for any number of bits: bound, additive in each argument, one step of `shifted`, and what one does on each side.
-- Rests on Xor and on the laws of `shifted` in Span.
use mathlib.Core.Path.{◌≡◌, refl, sym, ap, ap₂, ◌∙◌}
use Prim.Native.Nat.{ℕ, zero, suc, ◌+◌, ◌-◌, ◌/◌, ◌%◌, ◌^◌, ◌<◌}
use native.Mathlib.Nat.{mod-lt, mod-one, zero-div}
use native.Mathlib.Numerals.{one-add}
use native.Mathlib.Omega.{arith}
use lib.Pow.{pow_pos, mod-pow-add}
use Rattle.clmul.specs.Xor.{xor, only}
use Rattle.field.specs.Elements.{bit, shifted, Vᵢ, Zᵢ, times}
use Rattle.clmul.proofs.Xor.{xor_zero_l, xor_zero_r, xor-odd, xor_shr, xor_lt, xor-add, xor-swap, xors}
use Rattle.clmul.proofs.Xor.{only-off, only_zero, only_on, only-map, only-mul, only-lt, only-xor, only-xor-digit, odd-lt}
use Rattle.field.proofs.Span.{shifted-zero, shifted-xor, shifted-lt, shifted-power}

-- the n low bits of x, from the left, each with v as often shifted as it stands to the right
unfoldable pub mul : ℕ → ℕ → ℕ → ℕ
mul zero x v = 0
mul (suc n) x v = xor (only (x / 2 ^ n % 2) v) (mul n x (shifted v))

-- no bits, no sum
mul-none : (x v : ℕ) → mul 0 x v ≡ 0
unfolding mul
mul-none x v = refl

-- one step of Algorithm 1 moves one bit from the recursion to Z
one-step : (x y n i : ℕ) → n ≡ 127 - i → xor (Zᵢ x y i) (mul (suc n) x (Vᵢ y i)) ≡ xor (Zᵢ x y (suc i)) (mul n x (Vᵢ y (suc i)))
unfolding mul Zᵢ Vᵢ bit
one-step x y n i e = ap (λ (k : ℕ). xor (Zᵢ x y i) (xor (only (x / 2 ^ k % 2) (Vᵢ y i)) (mul n x (shifted (Vᵢ y i))))) e ∙ move _ _ _
  where
    move : (a b c : ℕ) → xor a (xor b c) ≡ xor (xor b a) c
    move a b c = simp xors

-- what Algorithm 1 has after i steps, and what the recursion adds from there, is Algorithm 1's result
steps : (x y n i : ℕ) → i + n ≡ 128 → xor (Zᵢ x y i) (mul n x (Vᵢ y i)) ≡ Zᵢ x y 128
steps x y zero i e = ap (xor (Zᵢ x y i)) (mul-none x (Vᵢ y i)) ∙ xor_zero_r _ ∙ ap (Zᵢ x y) (omega arith)
steps x y (suc n) i e = one-step x y n i (omega arith) ∙ steps x y n (suc i) (omega arith)

-- the product of Algorithm 1 as the recursion
pub times-mul : (x y : ℕ) → times x y ≡ mul 128 x y
unfolding times Zᵢ Vᵢ
times-mul x y = sym (steps x y 128 0 refl) ∙ xor_zero_l _

-- its laws for any number of bits: additive in each argument, shifted, bounded

pub mul-zero_l : (n v : ℕ) → mul n 0 v ≡ 0
unfolding mul
mul-zero_l zero v = refl
mul-zero_l (suc n) v = simp (zero-div, mul-zero_l n (shifted v), only-off, xor_zero_l)

pub mul-zero_r : (n x : ℕ) → mul n x 0 ≡ 0
unfolding mul
mul-zero_r zero x = refl
mul-zero_r (suc n) x = simp (only_zero, shifted-zero, mul-zero_r n x, xor_zero_l)

pub mul-xor_l : (n x y v : ℕ) → mul n (xor x y) v ≡ xor (mul n x v) (mul n y v)
unfolding mul
mul-xor_l zero x y v = sym (xor_zero_l 0)
mul-xor_l (suc n) x y v =
    ap₂ xor (ap (λ (b : ℕ). only b v) (ap (λ (w : ℕ). w % 2) (xor_shr n x y) ∙ xor-odd _ _) ∙ only-xor-digit _ _ v (odd-lt _) (odd-lt _))
    (mul-xor_l n x y (shifted v))
    ∙ xor-swap _ _ _ _

pub mul-xor_r : (n x u v : ℕ) → mul n x (xor u v) ≡ xor (mul n x u) (mul n x v)
unfolding mul
mul-xor_r zero x u v = sym (xor_zero_l 0)
mul-xor_r (suc n) x u v = rw (only-xor (x / 2 ^ n % 2) u v, shifted-xor u v, mul-xor_r n x (shifted u) (shifted v)) (xor-swap _ _ _ _)

pub mul-shifted : (n x v : ℕ) → mul n x (shifted v) ≡ shifted (mul n x v)
unfolding mul
mul-shifted zero x v = sym shifted-zero
mul-shifted (suc n) x v =
    ap₂ xor (sym (only-map shifted shifted-zero (x / 2 ^ n % 2) v)) (mul-shifted n x (shifted v)) ∙ sym (shifted-xor _ _)

pub mul-lt : (n x v : ℕ) → v < 2 ^ 128 → mul n x v < 2 ^ 128
unfolding mul
mul-lt zero x v h = pow_pos 128
mul-lt (suc n) x v h = xor_lt 128 _ _ (only-lt 128 (x / 2 ^ n % 2) v h) (mul-lt n x (shifted v) (shifted-lt v h))

-- the recursion at the highest of n bits gives the n bits back

mul-one-step : (n x : ℕ) → mul n x (shifted (2 ^ n)) ≡ x % 2 ^ n → mul (suc n) x (2 ^ n) ≡ x % 2 ^ suc n
unfolding mul
mul-one-step n x e =
    ap₂ xor (only-mul (x / 2 ^ n % 2) (2 ^ n) (odd-lt (x / 2 ^ n))) e ∙ xor-add n _ _ (mod-lt x (pow_pos n))
    ∙ sym (mod-pow-add x 1 n) ∙ ap (λ (k : ℕ). x % 2 ^ k) (one-add n)

mul-one-rest : (n x : ℕ) → mul n x (shifted (2 ^ n)) ≡ x % 2 ^ n
mul-one-rest zero x = mul-none x _ ∙ sym (mod-one x)
mul-one-rest (suc n) x = ap (mul (suc n) x) (shifted-power n) ∙ mul-one-step n x (mul-one-rest n x)

pub mul-one : (n x : ℕ) → mul (suc n) x (2 ^ n) ≡ x % 2 ^ suc n
mul-one n x = mul-one-step n x (mul-one-rest n x)

-- one has no bit but the highest
one-mul-rest : (v : ℕ) → mul 127 (2 ^ 127) v ≡ 0
unfolding mul only xor
one-mul-rest v = refl

pub one-mul : (v : ℕ) → mul 128 (2 ^ 127) v ≡ v
unfolding mul
one-mul v = ap₂ xor (only_on v) (one-mul-rest (shifted v)) ∙ xor_zero_r v
