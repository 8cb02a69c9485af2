-- The blocks are a field (`is_field`): a block that isn't zero times its companion is one (`inverse`).
-- H times I is its own square, and as a polynomial in x such a block has one value at all of x's 128 conjugates; so its 128 coefficients but the first are
-- zero, and it is zero or one (`idempotent`).
-- Rests on Conjugates, Polynomials and Frobenius.
use mathlib.Core.Path.{◌≡◌, sym, ap, subst, ◌∙◌}
use mathlib.Core.Logic.{◌≢◌, ◌⊎◌, ⊎_elim, inl, inr}
use mathlib.Core.List.{◌∷◌}
use Prim.Native.Nat.{ℕ, zero, suc, ◌/◌, ◌%◌, ◌^◌, ◌≤◌, ◌<◌}
use native.Mathlib.Nat.{le_refl, le_of_eq, lt_of_lt_of_le, lt_irrefl}
use lib.Pow.{pow_pos}
use lib.ListN.{get_or}
use Rattle.field.specs.declared.blocks.Block.{Block}
use Rattle.field.specs.Blocks.{value, Small, zero_block, one, ◌⊕◌, ◌•◌}
use Rattle.field.specs.Powers.{power, companion}
use Rattle.field.specs.Strength.{IsField}
use Rattle.clmul.proofs.Xor.{odd-lt}
use Rattle.field.proofs.Values.{value-lt, value-block, block-value, small-block, small-zero, small_one, value-zero, value-one}
use Rattle.field.proofs.Ring.{small-⊕, small-•, ⊕-comm, ⊕-assoc, ⊕-self, ⊕-zero, ⊕_same, •-comm, •-assoc, •-⊕, •-zero, •-one, one-•}
use Rattle.field.proofs.Powers.{power-one, small-companion}
use Rattle.field.proofs.Frobenius.{power-double, companion-law}
use Rattle.field.proofs.Polynomials.{at, Cancels, vanish}
use Rattle.field.proofs.Conjugates.{coefficient, coefficients, length_coefficients, small_coefficients, coefficient_cases}
use Rattle.field.proofs.Conjugates.{conjugate, at_x, at_conjugate, apart}

-- what is its own square is its own power 2^k
power_kept : (e : Block) (k : ℕ) → Small e → e • e ≡ e → power e (2 ^ k) ≡ e
power_kept e zero s q = power-one e s
power_kept e (suc k) s q = power-double e k ∙ ap (λ (b : Block). b • b) (power_kept e k s q) ∙ q

-- and its polynomial has one value at all the conjugates
at_all : (e : Block) (k : ℕ) → Small e → e • e ≡ e → at (conjugate k) (coefficients 128 (value e)) ≡ e
at_all e k s q =
    sym (at_conjugate 128 (value e) k)
    ∙ ap (λ (b : Block). power b (2 ^ k)) (at_x (value e) (value-lt e) ∙ block-value e s) ∙ power_kept e k s q

-- a block that has the value of a polynomial at all the conjugates is its first coefficient
constant : (n v : ℕ) (e : Block) → suc n ≤ 128 → Small e → ((k : ℕ) → at (conjugate k) (coefficients (suc n) v) ≡ e)
    → e ≡ coefficient (v / 2 ^ n % 2)
unfolding coefficients at
constant n v e l s all =
    ⊕_same s (small_coefficients (suc n) v 0)
    (vanish (suc n) conjugate ((e ⊕ coefficient (v / 2 ^ n % 2)) ∷ coefficients n v) (le_of_eq (ap suc (length_coefficients n v))) small
    (λ i j k m. apart i j k (lt_of_lt_of_le m l))
    (λ i k. ⊕-assoc e _ _ ∙ ap (◌⊕◌ e) (all i) ∙ ⊕-self e) 0)
  where
    small : (i : ℕ) → Small (get_or ((e ⊕ coefficient (v / 2 ^ n % 2)) ∷ coefficients n v) i zero_block)
    small zero = small-⊕ _ _
    small (suc i) = small_coefficients n v i

-- a block that is its own square is zero or one
pub idempotent : (e : Block) → Small e → e • e ≡ e → (e ≡ zero_block) ⊎ (e ≡ one)
idempotent e s q =
    let same = constant 127 (value e) e (le_refl 128) s (λ k. at_all e k s q) in
    ⊎_elim (λ z. inl (same ∙ z)) (λ o. inr (same ∙ o)) (coefficient_cases _ (odd-lt _))

-- H times its companion is its own square
own_square : (h : Block) → Small h → let e = h • companion h in e • e ≡ e
own_square h s =
    let i = companion h in
    ap (λ (b : Block). b • (h • i)) (•-comm h i) ∙ •-assoc i h (h • i) ∙ ap (◌•◌ i) (companion-law h s) ∙ •-comm i h

pub inverse : (h : Block) → Small h → h ≢ zero_block → h • companion h ≡ one
inverse h s n =
    ⊎_elim (λ z. absurd (n (sym (companion-law h s) ∙ ap (◌•◌ h) z ∙ •-zero h))) (λ o. o) (idempotent _ (small-• _ _) (own_square h s))

-- so a block that isn't zero cancels
pub cancels : (g : Block) → Small g → g ≢ zero_block → Cancels g
cancels g s n x t e =
    let i = companion g in
    sym (ap (λ (b : Block). b • x) (•-comm i g ∙ inverse g s n) ∙ one-• x t) ∙ •-assoc i g x ∙ ap (◌•◌ i) e ∙ •-zero i

-- and where a product with H twice is zero, the product with it once is, of H zero too
pub once : (h x : Block) → Small h → h • (h • x) ≡ zero_block → h • x ≡ zero_block
once h x s e =
    let i = companion h in
    ap (λ (b : Block). b • x) (sym (companion-law h s) ∙ sym (•-assoc h h i) ∙ •-comm (h • h) i)
    ∙ •-assoc i (h • h) x ∙ ap (◌•◌ i) (•-assoc h h x ∙ e) ∙ •-zero i

-- the difference of two different blocks cancels
pub difference_cancels : {a b : Block} → Small a → Small b → a ≢ b → Cancels (b ⊕ a)
difference_cancels {a} {b} s t n = cancels (b ⊕ a) (small-⊕ b a) (λ e. n (sym (⊕_same t s e)))

one_not_zero : one ≢ zero_block
one_not_zero e = lt_irrefl 0 (subst (λ (v : ℕ). 0 < v) (sym value-one ∙ ap value e ∙ value-zero) (pow_pos 127))

pub is_field : IsField
is_field =
    record {
      elements = λ v h. (small-block v h, value-block v h);
      numbers = λ a s. (value-lt a, block-value a s);
      zero_in = small-zero;
      sum_in = small-⊕;
      sum_commutes = ⊕-comm;
      sum_associates = ⊕-assoc;
      zero = ⊕-zero;
      negative = ⊕-self;
      one_in = small_one;
      product_in = small-•;
      product_commutes = •-comm;
      product_associates = •-assoc;
      distributes = •-⊕;
      unit = •-one;
      one_not_zero = one_not_zero;
      inverse_in = small-companion;
      inverse = inverse;
      no_zero_product = λ a b s t m n e. n (cancels a s m b t e);
    }
