-- The laws of blocks under ⊕ and •: a commutative ring with unit, in which every element added to itself is nothing.
-- Only the laws that give a block back ask that it be small, since `value` reads a word by its 64 bits.
-- Rests on Xor, Recursion, Product and Values.
use mathlib.Core.Path.{◌≡◌, sym, ap, ap₂, ◌∙◌}
use Prim.Native.Nat.{ℕ, ◌^◌, ◌<◌}
use lib.Dec.{lit<}
use Rattle.field.specs.declared.blocks.Block.{Block}
use Rattle.clmul.specs.Xor.{xor}
use Rattle.field.specs.Elements.{shifted, times}
use Rattle.field.specs.Blocks.{value, block, Small, zero_block, one, ◌⊕◌, ◌•◌}
use Rattle.clmul.proofs.Commutative.{left_comm, swap}
use Rattle.clmul.proofs.Xor as x
use Rattle.field.proofs.Recursion.{mul, times-mul}
use Rattle.field.proofs.Product as p
use Rattle.field.proofs.Values.{value-lt, value-block, block-value, small-block, value-zero, value-one}

-- sums and products as numbers, and numbers' sums and products as blocks

pub value-⊕ : (a b : Block) → value (a ⊕ b) ≡ xor (value a) (value b)
unfolding ◌⊕◌
value-⊕ a b = value-block _ (x.xor_lt 128 _ _ (value-lt a) (value-lt b))

pub value-• : (a b : Block) → value (a • b) ≡ times (value a) (value b)
unfolding ◌•◌
value-• a b = value-block _ (p.times-lt _ _ (value-lt b))

pub small-⊕ : (a b : Block) → Small (a ⊕ b)
unfolding ◌⊕◌
small-⊕ a b = small-block _ (x.xor_lt 128 _ _ (value-lt a) (value-lt b))

pub small-• : (a b : Block) → Small (a • b)
unfolding ◌•◌
small-• a b = small-block _ (p.times-lt _ _ (value-lt b))

pub block-xor : (a b : ℕ) → a < 2 ^ 128 → b < 2 ^ 128 → block (xor a b) ≡ block a ⊕ block b
unfolding ◌⊕◌
block-xor a b p q = ap block (sym (ap₂ xor (value-block a p) (value-block b q)))

pub block-times : (a b : ℕ) → a < 2 ^ 128 → b < 2 ^ 128 → block (times a b) ≡ block a • block b
unfolding ◌•◌
block-times a b p q = ap block (sym (ap₂ times (value-block a p) (value-block b q)))

-- the product by the recursion of Recursion, to be computed
pub block-mul : (a b : ℕ) → a < 2 ^ 128 → b < 2 ^ 128 → block a • block b ≡ block (mul 128 a b)
block-mul a b p q = sym (block-times a b p q) ∙ ap block (times-mul a b)

-- the product by x
pub •-x : (v : ℕ) → v < 2 ^ 128 → block (2 ^ 126) • block v ≡ block (shifted v)
•-x v h = sym (block-times (2 ^ 126) v (lit< tt) h) ∙ ap block (p.times-x v h)

-- the sum

pub ⊕-comm : (a b : Block) → a ⊕ b ≡ b ⊕ a
unfolding ◌⊕◌
⊕-comm a b = ap block (x.xor_comm _ _)

pub ⊕-assoc : (a b c : Block) → a ⊕ b ⊕ c ≡ a ⊕ (b ⊕ c)
⊕-assoc a b c = unfold ◌⊕◌ in ap block numbers
  where
    numbers : xor (value (a ⊕ b)) (value c) ≡ xor (value a) (value (b ⊕ c))
    numbers = simp value-⊕ (x.xor_assoc _ _ _)

pub ⊕-self : (a : Block) → a ⊕ a ≡ zero_block
unfolding ◌⊕◌ zero_block
⊕-self a = ap block (x.xor_self _)

pub zero-⊕ : (a : Block) → Small a → zero_block ⊕ a ≡ a
unfolding ◌⊕◌
zero-⊕ a s = ap block (ap (λ (v : ℕ). xor v (value a)) value-zero ∙ x.xor_zero_l _) ∙ block-value a s

pub ⊕-zero : (a : Block) → Small a → a ⊕ zero_block ≡ a
⊕-zero a s = ⊕-comm a zero_block ∙ zero-⊕ a s

pub ⊕-swap : (a b c d : Block) → a ⊕ b ⊕ (c ⊕ d) ≡ a ⊕ c ⊕ (b ⊕ d)
⊕-swap = swap ◌⊕◌ ⊕-assoc ⊕-comm

-- what is added twice is gone
pub ⊕-cancel : (a b : Block) → Small b → a ⊕ (a ⊕ b) ≡ b
⊕-cancel a b s = sym (⊕-assoc a a b) ∙ ap (λ (c : Block). c ⊕ b) (⊕-self a) ∙ zero-⊕ b s

-- and so is what is added on both sides
pub ⊕-cancel_l : (a b c : Block) → c ⊕ a ⊕ (c ⊕ b) ≡ a ⊕ b
⊕-cancel_l a b c = ⊕-swap c a c b ∙ ap (λ (d : Block). d ⊕ (a ⊕ b)) (⊕-self c) ∙ zero-⊕ (a ⊕ b) (small-⊕ a b)

pub ⊕-cancel_r : (a b c : Block) → a ⊕ c ⊕ (b ⊕ c) ≡ a ⊕ b
⊕-cancel_r a b c = ap₂ ◌⊕◌ (⊕-comm a c) (⊕-comm b c) ∙ ⊕-cancel_l a b c

-- what adds up to nothing is the same
pub ⊕_same : {a b : Block} → Small a → Small b → a ⊕ b ≡ zero_block → a ≡ b
⊕_same {a} {b} s t e = sym (⊕-zero a s) ∙ ap (◌⊕◌ a) (sym e) ∙ ⊕-cancel a b t

-- the product

pub •-comm : (a b : Block) → a • b ≡ b • a
unfolding ◌•◌
•-comm a b = ap block (p.times-comm _ _ (value-lt a) (value-lt b))

pub •-assoc : (a b c : Block) → a • b • c ≡ a • (b • c)
•-assoc a b c = unfold ◌•◌ in ap block numbers
  where
    numbers : times (value (a • b)) (value c) ≡ times (value a) (value (b • c))
    numbers = simp value-• (p.times-assoc _ _ _ (value-lt b) (value-lt c))

pub •_left_comm : (a b c : Block) → a • (b • c) ≡ b • (a • c)
•_left_comm = left_comm ◌•◌ •-assoc •-comm

pub •-swap : (a b c d : Block) → a • b • (c • d) ≡ a • c • (b • d)
•-swap = swap ◌•◌ •-assoc •-comm

-- the product distributes over the sum

pub •-⊕ : (a b c : Block) → a • (b ⊕ c) ≡ a • b ⊕ a • c
•-⊕ a b c = unfold ◌•◌ ◌⊕◌ in ap block numbers
  where
    numbers : times (value a) (value (b ⊕ c)) ≡ xor (value (a • b)) (value (a • c))
    numbers = simp (value-⊕, value-•) (p.times-xor_r _ _ _)

pub ⊕-• : (a b c : Block) → (a ⊕ b) • c ≡ a • c ⊕ b • c
⊕-• a b c = •-comm (a ⊕ b) c ∙ •-⊕ c a b ∙ ap₂ ◌⊕◌ (•-comm c a) (•-comm c b)

-- nothing and one

pub •-zero : (a : Block) → a • zero_block ≡ zero_block
•-zero a = unfold ◌•◌ zero_block in ap block (ap (times (value a)) value-zero ∙ p.times-zero_r _)

pub zero-• : (a : Block) → zero_block • a ≡ zero_block
zero-• a = •-comm zero_block a ∙ •-zero a

pub one-• : (a : Block) → Small a → one • a ≡ a
one-• a s = unfold ◌•◌ in ap block (ap (λ (v : ℕ). times v (value a)) value-one ∙ p.times-one_l _) ∙ block-value a s

pub •-one : (a : Block) → Small a → a • one ≡ a
•-one a s = •-comm a one ∙ one-• a s
