-- The reduction as code works on it, word by word: each law says that the words computed so make the number that `Reduction` asks for.
-- It rests on `Reduction`, on the laws of blocks (`Values`), and on the laws of exclusive or and of the powers of two.
use mathlib.Core.Path.{◌≡◌, refl, sym, ap, ap₂, ◌∙◌}
use Prim.Native.Nat.{ℕ, ◌+◌, ◌*◌, ◌/◌, ◌%◌, ◌^◌, ◌<◌}
use native.Mathlib.Nat.{mod-lt, mod-eq_of_lt, lt_of_le_of_lt, mul_assoc, add-zero, zero-add}
use native.Mathlib.Omega.{arith}
use lib.Bits.{bit_xor, bit_or, or_shifted}
use lib.Arith.{digits_lt}
use lib.Pow.{pow_pos, shl-shr, shr-shr, shr_le, shr_lt, split, high, low}
use Rattle.clmul.specs.declared.karatsuba.Wide.{Wide}
use Rattle.clmul.specs.Xor.{xor}
use Rattle.clmul.specs.Clmul.{wide, ◌⊗◌}
use Rattle.clmul.proofs.Xor.{xor_lt, xor-shl, xor-split, xor_low}
use Rattle.clmul.proofs.Recurrence.{wide-words, ⊗-lt}
use Rattle.field.specs.declared.blocks.Block.{Block}
use Rattle.field.specs.Elements.{Vᵢ}
use Rattle.field.specs.Blocks.{Small, block, ◌•◌}
use Rattle.field.proofs.Squares.{folded}
use Rattle.field.proofs.Reduction.{V-64, V-doubled, times-⊗, reduced-lt}
use Rattle.field.proofs.Values.{words, value-small}

-- the number with these words
abbrev pub four : (w3 w2 w1 w0 : ℕ) → Wide
four w3 w2 w1 w0 = record { w3 = w3; w2 = w2; w1 = w1; w0 = w0 }

-- each word is one of 64 bits, as those of every number that code holds
pub record Words (w : Wide) : Type 0 where
  pub w3 : w.w3 < 2 ^ 64
  pub w2 : w.w2 < 2 ^ 64
  pub w1 : w.w1 < 2 ^ 64
  pub w0 : w.w0 < 2 ^ 64

-- ---- twice a number

-- a word moved up by one bit, with the bit c of the next one
moved : (y c : ℕ) → c < 2 → bit_or (y * 2 % 2 ^ 64) c ≡ y % 2 ^ 63 * 2 + c
moved y c h =
    let e : y * 2 % 2 ^ 64 ≡ y % 2 ^ 63 * 2 = omega arith in
    rw e (or_shifted (y % 2 ^ 63) 1 c h)

-- the bit that leaves it goes to what stands on its left
carried : (a y c : ℕ) → (a * 2 + y / 2 ^ 63) * 2 ^ 64 + (y % 2 ^ 63 * 2 + c) ≡ (a * 2 ^ 64 + y) * 2 + c
carried a y c = omega arith

-- what stands left of a word has 64 bits less
left_lt : (k a : ℕ) {y : ℕ} → y < 2 ^ 64 → a * 2 ^ 64 + y < 2 ^ (k + 64) → a < 2 ^ k
left_lt k a p h = rw (high a 64 p) at (shr_lt k 64 h)

-- so the highest bit of a number below 2 ^ 255 is zero
top_lt : (w : Wide) → Words w → wide w < 2 ^ 255 → w.w3 < 2 ^ 63
top_lt w p h =
    left_lt 63 w.w3 p.w2 (left_lt 127 (w.w3 * 2 ^ 64 + w.w2) p.w1 (left_lt 191 _ p.w0 (rw (wide-words w) at h)))

pub doubled-words : (w : Wide) → Words w → wide w < 2 ^ 255
    → wide (four (bit_or (w.w3 * 2 % 2 ^ 64) (w.w2 / 2 ^ 63)) (bit_or (w.w2 * 2 % 2 ^ 64) (w.w1 / 2 ^ 63))
    (bit_or (w.w1 * 2 % 2 ^ 64) (w.w0 / 2 ^ 63)) (w.w0 * 2 % 2 ^ 64))
    ≡ wide w * 2
doubled-words w p h =
    let last : w.w0 * 2 % 2 ^ 64 ≡ w.w0 % 2 ^ 63 * 2 + 0 = omega arith in
    wide-words _
    ∙ rw (moved w.w3 _ (bit p.w2), moved w.w2 _ (bit p.w1), moved w.w1 _ (bit p.w0), last, mod-eq_of_lt (top_lt w p h))
    (rw (carried w.w3, carried _ w.w1, carried _ w.w0) (add-zero _))
    ∙ ap (λ (x : ℕ). x * 2) (sym (wide-words w))
  where
    bit : {y : ℕ} → y < 2 ^ 64 → y / 2 ^ 63 < 2
    bit q = shr_lt 1 63 q

-- ---- 64 steps of V

-- a word moved to the left by t bits, over two words
moved_left : (l s t : ℕ) → t + s ≡ 64 → l * 2 ^ t ≡ l / 2 ^ s * 2 ^ 64 + l * 2 ^ t % 2 ^ 64
moved_left l s t e =
    sym (split (l * 2 ^ t) 64)
    ∙ ap (λ (x : ℕ). x * 2 ^ 64 + l * 2 ^ t % 2 ^ 64)
    (ap (λ (k : ℕ). l * 2 ^ t / 2 ^ k) (sym e) ∙ sym (shr-shr _ t s) ∙ ap (λ (x : ℕ). x / 2 ^ s) (shl-shr l t))

-- what the word l brings in when it goes out on the right, as a left word and a right one

abbrev pub brought_left : ℕ → ℕ
brought_left l = bit_xor (bit_xor l (l / 2 ^ 1)) (bit_xor (l / 2 ^ 2) (l / 2 ^ 7))

abbrev pub brought_right : ℕ → ℕ
brought_right l = bit_xor (l * 2 ^ 63 % 2 ^ 64) (bit_xor (l * 2 ^ 62 % 2 ^ 64) (l * 2 ^ 57 % 2 ^ 64))

brought_left_lt : (l : ℕ) → l < 2 ^ 64 → brought_left l < 2 ^ 64
unfolding xor
brought_left_lt l h = xor_lt 64 _ _ (xor_lt 64 _ _ h (part 1)) (xor_lt 64 _ _ (part 2) (part 7))
  where
    part : (s : ℕ) → l / 2 ^ s < 2 ^ 64
    part s = lt_of_le_of_lt (shr_le l s) h

module _ (l : ℕ) where
  -- the part of l * 2 ^ t that stays in the right word
  right : ℕ → ℕ
  right t = l * 2 ^ t % 2 ^ 64

  right_lt : (t : ℕ) → right t < 2 ^ 64
  unfolding right
  right_lt t = mod-lt (l * 2 ^ t) (pow_pos 64)

brought_right_lt : (l : ℕ) → brought_right l < 2 ^ 64
unfolding xor right
brought_right_lt l = xor_lt 64 _ _ (right_lt l 63) (xor_lt 64 _ _ (right_lt l 62) (right_lt l 57))

-- four terms moved to the left together
moved-four : (k a b c d : ℕ) → xor (xor a b) (xor c d) * 2 ^ k ≡ xor (xor (a * 2 ^ k) (b * 2 ^ k)) (xor (c * 2 ^ k) (d * 2 ^ k))
moved-four k a b c d = xor-shl k _ _ ∙ ap₂ xor (xor-shl k a b) (xor-shl k c d)

brought : (l : ℕ) → folded l * 2 ^ 57 ≡ brought_left l * 2 ^ 64 + brought_right l
unfolding folded xor right
brought l =
    moved-four 57 (l * 2 ^ 7) (l * 2 ^ 6) (l * 2 ^ 5) l
    ∙ ap₂ xor
    (ap₂ xor (mul_assoc l (2 ^ 7) (2 ^ 57) ∙ sym (add-zero (l * 2 ^ 64))) (mul_assoc l (2 ^ 6) (2 ^ 57) ∙ moved_left l 1 63 refl)
    ∙ xor-split 64 l (l / 2 ^ 1) 0 (right l 63) (pow_pos 64) (right_lt l 63))
    (ap₂ xor (mul_assoc l (2 ^ 5) (2 ^ 57) ∙ moved_left l 2 62 refl) (moved_left l 7 57 refl)
    ∙ xor-split 64 (l / 2 ^ 2) (l / 2 ^ 7) (right l 62) (right l 57) (right_lt l 62) (right_lt l 57))
    ∙ xor-split 64 (xor l (l / 2 ^ 1)) (xor (l / 2 ^ 2) (l / 2 ^ 7)) (right l 63) (xor (right l 62) (right l 57))
    (right_lt l 63) (xor_lt 64 _ _ (right_lt l 62) (right_lt l 57))

pub folded-words : (v : Wide) → Words v
    → wide (four 0 v.w3 (bit_xor v.w2 (brought_left v.w0)) (bit_xor v.w1 (brought_right v.w0))) ≡ Vᵢ (wide v) 64
unfolding xor
folded-words v p =
    let l = v.w0 in
    let h = v.w3 * 2 ^ 64 + v.w2 in
    let w0 = xor v.w1 (brought_right l) in
    sym
    (ap (λ (x : ℕ). Vᵢ x 64) (wide-words v)
    ∙ V-64 (h * 2 ^ 64 + v.w1) l p.w0
    ∙ ap (xor (h * 2 ^ 64 + v.w1)) (brought l)
    ∙ xor-split 64 h (brought_left l) v.w1 (brought_right l) p.w1 (brought_right_lt l)
    ∙ ap (λ (x : ℕ). x * 2 ^ 64 + w0) (xor_low 64 v.w3 v.w2 (brought_left l) p.w2 (brought_left_lt l p.w0))
    ∙ ap (λ (x : ℕ). (x * 2 ^ 64 + xor v.w2 (brought_left l)) * 2 ^ 64 + w0) (sym (zero-add v.w3))
    ∙ sym (wide-words _))

-- ---- the whole reduction

-- the block of a number that is no longer than a block
block-wide : (r : Wide) → Words r → wide r < 2 ^ 128 → words r.w1 r.w0 ≡ block (wide r)
unfolding block
block-wide r p h =
    let x = (r.w3 * 2 ^ 64 + r.w2) * 2 ^ 64 + r.w1 in
    let left : wide r / 2 ^ 64 ≡ x = ap (λ (v : ℕ). v / 2 ^ 64) (wide-words r) ∙ high x 64 p.w0 in
    sym
    (ap₂ words (sym (mod-eq_of_lt (shr_lt 64 64 h)) ∙ ap (λ (v : ℕ). v % 2 ^ 64) left ∙ low _ 64 p.w1)
    (ap (λ (v : ℕ). v % 2 ^ 64) (wide-words r) ∙ low x 64 p.w0))

-- d is w doubled, and m and r are d after 64 and 128 steps
pub reduced-words : (w d m r : Wide) → Words r → wide w < 2 ^ 255
    → wide d ≡ wide w * 2 → wide m ≡ Vᵢ (wide d) 64 → wide r ≡ Vᵢ (wide m) 64 → words r.w1 r.w0 ≡ block (Vᵢ (wide w) 127)
reduced-words w d m r p h e f g =
    let steps : wide r ≡ Vᵢ (wide w) 127 = g ∙ ap (λ (x : ℕ). Vᵢ x 64) (f ∙ ap (λ (x : ℕ). Vᵢ x 64) e) ∙ V-doubled (wide w) in
    block-wide r p (rw steps (reduced-lt (wide w) h)) ∙ ap block steps

-- ---- the product of two blocks

-- a carry-less product with a block can be reduced
pub product_lt : (x : ℕ) (b : Block) → Small b → (w : ℕ) → w ≡ x ⊗ (b.hi * 2 ^ 64 + b.lo) → w < 2 ^ 255
product_lt x b q w e = rw e (⊗-lt x _ (digits_lt q.hi q.lo))

-- reduced, that of two blocks is their product
pub product-words : (a b : Block) → Small a → Small b → (w : ℕ) → w ≡ (a.hi * 2 ^ 64 + a.lo) ⊗ (b.hi * 2 ^ 64 + b.lo)
    → block (Vᵢ w 127) ≡ a • b
unfolding ◌•◌
product-words a b p q w e =
    ap block (ap (λ (x : ℕ). Vᵢ x 127) (e ∙ sym (ap₂ ◌⊗◌ (value-small a p) (value-small b q))) ∙ sym (times-⊗ _ _))
