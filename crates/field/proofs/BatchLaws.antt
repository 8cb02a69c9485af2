-- Sixteen blocks at a time: the loop that raises H to its powers, a batch as one sum of sixteen products, the loop over the batches,
-- and the words of a batch. They rest on the laws of powers (`Powers`) and of Horner's rule (`Horner`).
use mathlib.Core.Path.{◌≡◌, refl, sym, ap, ap₂, ◌∙◌}
use mathlib.Core.List.{List}
use mathlib.Core.Logic.{◌⊎◌, inl, inr}
use Prim.Native.Nat.{ℕ, zero, suc, ◌+◌, ◌-◌, ◌*◌, ◌^◌, ◌≤◌, ◌<◌}
use native.Mathlib.Nat.{le_refl, le_of_lt, eq-or-lt_of_le, zero-lt-suc}
use native.Mathlib.Omega.{arith}
use lib.ListN.{length, get_or, set, take, drop, length-set, length-drop}
use lib.Bits.{bit_xor}
use lib.Seq.{take_all, get_or-set_same, get_or-set_other}
use Rattle.clmul.specs.Xor.{xor}
use Rattle.clmul.specs.Clmul.{◌⊗◌, total}
use Rattle.clmul.proofs.Xor.{xor-split, xor_zero_l}
use Rattle.clmul.proofs.Totals.{total_cong}
use Rattle.clmul.proofs.Recurrence.{total-none, total_next, total-lt, ⊗-lt}
use Rattle.field.specs.declared.blocks.Block.{Block}
use Rattle.field.specs.Elements.{Vᵢ, times}
use Rattle.field.specs.Bytes.{number}
use Rattle.field.specs.Blocks.{Small, value, block, block_at, zero_block, ◌⊕◌, ◌•◌}
use Rattle.field.specs.Powers.{power}
use Rattle.field.specs.Sums.{blocks, terms}
use Rattle.field.specs.Ghash.{Yᵢ}
use Rattle.field.specs.Clauses.{PowersIn}
use Rattle.field.proofs.Values.{small_one, value-lt, value-block, value-small, block-value}
use Rattle.field.proofs.Ring.{value-⊕, value-•, small-•, ⊕-•, ⊕-assoc, zero-⊕}
use Rattle.field.proofs.Powers.{power-one, power-suc, power-add}
use Rattle.field.proofs.Reduction.{V-total}
use Rattle.field.proofs.Bytes.{number_lt, number-drop, number-split}
use Rattle.field.proofs.Horner.{small-Yᵢ, Yᵢ-terms, Yᵢ-drop, Yᵢ-drop-all}

-- ---- the powers of H

-- of sixteen places, the last m hold their powers
pub record Raised (h : Block) (p : List Block) (m : ℕ) : Type 0 where
  pub size : length p ≡ 16
  pub each : (n : ℕ) → n < 16 → 16 ≤ n + m → get_or p n zero_block ≡ power h (16 - n)

-- a power is read from its place
raised_at : {h : Block} {p : List Block} {m : ℕ} (j : ℕ) {a : Block} → Raised h p m → 0 < j → j ≤ m → j ≤ 16 → a ≡ get_or p (16 - j) zero_block
    → a ≡ power h j
raised_at {h} j r u v w e =
    let back : 16 - (16 - j) ≡ j = omega arith in
    e ∙ r.each (16 - j) (omega arith) (omega arith) ∙ ap (power h) back

raised-set : {h : Block} {p : List Block} {m i : ℕ} {a : Block} → Raised h p m → i + suc m ≡ 16 → a ≡ power h (suc m) → (n : ℕ) → n < 16
    → (i ≡ n) ⊎ (i < n) → get_or (set p i a) n zero_block ≡ power h (16 - n)
raised-set {h} {p} {m} {i} {a} r e f n u (inl g) =
    let back : suc m ≡ 16 - n = omega arith in
    rw (← g) (get_or-set_same p i a zero_block (omega (arith, r.size))) ∙ f ∙ ap (power h) back
raised-set {h} {p} {m} {i} {a} r e f n u (inr l) = get_or-set_other p i n a zero_block (omega arith) ∙ r.each n u (omega arith)

-- one power more
raised_next : {h : Block} {p : List Block} {m : ℕ} (i : ℕ) {a : Block} → Raised h p m → i + suc m ≡ 16 → a ≡ power h (suc m)
    → Raised h (set p i a) (suc m)
raised_next {h} {p} {m} i {a} r e f =
    record { size = length-set p i a ∙ r.size; each = λ n u v. raised-set r e f n u (eq-or-lt_of_le (omega arith)) }

-- what holds before each turn
pub record Raising (h : Block) (p : List Block) (k : ℕ) : Type 0 where
  pub first : 0 < k
  pub within : k ≤ 8
  pub powers : Raised h p (2 * k - 1)

pub raising_start : (h : Block) (p : List Block) → Small h → length p ≡ 16 → get_or p 15 zero_block ≡ h → Raising h p 1
raising_start h p s l e = record { first = omega arith; within = omega arith; powers = record { size = l; each = last } }
  where
    last : (n : ℕ) → n < 16 → 16 ≤ n + 1 → get_or p n zero_block ≡ power h (16 - n)
    last n u v =
        let at : 15 ≡ n = omega arith in
        rw (← at) (e ∙ sym (power-one h s))

module _ {h : Block} {p : List Block} {k : ℕ} (r : Raising h p k) where
  squared_is : {half even : Block} → half ≡ get_or p (16 - k) zero_block → even ≡ half • half → even ≡ power h (2 * k)
  squared_is {half} e f =
      let twice : k + k ≡ 2 * k = omega arith in
      let is : half ≡ power h k = raised_at k r.powers r.first (omega (arith, r.first)) (omega (arith, r.within)) e in
      f ∙ ap₂ ◌•◌ is is ∙ sym (power-add h k k) ∙ ap (power h) twice

  -- one turn: the square of power k, and that times H
  pub raising_next : {half even odd : Block} → k < 8 → half ≡ get_or p (16 - k) zero_block → even ≡ half • half → odd ≡ even • h
      → Raising h (set (set p (16 - 2 * k) even) (15 - 2 * k) odd) (k + 1)
  raising_next {half} {even} {odd} l e f g =
      let m = 2 * k - 1 in
      let one_more : 2 * k ≡ suc m = omega (arith, r.first) in
      let two-more : suc (suc m) ≡ 2 * (k + 1) - 1 = omega (arith, r.first) in
      let square : even ≡ power h (suc m) = squared_is e f ∙ ap (power h) one_more in
      let next : odd ≡ power h (suc (suc m)) = g ∙ ap (λ (a : Block). a • h) square ∙ sym (power-suc h (suc m)) in
      let stored = raised_next (16 - 2 * k) r.powers (omega (arith, r.first)) square in
      record {
        first = omega arith;
        within = omega arith;
        powers = rw (← two-more) (raised_next (15 - 2 * k) stored (omega (arith, r.first)) next);
      }

  -- the last power is a square
  pub raising_done : {half last : Block} → 8 ≤ k → half ≡ get_or p 8 zero_block → last ≡ half • half → (n : ℕ) → n < 16
      → get_or (set p 0 last) n zero_block ≡ power h (16 - n)
  raising_done {half} {last} l e f n u =
      let eight : 8 ≡ 16 - k = omega (arith, r.within) in
      let more : 2 * k ≡ suc (2 * k - 1) = omega arith in
      let square : last ≡ power h (suc (2 * k - 1)) = squared_is (e ∙ ap (λ (i : ℕ). get_or p i zero_block) eight) f ∙ ap (power h) more in
      (raised_next 0 r.powers (omega (arith, r.within)) square).each n u (omega arith)

-- ---- a batch

-- f and g are what is multiplied: the blocks, to the first of which y is added, and the powers of H from H^m down
module _ (h y : Block) (s : List ℕ) (m : ℕ) (f g : ℕ → ℕ) (first : f 0 ≡ xor (value y) (value (block_at s 0)))
    (each : (n : ℕ) → 0 < n → n < m → f n ≡ value (block_at s n)) (powers : (n : ℕ) → n < m → g n ≡ value (power h (m - n))) where
  abbrev products : ℕ → ℕ
  products n = times (f n) (g n)

  term : (n : ℕ) → 0 < n → n < m → products n ≡ value (block_at s n • power h (m - n))
  term n u v = ap₂ times (each n u v) (powers n v) ∙ sym (value-• (block_at s n) (power h (m - n)))

  -- the sum of the first products is Horner's rule's, term by term
  total-terms : (n : ℕ) → n < m → total products (suc n) ≡ value (y • power h m ⊕ terms h s m (suc n))
  unfolding terms
  total-terms zero l =
      let b = block_at s 0 in
      let p = power h m in
      let whole : m - 0 ≡ m = omega arith in
      total_next products 0
      ∙ ap (λ (x : ℕ). xor x (products 0)) (total-none products)
      ∙ xor_zero_l (products 0)
      ∙ ap₂ times (first ∙ sym (value-⊕ y b)) (powers 0 l ∙ ap (λ (i : ℕ). value (power h i)) whole)
      ∙ sym (value-• (y ⊕ b) p)
      ∙ ap value (⊕-• y b p ∙ ap (◌⊕◌ (y • p)) (sym (zero-⊕ (b • p) (small-• b p))))
      ∙ ap (λ (i : ℕ). value (y • p ⊕ (zero_block ⊕ b • power h i))) (sym whole)
  total-terms (suc n) l =
      total_next products (suc n)
      ∙ ap₂ xor (total-terms n (le_of_lt l)) (term (suc n) (zero-lt-suc n) l)
      ∙ sym (value-⊕ (y • power h m ⊕ terms h s m (suc n)) (block_at s (suc n) • power h (m - suc n)))
      ∙ ap value (⊕-assoc (y • power h m) (terms h s m (suc n)) (block_at s (suc n) • power h (m - suc n)))

  -- and the sum of all of them is Horner's rule over the blocks
  pub total_is : 0 < m → Small y → total products m ≡ value (Yᵢ h y s m)
  total_is l k =
      let e : suc (m - 1) ≡ m = omega arith in
      ap (total products) (sym e)
      ∙ total-terms (m - 1) (omega arith)
      ∙ ap (λ (i : ℕ). value (y • power h m ⊕ terms h s m i)) e
      ∙ ap value (sym (Yᵢ-terms h y s m k))

-- the number of a block that lies at a place of the list
value-at : (s : List ℕ) (at n : ℕ) → value (block_at (drop at s) n) ≡ number s (at + 16 * n) 16
unfolding block_at
value-at s at n = value-block _ (number_lt (drop at s) (16 * n) 16) ∙ number-drop s at (16 * n) 16

-- a batch: the sixteen blocks from place `at` on, to the first of which y is added, times the powers of H from H^16 down to H^1
pub batch_sum : (h y : Block) (s : List ℕ) (at : ℕ) (f g : ℕ → ℕ) → Small y → f 0 ≡ xor (value y) (number s at 16)
    → ((n : ℕ) → 0 < n → n < 16 → f n ≡ number s (at + 16 * n) 16) → ((n : ℕ) → n < 16 → g n ≡ value (power h (16 - n)))
    → block (total (λ n. times (f n) (g n)) 16) ≡ Yᵢ h y (drop at s) 16
batch_sum h y s at f g k first each powers =
    let here : at ≡ at + 16 * 0 = omega arith in
    let first' : f 0 ≡ xor (value y) (value (block_at (drop at s) 0)) =
    first ∙ ap (xor (value y)) (ap (λ (i : ℕ). number s i 16) here ∙ sym (value-at s at 0)) in
    ap block
    (total_is h y (drop at s) 16 f g first' (λ n u v. each n u v ∙ sym (value-at s at n)) powers (omega arith) k)
    ∙ block-value (Yᵢ h y (drop at s) 16) (small-Yᵢ h y (drop at s) 16 k)

-- ---- the loop over the batches

module _ (h start : Block) (s : List ℕ) where
  pub batched_start : start ≡ Yᵢ h start s (16 * 0)
  unfolding Yᵢ
  batched_start = refl

  -- one batch more
  pub batched_next : {y z : Block} (i : ℕ) → y ≡ Yᵢ h start s (16 * i) → z ≡ Yᵢ h y (drop (256 * i) s) 16 → z ≡ Yᵢ h start s (16 * (i + 1))
  batched_next i b e =
      let place : 256 * i ≡ 16 * (16 * i) = omega arith in
      let more : 16 * i + 16 ≡ 16 * (i + 1) = omega arith in
      e
      ∙ ap₂ (λ (x : Block) (j : ℕ). Yᵢ h x (drop j s) 16) b place
      ∙ sym (Yᵢ-drop h start s (16 * i) 16)
      ∙ ap (Yᵢ h start s) more

-- what is left of a list from a place on, as code takes it
tail_is : (n : ℕ) (s : List ℕ) → take (length s - n) (drop n s) ≡ drop n s
tail_is n s = take_all (length s - n) (drop n s) (rw length-drop (le_refl (length s - n)))

-- batches, and then what is left
pub batched_all : (h start : Block) (s : List ℕ) (q : ℕ) {y z : Block} → 256 * q ≤ length s → y ≡ Yᵢ h start s (16 * q)
    → z ≡ Yᵢ h y (take (length s - 256 * q) (drop (256 * q) s)) (blocks (length (take (length s - 256 * q) (drop (256 * q) s))))
    → z ≡ Yᵢ h start s (blocks (length s))
batched_all h start s q {y} {z} l e f =
    let place : 256 * q ≡ 16 * (16 * q) = omega arith in
    f
    ∙ ap (λ (t : List ℕ). Yᵢ h y t (blocks (length t))) (tail_is (256 * q) s)
    ∙ ap₂ (λ (x : Block) (j : ℕ). Yᵢ h x (drop j s) (blocks (length (drop j s)))) e place
    ∙ Yᵢ-drop-all h start s (16 * q) (omega arith)

-- ---- the words of a batch

-- sixteen words f 0 .. f 15
pub record Words (f : ℕ → ℕ) (t : List ℕ) : Type 0 where
  pub size : length t ≡ 16
  pub each : (n : ℕ) → n < 16 → get_or t n 0 ≡ f n

-- y is added to the first of the blocks that were loaded
module _ (y : Block) (s : List ℕ) (at : ℕ) (hi lo : List ℕ) (k : Small y) (high : Words (λ n. number s (at + 16 * n) 8) hi)
    (low : Words (λ n. number s (at + 16 * n + 8) 8) lo) where
  abbrev hi' : List ℕ
  hi' = set hi 0 (bit_xor y.hi (get_or hi 0 0))

  abbrev lo' : List ℕ
  lo' = set lo 0 (bit_xor y.lo (get_or lo 0 0))

  abbrev joined : ℕ → ℕ
  joined n = get_or hi' n 0 * 2 ^ 64 + get_or lo' n 0

  first-is : get_or hi 0 0 * 2 ^ 64 + get_or lo 0 0 ≡ number s at 16
  first-is =
      let here : at + 16 * 0 ≡ at = omega arith in
      ap₂ (λ (x z : ℕ). x * 2 ^ 64 + z) (high.each 0 (omega arith)) (low.each 0 (omega arith))
      ∙ sym (number-split s (at + 16 * 0) 8 8)
      ∙ ap (λ (i : ℕ). number s i 16) here

  low_lt : get_or lo 0 0 < 2 ^ 64
  low_lt = rw (low.each 0 (omega arith)) (number_lt s (at + 16 * 0 + 8) 8)

  joined_first : joined 0 ≡ xor (value y) (number s at 16)
  unfolding xor
  joined_first =
      ap₂ (λ (x z : ℕ). x * 2 ^ 64 + z) (get_or-set_same hi 0 _ 0 (omega (arith, high.size))) (get_or-set_same lo 0 _ 0 (omega (arith, low.size)))
      ∙ sym (xor-split 64 y.hi (get_or hi 0 0) y.lo (get_or lo 0 0) k.lo low_lt)
      ∙ ap₂ xor (sym (value-small y k)) first-is

  joined-rest : (n : ℕ) → 0 < n → n < 16 → joined n ≡ number s (at + 16 * n) 16
  joined-rest n u v =
      ap₂ (λ (x z : ℕ). x * 2 ^ 64 + z)
      (get_or-set_other hi 0 n _ 0 (omega arith) ∙ high.each n v) (get_or-set_other lo 0 n _ 0 (omega arith) ∙ low.each n v)
      ∙ sym (number-split s (at + 16 * n) 8 8)

  -- the batch of the words: their products with the powers of H, added and then reduced
  pub batch_words : (h : Block) {w : ℕ} {r : Block} (x t : List ℕ) → ((n : ℕ) → n < 16 → get_or x n 0 ≡ joined n) → PowersIn h t
      → w ≡ total (λ n. get_or x n 0 ⊗ get_or t n 0) 16 → (w < 2 ^ 255 → r ≡ block (Vᵢ w 127)) → r ≡ Yᵢ h y (drop at s) 16
  batch_words h {w} x t loaded table e f =
      let powers : ℕ → ℕ = λ n. value (power h (16 - n)) in
      let is : w ≡ total (λ n. joined n ⊗ powers n) 16 = e ∙ total_cong 16 _ _ (λ n l. ap₂ ◌⊗◌ (loaded n l) (table n l)) in
      let bound : w < 2 ^ 255 = rw is (total-lt (λ n. joined n ⊗ powers n) 16 255 (λ n l. ⊗-lt (joined n) (powers n) (value-lt (power h (16 - n))))) in
      f bound ∙ ap block (ap (λ (v : ℕ). Vᵢ v 127) is ∙ V-total joined powers 16) ∙ batch_sum h y s at joined powers k joined_first joined-rest (λ n l. refl)

small_power : (h : Block) (k : ℕ) → Small (power h k)
unfolding power
small_power h zero = small_one
small_power h (suc k) = small-• (power h k) h

-- the powers whose words stand in two arrays
pub power-words : (h : Block) (p : List Block) (hi lo : List ℕ) → ((n : ℕ) → n < 16 → get_or p n zero_block ≡ power h (16 - n))
    → Words (λ j. (get_or p j zero_block).hi) hi → Words (λ j. (get_or p j zero_block).lo) lo → (n : ℕ) → n < 16
    → get_or hi n 0 * 2 ^ 64 + get_or lo n 0 ≡ value (power h (16 - n))
power-words h p hi lo powers high low n l =
    ap₂ (λ (x z : ℕ). x * 2 ^ 64 + z) (high.each n l) (low.each n l)
    ∙ ap (λ (b : Block). b.hi * 2 ^ 64 + b.lo) (powers n l)
    ∙ sym (value-small (power h (16 - n)) (small_power h (16 - n)))
