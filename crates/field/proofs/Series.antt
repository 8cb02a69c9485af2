-- The sum of H^0 to H^(k − 1): how it grows by one power, how it doubles, what it counts, and the loop that builds it from the highest digit of k
-- down. It rests on the laws of powers (`Powers`), of the field (`Ring`) and of a number's digits (`Steps`).
use mathlib.Core.Path.{◌≡◌, refl, sym, ap, ap₂, subst, ◌∙◌}
use Prim.Native.Nat.{ℕ, zero, suc, ◌+◌, ◌-◌, ◌*◌, ◌/◌, ◌%◌, ◌^◌, ◌≤◌, ◌<◌}
use native.Mathlib.Nat.{add_comm, add-zero, add-suc, lt_of_le_of_lt, pow-suc}
use native.Mathlib.Numerals.{add-one}
use native.Mathlib.Omega.{arith}
use lib.Count.{ones_step}
use lib.Pow.{shr_lt, shr_le, shr_mono, shl-shr, shr-shr}
use Rattle.field.specs.declared.blocks.Block.{Block}
use Rattle.field.specs.declared.multiplying.Count.{Count}
use Rattle.field.specs.declared.filling.Powers.{Powers}
use Rattle.field.specs.Blocks.{◌⊕◌, ◌•◌, zero_block, one, Small}
use Rattle.field.specs.Powers.{power}
use Rattle.field.specs.Series.{series, series_steps}
use Rattle.field.specs.Clauses.{counted, powers_to}
use Rattle.field.proofs.Values.{words, zero-words, small-zero, small_one}
use Rattle.field.proofs.Ring.{⊕-assoc, ⊕-comm, ⊕-zero, zero-⊕, •-comm, ⊕-•, zero-•, small-⊕}
use Rattle.field.proofs.Powers.{power_zero, power-suc, power-one, power-add}
use Rattle.field.proofs.Steps.{width-half, width-pos, ones_pos, ones-le-width, leading-width}

-- ---- the series

pub small-series : (h : Block) (k : ℕ) → Small (series h k)
unfolding series
small-series h zero = small-zero
small-series h (suc k) = small-⊕ _ _

-- one power more: each power times H, and H^0
pub series-suc : (h : Block) (k : ℕ) → series h (suc k) ≡ series h k • h ⊕ one
unfolding series
series-suc h zero = ap₂ ◌⊕◌ (sym (zero-• h)) (power_zero h)
series-suc h (suc k) =
    let g = series h k in
    let p = power h k in
    ap₂ ◌⊕◌ (series-suc h k) (power-suc h k)
    ∙ ⊕-assoc (g • h) one (p • h)
    ∙ ap (◌⊕◌ (g • h)) (⊕-comm one (p • h))
    ∙ sym (⊕-assoc (g • h) (p • h) one)
    ∙ ap (λ (a : Block). a ⊕ one) (sym (⊕-• g p h))

-- k powers more: those of k, each times H^j
pub series-add : (h : Block) (j k : ℕ) → series h (j + k) ≡ series h j ⊕ series h k • power h j
unfolding series
series-add h j zero =
    ap (series h) (add-zero j) ∙ sym (ap (◌⊕◌ (series h j)) (zero-• (power h j)) ∙ ⊕-zero (series h j) (small-series h j))
series-add h j (suc k) =
    let g = series h k in
    let p = power h j in
    ap (series h) (add-suc j k)
    ∙ ap₂ ◌⊕◌ (series-add h j k) (power-add h j k ∙ •-comm p (power h k))
    ∙ ⊕-assoc (series h j) (g • p) (power h k • p)
    ∙ ap (◌⊕◌ (series h j)) (sym (⊕-• g (power h k) p))

-- ---- what it counts

-- a digit more behind the others: two products, and two more where it is a one
pub series-steps-half : (k : ℕ) → 0 < k / 2 → series_steps k ≡ series_steps (k / 2) + 2 + 2 * (k % 2)
unfolding series_steps
series-steps-half k h = omega (arith, width-half k (omega arith), ones_step k, width-pos (k / 2) h, ones_pos (k / 2) h)

-- none for at most one power
pub series-steps-bit : (k : ℕ) → k ≤ 1 → series_steps k ≡ 0
unfolding series_steps
series-steps-bit k h = omega (arith, ones-le-width k, leading-width 1 k (omega arith))

-- a k of 64 bits takes at most 252
pub series-steps-le : (k : ℕ) → k < 2 ^ 64 → series_steps k ≤ 252
unfolding series_steps
series-steps-le k h = omega (arith, leading-width 64 k h, ones-le-width k)

-- ---- the loop

-- nothing is multiplied, where the sum x is zero and the count y is 0
pub counted_none : (n y : ℕ) {x : Block} → x ≡ zero_block → y ≡ 0 → counted (words 0 0) n ≡ counted x (n + y)
counted_none n y ex ey = ap₂ counted (zero-words ∙ sym ex) (sym (ap (◌+◌ n) ey ∙ add-zero n))

-- so for no power
pub series-none : (h : Block) (k n : ℕ) → k ≡ 0 → counted (words 0 0) n ≡ counted (series h k) (n + series_steps k)
unfolding series
series-none h k n e = counted_none n (series_steps k) (ap (series h) e) (series-steps-bit k (omega arith))

-- of n powers s holds the sum and the next power, and total is its running count
pub record Built (h : Block) (n total : ℕ) (s : Powers) : Type 0 where
  pub sum_is : s.sum ≡ series h n
  pub next_is : s.next ≡ power h n
  pub count-is : s.count.raised ≡ total

built_one : (h : Block) (total : ℕ) → Small h → Built h 1 total (powers_to one h total)
unfolding series
built_one h total small =
    record {
      sum_is = sym (ap (◌⊕◌ zero_block) (power_zero h) ∙ zero-⊕ one small_one);
      next_is = sym (power-one h small);
      count-is = refl;
    }

module _ {h : Block} {n total : ℕ} {s : Powers} (b : Built h n total s) where
  built_double : {d : Powers} → d ≡ powers_to (s.sum • s.next ⊕ s.sum) (s.next • s.next) (s.count.raised + 2)
      → Built h (2 * n) (total + 2) d
  built_double e =
      let twice : n + n ≡ 2 * n = omega arith in
      record {
        sum_is = ap (λ (x : Powers). x.sum) e
            ∙ ap₂ (λ (a p : Block). a • p ⊕ a) b.sum_is b.next_is
            ∙ ⊕-comm (series h n • power h n) (series h n)
            ∙ sym (series-add h n n)
            ∙ ap (series h) twice;
        next_is = ap (λ (x : Powers). x.next) e ∙ ap₂ ◌•◌ b.next_is b.next_is ∙ sym (power-add h n n) ∙ ap (power h) twice;
        count-is = ap (λ (x : Powers). x.count.raised) e ∙ ap (λ (x : ℕ). x + 2) b.count-is;
      }

  built_next : {r : Powers} → r ≡ powers_to (s.sum • h ⊕ one) (s.next • h) (s.count.raised + 2) → Built h (suc n) (total + 2) r
  built_next e =
      record {
        sum_is = ap (λ (x : Powers). x.sum) e ∙ ap (λ (a : Block). a • h ⊕ one) b.sum_is ∙ sym (series-suc h n);
        next_is = ap (λ (x : Powers). x.next) e ∙ ap (λ (p : Block). p • h) b.next_is ∙ sym (power-suc h n);
        count-is = ap (λ (x : Powers). x.count.raised) e ∙ ap (λ (x : ℕ). x + 2) b.count-is;
      }

-- what holds before each turn: s is built for k without its last digits, of which left are left
pub record Building (h : Block) (k : ℕ) (count : Count) (s : Powers) (left : ℕ) : Type 0 where
  pub within : left ≤ 63
  pub some : 0 < k / 2 ^ left
  pub built : Built h (k / 2 ^ left) (count.raised + series_steps (k / 2 ^ left)) s

-- the highest digit is a one
highest : (k j : ℕ) → 2 ^ j ≤ k → k < 2 * 2 ^ j → k / 2 ^ j ≡ 1
highest k j low high =
    let least : 1 * 2 ^ j / 2 ^ j ≤ k / 2 ^ j = shr_mono j (omega (arith, low)) in
    let most : k < 2 ^ (1 + j) = rw (add_comm 1 j, add-one, pow-suc) (omega (arith, high)) in
    omega (arith, least, shl-shr 1 j, shr_lt {n = k} 1 j most)

-- j is the place of the highest
pub building_start : (h : Block) (k j : ℕ) (count : Count) → Small h → 2 ^ j ≤ k → k < 2 * 2 ^ j → j < 64
    → Building h k count (powers_to one h count.raised) j
building_start h k j count small low high l =
    let top = highest k j low high in
    let steps : count.raised ≡ count.raised + series_steps 1 = omega (arith, series-steps-bit 1 (omega arith)) in
    let s = powers_to one h count.raised in
    record {
      within = omega arith;
      some = rw top (omega arith);
      built = rw top (subst (λ (x : ℕ). Built h 1 x s) steps (built_one h count.raised small));
    }

module _ {h : Block} {k : ℕ} {count : Count} {s : Powers} {left : ℕ} (b : Building h k count s left) where
  -- the running count has room for the four products of a turn
  pub building_room : k < 2 ^ 64 → count.raised + 256 < 2 ^ 64 → s.count.raised + 4 < 2 ^ 64
  building_room l r = omega (arith, b.built.count-is, series-steps-le (k / 2 ^ left) (lt_of_le_of_lt (shr_le k left) l))

  module _ (some : 0 < left) where
    -- k without its last digits, with one digit more
    more : ℕ
    more = k / 2 ^ (left - 1)

    more_half : more / 2 ≡ k / 2 ^ left
    unfolding more
    more_half =
        let e : left - 1 + 1 ≡ left = omega arith in
        shr-shr k (left - 1) 1 ∙ ap (λ (j : ℕ). k / 2 ^ j) e

    more_steps : series_steps more ≡ series_steps (k / 2 ^ left) + 2 + 2 * (more % 2)
    more_steps =
        series-steps-half more (rw more_half b.some) ∙ ap (λ (x : ℕ). series_steps x + 2 + 2 * (more % 2)) more_half

    built_more : {n total : ℕ} {x : Powers} → n ≡ more → total ≡ count.raised + series_steps more → Built h n total x
        → Building h k count x (left - 1)
    unfolding more
    built_more {n} {total} {x} en et c =
        record {
          within = omega (arith, b.within);
          some = omega (arith, more_half, b.some);
          built = subst (λ (y : ℕ). Built h more y x) et (subst (λ (y : ℕ). Built h y total x) en c);
        }

    -- a turn where the digit is a zero: d is s doubled
    pub building_zero : {d : Powers} → d ≡ powers_to (s.sum • s.next ⊕ s.sum) (s.next • s.next) (s.count.raised + 2)
        → k / 2 ^ (left - 1) % 2 ≡ 0 → Building h k count d (left - 1)
    unfolding more
    building_zero e z =
        built_more (omega (arith, more_half)) (omega (arith, more_steps)) (built_double b.built e)

    -- and where it is a one: r is d with one power more
    pub building_one : {d r : Powers} → d ≡ powers_to (s.sum • s.next ⊕ s.sum) (s.next • s.next) (s.count.raised + 2)
        → r ≡ powers_to (d.sum • h ⊕ one) (d.next • h) (d.count.raised + 2) → k / 2 ^ (left - 1) % 2 ≡ 1 → Building h k count r (left - 1)
    unfolding more
    building_one e f z =
        built_more (omega (arith, more_half)) (omega (arith, more_steps)) (built_next (built_double b.built e) f)
