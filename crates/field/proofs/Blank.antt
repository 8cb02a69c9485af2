-- The sum of a blank file is the sum of its bytes (`blank-sum`), and the code's way to it: each block but the last is one of fill bytes, and Y over
-- those is such a block times H times the series.
-- It rests on the series' laws (`Series`), on a list's blocks (`BlockAt`) and on Y's (`Horner`).
use mathlib.Core.Path.{◌≡◌, refl, sym, ap, ap₂, subst, ◌∙◌}
use mathlib.Core.Bool.{true, false, or-true}
use mathlib.Core.Logic.{◌≢◌, ◌⊎◌, inl, inr}
use mathlib.Core.List.{List}
use Prim.Native.Nat.{ℕ, zero, suc, ◌+◌, ◌-◌, ◌*◌, ◌^◌, ◌≤◌, ◌<◌}
use native.Mathlib.Nat.{add-zero, eq-zero-or-pos}
use native.Mathlib.Omega.{arith}
use lib.Count.{ones}
use lib.Dec.{eqb}
use borrow.Author.Tests.{eq-eqb, ne_eqb}
use lib.ListN.{length, replicate, length-replicate, replicate-append-replicate}
use Rattle.field.specs.declared.blocks.Block.{Block}
use Rattle.field.specs.declared.multiplying.Counted.{Counted}
use Rattle.field.specs.Blocks.{◌⊕◌, ◌•◌, zero_block, one, Small, block_at}
use Rattle.field.specs.Powers.{width, digits_within}
use Rattle.field.specs.Sums.{blocks, sum}
use Rattle.field.specs.Series.{series, series_steps, fill_block, final_block, unfilled, blank_sum, blank_count, BlankSum}
use Rattle.field.specs.Ghash.{Yᵢ}
use Rattle.field.specs.Clauses.{counted}
use Rattle.field.proofs.Values.{words}
use Rattle.field.proofs.Ring.{•-⊕, ⊕-•, •-assoc, •-comm, •-zero, •-one, small-•}
use Rattle.field.proofs.BlockAt.{block_at-append_left, block_at-append_right}
use Rattle.field.proofs.Horner.{horner}
use Rattle.field.proofs.Sums.{small-sum, sum_zeros}
use Rattle.field.proofs.Series.{series-suc, series-steps-le, counted_none}

-- ---- the blocks of fill bytes

-- block j, behind whole blocks of fill bytes, is the first of what follows them
behind_whole : (fill j r : ℕ) → block_at (replicate (16 * j + r) fill) j ≡ block_at (replicate r fill) 0
behind_whole fill j r =
    ap₂ block_at (sym (replicate-append-replicate (16 * j) r fill)) (sym (add-zero j))
    ∙ block_at-append_right (replicate (16 * j) fill) (replicate r fill) j 0 (length-replicate (16 * j) fill)

-- a whole block
whole_block : (fill n j : ℕ) → 16 * suc j ≤ n → block_at (replicate n fill) j ≡ fill_block fill
unfolding fill_block
whole_block fill n j l =
    let r = n - 16 * suc j in
    let e : n ≡ 16 * j + (16 + r) = omega arith in
    ap (λ (m : ℕ). block_at (replicate m fill) j) e
    ∙ behind_whole fill j (16 + r)
    ∙ ap (λ (s : List ℕ). block_at s 0) (sym (replicate-append-replicate 16 r fill))
    ∙ block_at-append_left (replicate 16 fill) (replicate r fill) 0 (omega arith)

-- the last block: what n leaves of whole blocks
last_block : (fill n : ℕ) → 0 < n → block_at (replicate (n - 16 * (blocks n - 1)) fill) 0 ≡ final_block fill n
unfolding final_block blocks
last_block fill n p =
    let w = blocks n - 1 in
    let r = n - 16 * w in
    let all : 16 * w + r ≡ n = omega arith in
    sym (behind_whole fill w r) ∙ ap (λ (m : ℕ). block_at (replicate m fill) w) all

-- ---- the sum

-- Y over whole blocks of fill bytes
filled-Y : (h : Block) (fill n i : ℕ) → 16 * i ≤ n → Yᵢ h zero_block (replicate n fill) i ≡ fill_block fill • h • series h i
unfolding Yᵢ
filled-Y h fill n zero l = unfold series in sym (•-zero (fill_block fill • h))
filled-Y h fill n (suc i) l =
    let f = fill_block fill in
    let g = series h i in
    ap₂ (λ (a b : Block). (a ⊕ b) • h) (filled-Y h fill n i (omega arith)) (whole_block fill n i l)
    ∙ ⊕-• (f • h • g) f h
    ∙ ap₂ ◌⊕◌ (•-assoc (f • h) g h) (sym (•-one (f • h) (small-• f h)))
    ∙ sym (•-⊕ (f • h) (g • h) one)
    ∙ ap (λ (a : Block). f • h • a) (sym (series-suc h i))

-- H·(F·H·G + last block), where there is a byte
filled-sum : (h : Block) (fill n : ℕ) → 0 < n
    → h • (fill_block fill • h • series h (blocks n - 1) ⊕ final_block fill n) ≡ sum h (replicate n fill)
unfolding final_block blocks Yᵢ
filled-sum h fill n p =
    let s : List ℕ = replicate n fill in
    let w = blocks n - 1 in
    let all : suc w ≡ blocks (length s) = rw (length-replicate n fill) (omega arith) in
    ap (λ (a : Block). h • (a ⊕ block_at s w)) (sym (filled-Y h fill n w (omega arith)))
    ∙ •-comm h (Yᵢ h zero_block s w ⊕ block_at s w)
    ∙ ap (Yᵢ h zero_block s) all
    ∙ horner h s

-- no byte, or each is zero
unfilled_true : (fill n : ℕ) → (n ≡ 0) ⊎ (fill ≡ 0) → unfilled fill n ≡ true
unfolding unfilled
unfilled_true fill n (inl e) = rw (eq-eqb n 0 e)
unfilled_true fill n (inr e) = rw (eq-eqb fill 0 e) (or-true (eqb n 0))

unfilled-false : (fill n : ℕ) → n ≢ 0 → fill ≢ 0 → unfilled fill n ≡ false
unfolding unfilled
unfilled-false fill n a b = rw (ne_eqb n 0 a, ne_eqb fill 0 b)

sums : (h : Block) (fill n : ℕ) → blank_sum h fill n ≡ sum h (replicate n fill)
unfolding blank_sum
sums h fill n = by (eq-zero-or-pos n) (eq-zero-or-pos fill)
  where
    by : (n ≡ 0) ⊎ (0 < n) → (fill ≡ 0) ⊎ (0 < fill) → blank_sum h fill n ≡ sum h (replicate n fill)
    by (inl e) q = rw (unfilled_true fill n (inl e)) (rw e (sym (sum_zeros h 0)))
    by (inr p) (inl e) = rw (unfilled_true fill n (inr e)) (rw e (sym (sum_zeros h n)))
    by (inr p) (inr q) = rw (unfilled-false fill n (λ y. omega arith) (λ y. omega arith)) (filled-sum h fill n p)

nothing : (h : Block) (fill n : ℕ) → (n ≡ 0) ⊎ (fill ≡ 0) → (blank_sum h fill n ≡ zero_block) × (blank_count fill n ≡ 0)
unfolding blank_sum blank_count
nothing h fill n e = (rw (unfilled_true fill n e), rw (unfilled_true fill n e))

pub blank-sum : BlankSum
unfolding blank_count unfilled series_steps blocks width digits_within ones
blank-sum = record { sums = sums; nothing = nothing; one_block = refl; three_blocks = refl; four_blocks = refl }

pub small-blank : (h : Block) (fill n : ℕ) → Small (blank_sum h fill n)
small-blank h fill n = subst Small (sym (sums h fill n)) (small-sum h (replicate n fill))

-- ---- the code

-- nothing is multiplied
pub blank_none : (h : Block) (fill n count : ℕ) → (n ≡ 0) ⊎ (fill ≡ 0)
    → counted (words 0 0) count ≡ counted (blank_sum h fill n) (count + blank_count fill n)
blank_none h fill n count e =
    let none = nothing h fill n e in
    counted_none count (blank_count fill n) none.0 none.1

-- behind the series g the running count has room for three products
pub blank-room : (h : Block) (k count : ℕ) {g : Counted} → k < 2 ^ 64 → count + 256 < 2 ^ 64 → g ≡ counted (series h k) (count + series_steps k)
    → g.count.raised + 3 < 2 ^ 64
blank-room h k count {g} l r e = rw e (omega (arith, series-steps-le k l))

-- the three closing products, u, v and w, behind the series g of m blocks: f is a block of fill bytes, l the last block and z what is multiplied
-- last
pub blank_done : (h : Block) (fill n m count : ℕ) {g u v w : Counted} {f l z : Block} → n ≢ 0 → fill ≢ 0 → m ≡ blocks n
    → g ≡ counted (series h (m - 1)) (count + series_steps (m - 1)) → f ≡ block_at (replicate 16 fill) 0 → u ≡ counted (f • h) (g.count.raised + 1)
    → v ≡ counted (u.value • g.value) (u.count.raised + 1) → l ≡ block_at (replicate (n - 16 * (m - 1)) fill) 0 → z ≡ v.value ⊕ l
    → w ≡ counted (h • z) (v.count.raised + 1) → w ≡ counted (blank_sum h fill n) (count + blank_count fill n)
unfolding blank_sum blank_count fill_block
blank_done h fill n m count {g} {u} {v} {w} {f} {l} {z} a b em eg ef eu ev el ez ew =
    let value : Counted → Block = λ c. c.value in
    let raised : Counted → ℕ = λ c. c.count.raised in
    let all : v.count.raised + 1 ≡ count + (series_steps (m - 1) + 3) = omega (arith, ap raised eg, ap raised eu, ap raised ev) in
    let last : l ≡ final_block fill n = el ∙ rw em (last_block fill n (omega arith)) in
    let fh : u.value ≡ fill_block fill • h = ap value eu ∙ ap (λ (x : Block). x • h) ef in
    let fhg : v.value ≡ fill_block fill • h • series h (m - 1) = ap value ev ∙ ap₂ ◌•◌ fh (ap value eg) in
    rw (unfilled-false fill n a b, ← em)
    (ew ∙ ap₂ (λ (x : Block) (c : ℕ). counted (h • x) c) (ez ∙ ap₂ ◌⊕◌ fhg last) all)
