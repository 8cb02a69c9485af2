-- The loops of seek and of the companion: what holds after each turn, and that it ends in the power asked for. It rests on the
-- laws of powers (`Powers`) and of seek's steps (`Steps`).
use mathlib.Core.Path.{◌≡◌, refl, sym, ap, ap₂, ◌∙◌}
use Prim.Native.Nat.{ℕ, suc, ◌+◌, ◌-◌, ◌*◌, ◌/◌, ◌%◌, ◌^◌, ◌≤◌, ◌<◌}
use native.Mathlib.Nat.{add-zero}
use native.Mathlib.Numerals.{add-one}
use native.Mathlib.Omega.{arith}
use lib.Pow.{pow_pos}
use Rattle.field.specs.declared.blocks.Block.{Block}
use Rattle.field.specs.declared.multiplying.Count.{Count}
use Rattle.field.specs.declared.multiplying.Counted.{Counted}
use Rattle.field.specs.Blocks.{◌•◌, one, Small}
use Rattle.field.specs.Powers.{power, companion, steps}
use Rattle.field.specs.Clauses.{counted, sought}
use Rattle.field.proofs.Ring.{•-assoc, •-one, one-•}
use Rattle.field.proofs.Powers.{small_power, power-one, power-add, power-square}
use Rattle.field.proofs.Steps.{steps-half, steps-le, steps-bit}

-- ---- one bit of the exponent

-- where it is zero
pub times-bit-zero : (y x : Block) (n d : ℕ) → Small y → d ≡ 0 → counted y n ≡ counted (y • power x d) (n + d)
unfolding power
times-bit-zero y x n d s e = rw e (ap₂ counted (sym (•-one y s)) (sym (add-zero n)))

-- where it is one
pub times-bit-one : {r : Counted} (y x : Block) (n d : ℕ) → Small x → d ≡ 1 → r ≡ counted (y • x) (n + 1)
    → r ≡ counted (y • power x d) (n + d)
times-bit-one y x n d s e f = f ∙ rw (e, power-one x s)

-- ---- seek

-- what holds before each turn: y times x to what is left of the exponent is the power, and the running count with the steps left
-- is the last count
pub record Seeking (base : Block) (k : ℕ) (count : Count) (y x : Block) (left : ℕ) (n : Count) : Type 0 where
  pub power_is : y • power x left ≡ power base k
  pub count-is : n.raised + steps left ≡ count.raised + steps k

pub seeking_start : (base : Block) (k : ℕ) (count : Count) → Seeking base k count one base k count
seeking_start base k count = record { power_is = one-• (power base k) (small_power base k); count-is = refl }

module _ {base : Block} {k : ℕ} {count : Count} {y x : Block} {left : ℕ} {n : Count} (s : Seeking base k count y x left n) where
  -- one turn: p holds y, and q holds x, after it
  pub seeking_next : {p q : Counted} → 1 < left → p ≡ counted (y • power x (left % 2)) (n.raised + left % 2) → q ≡ counted (x • x) (p.count.raised + 1)
      → Seeking base k count p.value q.value (left / 2) q.count
  seeking_next {p} {q} l e f =
      let d = left % 2 in
      let h = left / 2 in
      let whole : d + 2 * h ≡ left = omega arith in
      record {
        power_is =
            ap₂ (λ (a b : Counted). a.value • power b.value h) e f
            ∙ ap (λ (a : Block). y • power x d • a) (power-square x h)
            ∙ •-assoc y (power x d) (power x (2 * h))
            ∙ ap (λ (a : Block). y • a) (sym (power-add x d (2 * h)) ∙ ap (power x) whole)
            ∙ s.power_is;
        count-is = omega (arith, ap (λ (a : Counted). a.count.raised) e, ap (λ (a : Counted). a.count.raised) f, steps-half left (omega arith));
      }

  -- the running count has room for each product of a turn
  pub seeking_room : k < 2 ^ 64 → count.raised + 128 < 2 ^ 64 → n.raised < 2 ^ 64 - 1
  seeking_room h l = omega (arith, s.count-is, steps-le k h)

  pub seeking_room-2 : k < 2 ^ 64 → count.raised + 128 < 2 ^ 64 → 1 < left → n.raised + left % 2 < 2 ^ 64 - 1
  seeking_room-2 h l m = omega (arith, s.count-is, steps-le k h, steps-half left (omega arith))

  -- the last bit
  pub seeking_done : {p : Counted} {t : ℕ} → left ≤ 1 → p ≡ counted (y • power x left) (n.raised + left) → t ≡ steps k
      → sought p.value t p.count.raised ≡ sought (power base k) (steps k) (count.raised + steps k)
  seeking_done {p} {t} l e f =
      let c : n.raised + left ≡ count.raised + steps k = omega (arith, s.count-is, steps-bit left l) in
      rw f
      (ap₂ (λ (a : Block) (m : ℕ). sought a (steps k) m)
      (ap (λ (a : Counted). a.value) e ∙ s.power_is)
      (ap (λ (a : Counted). a.count.raised) e ∙ c))

-- ---- the companion

-- what holds after j turns
pub record Doubling (h : Block) (j : ℕ) (x y : Block) : Type 0 where
  pub within : j ≤ 127
  pub x_is : x ≡ power h (2 ^ j)
  pub y_is : y ≡ power h (2 ^ suc j - 2)

pub doubling_start : (h : Block) → Small h → Doubling h 0 h one
unfolding power
doubling_start h s = record { within = omega arith; x_is = sym (power-one h s); y_is = refl }

pub doubling_next : {h x y x' y' : Block} {j : ℕ} → Doubling h j x y → j < 127 → x' ≡ x • x → y' ≡ y • x' → Doubling h (j + 1) x' y'
doubling_next {h} {x} {y} {x'} {y'} {j} t l e f =
    let twice : 2 ^ j + 2 ^ j ≡ 2 ^ suc j = omega arith in
    let more : 2 ^ suc j - 2 + 2 ^ suc j ≡ 2 ^ suc (suc j) - 2 = omega (arith, pow_pos j) in
    let x-next : x' ≡ power h (2 ^ suc j) = e ∙ ap₂ ◌•◌ t.x_is t.x_is ∙ sym (power-add h (2 ^ j) (2 ^ j)) ∙ ap (power h) twice in
    rw add-one (record {
      within = l;
      x_is = x-next;
      y_is = f ∙ ap₂ ◌•◌ t.y_is x-next ∙ sym (power-add h (2 ^ suc j - 2) (2 ^ suc j)) ∙ ap (power h) more;
    })

pub doubling_done : {h x y : Block} {j : ℕ} → Doubling h j x y → 127 ≤ j → y ≡ companion h
unfolding companion
doubling_done {h} {x} {y} {j} t l =
    let e : j ≡ 127 = omega arith in
    t.y_is ∙ ap (λ (i : ℕ). power h (2 ^ suc i - 2)) e
