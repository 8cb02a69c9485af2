-- The lengths of parts: their total, as code finds it (`Totalling`); whether all but the last are whole blocks, as code finds it (`unaligned-front`); both of
-- parts one behind the other; and that the blocks of the total are then those of all the parts.
use mathlib.Core.Path.{◌≡◌, refl, sym, ap, ◌∙◌}
use mathlib.Core.Bool.{Bool, true, false, not, ◌||◌, true≢false}
use mathlib.Core.List.{List, [], ◌∷◌, ◌++◌, append-nil}
use Prim.Native.Nat.{ℕ, suc, ◌+◌, ◌-◌, ◌%◌, ◌≤◌, ◌<◌}
use native.Mathlib.Nat.{add-zero, zero-add}
use native.Mathlib.Numerals.{add-one}
use native.Mathlib.Omega.{arith}
use lib.Dec.{eqb}
use lib.ListN.{length, get_or, take, drop, drop_of_length-le}
use lib.Seq.{drop-cons}
use borrow.Author.Tests.{eq-eqb}
use Rattle.std.specs.List.{list_any}
use Rattle.refusals.proofs.Laws.{agreed}
use Rattle.field.specs.Sums.{blocks}
use Rattle.field.specs.Answers.{max_bytes}
use Rattle.field.specs.Parts.{parts_of, blocks_in, total_of, unaligned}

-- ---- the loop that adds up

total-drop : (lengths : List ℕ) (i : ℕ) → i < length lengths → total_of (drop i lengths) ≡ get_or lengths i 0 + total_of (drop (suc i) lengths)
unfolding total_of
total-drop lengths i l = ap total_of (drop-cons lengths i 0 l)

-- after i lengths: their sum has not passed the limit, and with the others it is the total
pub record Totalling (lengths : List ℕ) (sum i : ℕ) : Type 0 where
  pub within : i ≤ length lengths
  pub room : sum ≤ max_bytes
  pub is : sum + total_of (drop i lengths) ≡ total_of lengths

module _ {lengths : List ℕ} {sum i : ℕ} (t : Totalling lengths sum i) where
  pub totalling_next : i < length lengths → get_or lengths i 0 ≤ max_bytes - sum → Totalling lengths (sum + get_or lengths i 0) (i + 1)
  totalling_next l r =
      rw add-one (record { within = l; room = omega (arith, t.room); is = omega (arith, t.is, total-drop lengths i l) })

  pub totalling_over : i < length lengths → max_bytes - sum < get_or lengths i 0 → max_bytes < total_of lengths
  totalling_over l r = omega (arith, t.room, t.is, total-drop lengths i l)

  pub totalling_done : length lengths ≤ i → (sum ≡ total_of lengths) × (sum ≤ max_bytes)
  unfolding total_of
  totalling_done l =
      (sym (add-zero sum) ∙ ap (λ (r : List ℕ). sum + total_of r) (sym (drop_of_length-le lengths l)) ∙ t.is, t.room)

-- ---- the lengths but the last

-- as code looks at them
pub unaligned-front : (s : List ℕ) → list_any (λ n. not (eqb (n % 16) 0)) (take (length s - 1) s) ≡ unaligned s
unfolding unaligned
unaligned-front [] = refl
unaligned-front (n ∷ []) = refl
unaligned-front (n ∷ k ∷ l) =
    let more : length (n ∷ k ∷ l) - 1 ≡ suc (length (k ∷ l) - 1) = omega arith in
    ap (λ (i : ℕ). list_any (λ m. not (eqb (m % 16) 0)) (take i (n ∷ k ∷ l))) more
    ∙ ap (◌||◌ (not (eqb (n % 16) 0))) (unaligned-front (k ∷ l))

-- of at most one length there are none
pub unaligned-one : (lengths : List ℕ) → length lengths ≤ 1 → unaligned lengths ≡ false
unfolding unaligned
unaligned-one [] l = refl
unaligned-one (n ∷ []) l = refl
unaligned-one (n ∷ next ∷ after) l = absurd (omega arith)

-- ---- lengths one behind the other

pub total-append : (l m : List ℕ) → total_of (l ++ m) ≡ total_of l + total_of m
unfolding total_of
total-append [] m = sym (zero-add (total_of m))
total-append (n ∷ l) m = omega (arith, total-append l m)

or-false : (a b : Bool) → a || b ≡ false → (a ≡ false) × (b ≡ false)
or-false true b e = absurd (true≢false e)
or-false false b e = (refl, e)

-- a length with another behind it
aligned_next : (n k : ℕ) (l : List ℕ) → unaligned (n ∷ k ∷ l) ≡ false → (n % 16 ≡ 0) × (unaligned (k ∷ l) ≡ false)
unfolding unaligned
aligned_next n k l e =
    let here = or-false (not (eqb (n % 16) 0)) (unaligned (k ∷ l)) e in
    (agreed (n % 16) 0 here.0, here.1)

pub aligned-cons : (n : ℕ) (l : List ℕ) → n % 16 ≡ 0 → unaligned l ≡ false → unaligned (n ∷ l) ≡ false
unfolding unaligned
aligned-cons n [] z e = refl
aligned-cons n (k ∷ l) z e = ap (λ (t : Bool). not t || unaligned (k ∷ l)) (eq-eqb _ _ z) ∙ e

-- without one of them
pub aligned-without : (l : List ℕ) (n : ℕ) (m : List ℕ) → unaligned (l ++ (n ∷ m)) ≡ false → unaligned (l ++ m) ≡ false
unfolding unaligned
aligned-without [] n [] e = refl
aligned-without [] n (k ∷ m) e = (aligned_next n k m e).1
aligned-without (a ∷ []) n [] e = refl
aligned-without (a ∷ []) n (k ∷ m) e =
    let here = aligned_next a n (k ∷ m) e in
    aligned-cons a (k ∷ m) here.0 (aligned_next n k m here.1).1
aligned-without (a ∷ b ∷ l) n m e =
    let here = aligned_next a b (l ++ (n ∷ m)) e in
    aligned-cons a (b ∷ l ++ m) here.0 (aligned-without (b ∷ l) n m here.1)

-- what stands in front of two lists, each with a part, makes no difference
pub unaligned_front : (l : List ℕ) (a b : ℕ) (p q : List ℕ) → unaligned (a ∷ p) ≡ unaligned (b ∷ q) → unaligned (l ++ (a ∷ p)) ≡ unaligned (l ++ (b ∷ q))
unfolding unaligned
unaligned_front [] a b p q e = e
unaligned_front (n ∷ []) a b p q e = ap (◌||◌ (not (eqb (n % 16) 0))) e
unaligned_front (n ∷ k ∷ l) a b p q e = ap (◌||◌ (not (eqb (n % 16) 0))) (unaligned_front (k ∷ l) a b p q e)

-- aligned parts with more behind them: their total counts for their last
total_behind : (n : ℕ) (l : List ℕ) (k : ℕ) (m : List ℕ) → unaligned (n ∷ l) ≡ false
    → unaligned (total_of (n ∷ l) ∷ k ∷ m) ≡ unaligned (n ∷ l ++ (k ∷ m))
unfolding unaligned total_of
total_behind n [] k m e = ap (λ (x : ℕ). not (eqb (x % 16) 0) || unaligned (k ∷ m)) (add-zero n)
total_behind n (a ∷ l) k m e =
    let here = aligned_next n a l e in
    let same : (n + total_of (a ∷ l)) % 16 ≡ total_of (a ∷ l) % 16 = omega (arith, here.0) in
    ap (λ (x : ℕ). not (eqb x 0) || unaligned (k ∷ m)) same
    ∙ total_behind a l k m here.1
    ∙ ap (λ (t : Bool). not t || unaligned (a ∷ l ++ (k ∷ m))) (sym (eq-eqb (n % 16) 0 here.0))

pub total-alone : (n : ℕ) (l m : List ℕ) → unaligned (n ∷ l) ≡ false → unaligned (total_of (n ∷ l) ∷ m) ≡ unaligned (n ∷ l ++ m)
total-alone n l [] e = unfold unaligned in sym e ∙ ap unaligned (sym (append-nil (n ∷ l)))
total-alone n l (k ∷ m) e = total_behind n l k m e

-- ---- their blocks

blocks-add : (n m : ℕ) → n % 16 ≡ 0 → blocks (n + m) ≡ blocks n + blocks m
unfolding blocks
blocks-add n m z = omega arith

-- the blocks of the total are those of all the parts
pub blocks-total : (s : List ℕ) (i : ℕ) (l : List ℕ) → unaligned l ≡ false → blocks (total_of l) ≡ blocks_in (parts_of s i l)
unfolding total_of unaligned blocks_in parts_of
blocks-total s i [] e = unfold blocks in omega arith
blocks-total s i (n ∷ []) e = unfold blocks in omega arith
blocks-total s i (n ∷ k ∷ l) e =
    let here = aligned_next n k l e in
    blocks-add n (total_of (k ∷ l)) here.0 ∙ ap (◌+◌ (blocks n)) (blocks-total s (suc i) (k ∷ l) here.1)
