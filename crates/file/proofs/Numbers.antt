-- The seal numbers of a list of calls: one call of the machine issues at most the next one, and numbers issued one after the other stand in a
-- row. It rests on what one call answers (`Calls`).
use mathlib.Core.Path.{◌≡◌, refl, sym, ap, ap₂, ◌∙◌}
use mathlib.Core.Logic.{◌≢◌, ◌⊎◌, inl, inr}
use mathlib.Core.List.{List, [], ◌∷◌, ◌++◌}
use Prim.Native.Nat.{ℕ, zero, suc, ◌+◌, ◌<◌}
use native.Mathlib.Omega.{arith}
use native.Mathlib.Nat.{eq-zero-or-pos, zero-add, suc-add}
use lib.ListN.{length, get_or}
use Rattle.file.specs.Calls.{Call, edit, seal, check}
use Rattle.file.specs.Machine.{Machine, with_bytes, with_last, accepted_by, refused_by, machine_refusal, machine_answer}
use Rattle.file.specs.Demands.{up_from}
use Rattle.file.proofs.Calls.{machine-refused, machine-accepted}

-- ---- consecutive numbers

length-up_from : (a k : ℕ) → length (up_from a k) ≡ k
unfolding up_from
length-up_from a zero = refl
length-up_from a (suc k) = ap suc (length-up_from (a + 1) k)

get_d_up_from : (a k i : ℕ) → i < k → get_or (up_from a k) i 0 ≡ a + i
unfolding up_from
get_d_up_from a zero i h = absurd (omega arith)
get_d_up_from a (suc k) zero h = omega arith
get_d_up_from a (suc k) (suc i) h = get_d_up_from (a + 1) k i (omega arith) ∙ omega arith

up_from-append : (a b k j : ℕ) → b ≡ a + k → up_from a k ++ up_from b j ≡ up_from a (k + j)
unfolding up_from
up_from-append a b zero j e =
    let same : b ≡ a = omega arith in
    rw (same, zero-add)
up_from-append a b (suc k) j e = rw suc-add (ap {B = List ℕ} (◌∷◌ a) (up_from-append (a + 1) b k j (omega arith)))

-- numbers issued one after the other, by which a last used number rises
pub record Rise (last : ℕ) (numbers : List ℕ) (now : ℕ) : Type 0 where
  pub count : ℕ
  pub following : numbers ≡ up_from (last + 1) count
  pub risen : now ≡ last + count

pub rise-none : (a : ℕ) → Rise a [] a
unfolding up_from
rise-none a = record { count = 0; following = refl; risen = omega arith }

rise_one : (a : ℕ) → Rise a ((a + 1) ∷ []) (a + 1)
unfolding up_from
rise_one a = record { count = 1; following = refl; risen = refl }

pub rise-join : (a b c : ℕ) (x y : List ℕ) → Rise a x b → Rise b y c → Rise a (x ++ y) c
rise-join a b c x y p q =
    record {
      count = p.count + q.count;
      following = ap₂ ◌++◌ p.following q.following ∙ up_from-append (a + 1) (b + 1) p.count q.count (omega arith);
      risen = omega arith;
    }

-- so they are all the numbers from the next one on, as many as there are
pub rise-numbers : (a b : ℕ) (x : List ℕ) → Rise a x b → x ≡ up_from (a + 1) (length x)
rise-numbers a b x p = p.following ∙ ap (up_from (a + 1)) (sym (ap length p.following ∙ length-up_from (a + 1) p.count))

pub rise-count : (a b : ℕ) (x : List ℕ) → Rise a x b → b ≡ a + length x
rise-count a b x p = omega (arith, ap length p.following ∙ length-up_from (a + 1) p.count)

pub rise_at : (a b : ℕ) (x : List ℕ) → Rise a x b → (i : ℕ) → i < length x → get_or x i 0 ≡ a + 1 + i
rise_at a b x p i l = ap (λ (y : List ℕ). get_or y i 0) (rise-numbers a b x p) ∙ get_d_up_from (a + 1) (length x) i l

-- and none stands twice
pub rise-distinct : (a b : ℕ) (x : List ℕ) → Rise a x b → (i j : ℕ) → i < j → j < length x → get_or x i 0 ≢ get_or x j 0
rise-distinct a b x p i j l r e = omega (arith, rise_at a b x p i (omega arith), rise_at a b x p j r)

-- ---- the seal numbers of one call

rise-accepted : (m : Machine) (c : Call) → Rise m.last (accepted_by m c).issued (accepted_by m c).machine.last
unfolding accepted_by with_bytes with_last
rise-accepted m (edit e) = rise-none m.last
rise-accepted m (seal out) = rise_one m.last
rise-accepted m (check slip) = rise-none m.last

rise-refused : (m : Machine) (r : ℕ) → Rise m.last (refused_by m r).issued (refused_by m r).machine.last
unfolding refused_by
rise-refused m r = rise-none m.last

rise_by : (m : Machine) (c : Call) → (machine_refusal m c ≡ 0) ⊎ (0 < machine_refusal m c)
    → Rise m.last (machine_answer m c).issued (machine_answer m c).machine.last
rise_by m c (inl z) = rw (machine-accepted m c z) (rise-accepted m c)
rise_by m c (inr z) = rw (machine-refused m c (λ y. omega arith)) (rise-refused m (machine_refusal m c))

pub rise-call : (m : Machine) (c : Call) → Rise m.last (machine_answer m c).issued (machine_answer m c).machine.last
rise-call m c = rise_by m c (eq-zero-or-pos (machine_refusal m c))
