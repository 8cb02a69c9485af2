-- Counts of hash keys: from sequences of keys to the number of all that pass a test (`at_most`), and what makes that number larger (`grows`).
use mathlib.Core.Path.{◌≡◌, refl, sym, ap, subst, ◌∙◌}
use mathlib.Core.Bool.{Bool, true, false, cond}
use mathlib.Core.Logic.{◌≢◌}
use mathlib.Core.List.{List, ◌∷◌}
use Prim.Native.Nat.{ℕ, zero, suc, ◌^◌, ◌≤◌, ◌<◌}
use native.Mathlib.Nat.{le_refl, le_step, le_trans, le_of_suc-le, le_of_suc-le-suc, not-suc-le-zero, lt_irrefl}
use lib.ListN.{length, get_or}
use Rattle.field.specs.declared.blocks.Block.{Block}
use Rattle.field.specs.Blocks.{value, block, Small, zero_block}
use Rattle.field.specs.Strength.{DifferentKeys, passing, how_many, AtMostKeys}
use Rattle.field.proofs.ComputedTests.{and_next}
use Rattle.field.proofs.Values.{value-block, small-block}

-- a block that passes the test, of a number below n
record Passes (test : Block → Bool) (n : ℕ) (h : Block) : Type 0 where
  small : Small h
  below : value h < n
  pass : test h ≡ true

-- different ones
record Passed (test : Block → Bool) (n : ℕ) (keys : List Block) : Type 0 where
  each : (i : ℕ) → i < length keys → Passes test n (get_or keys i zero_block)
  different : (i j : ℕ) → i < j → j < length keys → get_or keys i zero_block ≢ get_or keys j zero_block

weakened : {test : Block → Bool} {n : ℕ} {h : Block} → Passes test n h → Passes test (suc n) h
weakened p = record { small = p.small; below = le_step p.below; pass = p.pass }

-- with the next block, where it passes
next : (test : Block → Bool) (n : ℕ) (t : Bool) (keys : List Block) → test (block n) ≡ t → n < 2 ^ 128 → Passed test n keys
    → Passed test (suc n) (cond t (block n ∷ keys) keys)
next test n false keys e l p = record { each = λ i k. weakened (p.each i k); different = p.different }
next test n true keys e l p = record { each = each; different = different }
  where
    each : (i : ℕ) → i < suc (length keys) → Passes test (suc n) (get_or (block n ∷ keys) i zero_block)
    each zero k = record { small = small-block n l; below = rw (value-block n l) (le_refl (suc n)); pass = e }
    each (suc i) k = weakened (p.each i (le_of_suc-le-suc k))

    different : (i j : ℕ) → i < j → j < suc (length keys) → get_or (block n ∷ keys) i zero_block ≢ get_or (block n ∷ keys) j zero_block
    different i zero m k f = not-suc-le-zero m
    different zero (suc j) m k f =
        lt_irrefl n (subst (λ (v : ℕ). v < n) (sym (ap value f) ∙ value-block n l) (p.each j (le_of_suc-le-suc k)).below)
    different (suc i) (suc j) m k f = p.different i j (le_of_suc-le-suc m) (le_of_suc-le-suc k) f

longer : (t : Bool) (h : Block) (keys : List Block) → length keys ≤ length (cond t (h ∷ keys) keys)
longer true h keys = le_step (le_refl _)
longer false h keys = le_refl _

module _ (test : Block → Bool) where
  passed : (n : ℕ) → n ≤ 2 ^ 128 → Passed test n (passing test n)
  unfolding passing
  passed zero l = record { each = λ i k. absurd (not-suc-le-zero k); different = λ i j m k f. not-suc-le-zero k }
  passed (suc n) l = next test n (test (block n)) (passing test n) refl l (passed n (le_of_suc-le l))

  -- one block more that passes makes them more
  pub grows : (v n : ℕ) → v < n → test (block v) ≡ true → length (passing test v) < length (passing test n)
  unfolding passing
  grows v zero l e = absurd (not-suc-le-zero l)
  grows v (suc n) l e =
      and_next (λ (v : ℕ). test (block v) ≡ true → length (passing test v) < length (passing test (suc n))) n
      (λ e. rw e (le_refl _)) (λ v m e. le_trans (grows v n m e) (longer (test (block n)) (block n) (passing test n))) v l e

-- a bound of all sequences is one of the number
pub at_most : (n : ℕ) (P : Block → Type 0)
    → ((keys : List Block) → DifferentKeys keys → ((i : ℕ) → i < length keys → P (get_or keys i zero_block)) → length keys ≤ n) → AtMostKeys n P
unfolding how_many
at_most n P sequences = record { sequences = sequences; number = number }
  where
    number : (test : Block → Bool) → ((h : Block) → test h ≡ true → P h) → length (passing test (2 ^ 128)) ≤ n
    number test has =
        let p = passed test (2 ^ 128) (le_refl _) in
        sequences (passing test (2 ^ 128)) (record { small = λ i k. (p.each i k).small; different = p.different })
        (λ i k. has _ (p.each i k).pass)

-- what has P has Q
pub fewer : {n : ℕ} {P Q : Block → Type 0} → ((h : Block) → P h → Q h) → AtMostKeys n Q → AtMostKeys n P
fewer {n} {P} f a = at_most n P (λ keys d has. a.sequences keys d (λ i k. f _ (has i k)))
