-- Strings of sixteen bytes one behind the other: how long they are together, which of them stands at a place, and that a list is them by its
-- blocks. They rest on lib.Seq.
use mathlib.Core.Path.{◌≡◌, refl, sym, ap, ap₂, ◌∙◌}
use mathlib.Core.Logic.{◌⊎◌, inl, inr}
use mathlib.Core.List.{List, ◌++◌}
use Prim.Native.Nat.{ℕ, zero, suc, ◌+◌, ◌*◌, ◌/◌, ◌%◌, ◌<◌}
use native.Mathlib.Nat.{not-suc-le-zero, eq-or-lt_of_le, le_of_suc-le-suc}
use native.Mathlib.Omega.{arith}
use lib.ListN.{length, get_or, take, drop, length-append, length-drop}
use lib.Seq.{take_all, take-append-le, drop-append-le, drop_at, take-add, get_or-take, get_or-drop}
use Rattle.gcm.specs.Counters.{concatenated}

-- a list is the strings that are its blocks
pub by_blocks : (f : ℕ → List ℕ) (n : ℕ) (s : List ℕ) → ((i : ℕ) → i < n → take 16 (drop (16 * i) s) ≡ f i) → take (16 * n) s ≡ concatenated f n
unfolding concatenated
by_blocks f zero s h = refl
by_blocks f (suc n) s h =
    let size : 16 * suc n ≡ 16 * n + 16 = omega arith in
    ap (λ (k : ℕ). take k s) size
    ∙ take-add (16 * n) 16 s
    ∙ ap₂ ◌++◌ (by_blocks f n s (λ i l. h i (omega arith))) (h n (omega arith))

module _ (f : ℕ → List ℕ) (sixteen : (i : ℕ) → length (f i) ≡ 16) where
  pub length-concatenated : (n : ℕ) → length (concatenated f n) ≡ 16 * n
  unfolding concatenated
  length-concatenated zero = refl
  length-concatenated (suc n) = length-append (concatenated f n) (f n) ∙ omega (arith, length-concatenated n, sixteen n)

  block_more : (n i : ℕ) → (i < n → take 16 (drop (16 * i) (concatenated f n)) ≡ f i) → (i ≡ n) ⊎ (i < n)
      → take 16 (drop (16 * i) (concatenated f n ++ f n)) ≡ f i
  block_more n i before (inl e) =
      let front : length (concatenated f n) ≡ 16 * i = length-concatenated n ∙ ap (λ (k : ℕ). 16 * k) (sym e) in
      ap (take 16) (drop_at (concatenated f n) (f n) (16 * i) front)
      ∙ take_all 16 (f n) (omega (arith, sixteen n))
      ∙ ap f (sym e)
  block_more n i before (inr l) =
      let size = length-concatenated n in
      ap (take 16) (drop-append-le (16 * i) (concatenated f n) (f n) (omega arith))
      ∙ take-append-le 16 (drop (16 * i) (concatenated f n)) (f n) (rw length-drop (omega arith))
      ∙ before l

  -- the string at a place
  pub block_of : (n i : ℕ) → i < n → take 16 (drop (16 * i) (concatenated f n)) ≡ f i
  unfolding concatenated
  block_of zero i l = absurd (not-suc-le-zero l)
  block_of (suc n) i l = block_more n i (block_of n i) (eq-or-lt_of_le (le_of_suc-le-suc l))

  -- and its bytes
  pub get_d_concatenated : (n k : ℕ) → k < 16 * n → get_or (concatenated f n) k 0 ≡ get_or (f (k / 16)) (k % 16) 0
  get_d_concatenated n k l =
      let place : 16 * (k / 16) + k % 16 ≡ k = omega arith in
      ap (λ (i : ℕ). get_or (concatenated f n) i 0) (sym place)
      ∙ sym
      (get_or-take 16 (drop (16 * (k / 16)) (concatenated f n)) (k % 16) 0 (omega arith)
      ∙ get_or-drop (16 * (k / 16)) (concatenated f n) (k % 16) 0)
      ∙ ap (λ (s : List ℕ). get_or s (k % 16) 0) (block_of n (k / 16) (omega arith))
