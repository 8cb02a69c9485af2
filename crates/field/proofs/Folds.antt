-- Horner's rule as code goes it: over lead zero bytes followed by two lists added byte by byte, of which each block is read by
-- itself; the loop's invariant; and the same over one list. They rest on the laws of a list's blocks (`BlockAt`) and of added
-- lists (`XorBytes`).
use mathlib.Core.Path.{◌≡◌, refl, sym, ap, ap₂, ◌∙◌}
use mathlib.Core.List.{List, [], ◌++◌}
use Prim.Native.Nat.{ℕ, ◌+◌, ◌≤◌, ◌<◌, zero-le}
use native.Mathlib.Nat.{add-zero}
use native.Mathlib.Numerals.{add-one}
use native.Mathlib.Omega.{arith}
use lib.ListN.{length, replicate}
use Rattle.field.specs.declared.blocks.Block.{Block}
use Rattle.field.specs.declared.multiplying.Count.{Count}
use Rattle.field.specs.declared.multiplying.Counted.{Counted}
use Rattle.field.specs.Bytes.{xor_bytes}
use Rattle.field.specs.Blocks.{◌⊕◌, ◌•◌, block_at}
use Rattle.field.specs.Sums.{blocks}
use Rattle.field.specs.Ghash.{Yᵢ}
use Rattle.field.specs.Clauses.{counted}
use Rattle.field.proofs.XorBytes.{xor_bytes-zeros, xor_bytes-lead}
use Rattle.field.proofs.BlockAt.{block_at-xor}

-- a block behind lead zero bytes is the sum of the lists' blocks
block_at-lead : (lead : ℕ) (a b : List ℕ) (i : ℕ)
    → block_at (replicate lead 0 ++ a) i ⊕ block_at (replicate lead 0 ++ b) i ≡ block_at (replicate lead 0 ++ xor_bytes a b) i
block_at-lead lead a b i =
    sym (block_at-xor (replicate lead 0 ++ a) (replicate lead 0 ++ b) i) ∙ ap (λ (s : List ℕ). block_at s i) (xor_bytes-lead lead a b)

-- the loop's invariant: y is Y after i of q blocks, and the running count has their products in it
pub record Folding (h start : Block) (lead : ℕ) (a b : List ℕ) (q : ℕ) (count : Count) (y : Block) (n : Count) (i : ℕ) : Type 0 where
  pub within : i ≤ q
  pub y_is : y ≡ Yᵢ h start (replicate lead 0 ++ xor_bytes a b) i
  pub n_is : n.raised ≡ count.raised + i

pub folding_start : (h start : Block) (lead : ℕ) (a b : List ℕ) (q : ℕ) (count : Count)
    → Folding h start lead a b q count start count 0
unfolding Yᵢ
folding_start h start lead a b q count = record { within = omega arith; y_is = refl; n_is = sym (add-zero count.raised) }

module _ {h start : Block} {lead : ℕ} {a b : List ℕ} {q : ℕ} {count : Count} {y : Block} {n : Count} {i : ℕ}
    (f : Folding h start lead a b q count y n i) where
  -- one block more: u and v are the lists' blocks, x their sum, z its sum with y, and p what the counted product gives
  pub folding_next : {u v x z : Block} {p : Counted} → i < q → u ≡ block_at (replicate lead 0 ++ a) i → v ≡ block_at (replicate lead 0 ++ b) i
      → x ≡ u ⊕ v → z ≡ y ⊕ x → p ≡ counted (z • h) (n.raised + 1) → Folding h start lead a b q count p.value p.count (i + 1)
  unfolding Yᵢ
  folding_next {u} {v} {x} {z} {p} l eu ev ex ez ep =
      let block : x ≡ block_at (replicate lead 0 ++ xor_bytes a b) i = ex ∙ ap₂ ◌⊕◌ eu ev ∙ block_at-lead lead a b i in
      record {
        within = omega arith;
        y_is = rw add-one (ap (λ (r : Counted). r.value) ep ∙ ap (λ (t : Block). t • h) (ez ∙ ap₂ ◌⊕◌ f.y_is block));
        n_is = omega (arith, ap (λ (r : Counted). r.count.raised) ep, f.n_is);
      }

-- over all the blocks of one list: nothing in front, and nothing added
pub folded : (h start : Block) (s : List ℕ) (q : ℕ) {y : Block} → q ≡ blocks (length s) → y ≡ Yᵢ h start (xor_bytes s []) q
    → y ≡ Yᵢ h start s (blocks (length s))
folded h start s q e f = f ∙ ap₂ (Yᵢ h start) (xor_bytes-zeros s 0 zero-le) e
