-- Parts joined: the sum of the whole by Horner's rule over the parts, from the front (`onward-sum`), and of parts one behind the other (`joined-append`,
-- `parts-append`); and the invariant of code's loop over them. They rest on the laws of the field (`Ring`, `Powers`) and of a list's blocks (`BlockAt`).
use mathlib.Core.Path.{◌≡◌, refl, sym, ap, ap₂, ◌∙◌}
use mathlib.Core.List.{List, [], ◌∷◌, ◌++◌, flatten, append_assoc}
use Prim.Native.Nat.{ℕ, suc, ◌+◌, ◌*◌, ◌≤◌, ◌<◌}
use native.Mathlib.Nat.{add-zero, zero-add, add-suc, add_assoc}
use native.Mathlib.Numerals.{add-one}
use native.Mathlib.Omega.{arith}
use lib.ListN.{length, get_or, drop, replicate, drop_of_length-le}
use lib.Seq.{drop-cons}
use Rattle.field.specs.declared.blocks.Block.{Block}
use Rattle.field.specs.declared.multiplying.Counted.{Counted}
use Rattle.field.specs.Blocks.{◌⊕◌, ◌•◌, zero_block, one, Small, block_at, bytes_of}
use Rattle.field.specs.Powers.{power}
use Rattle.field.specs.Sums.{blocks}
use Rattle.field.specs.Parts.{Part, parts_of, blocks_in, joined_sum}
use Rattle.field.specs.Clauses.{counted}
use Rattle.field.proofs.Values.{small-zero}
use Rattle.field.proofs.Ring.{⊕-assoc, ⊕-zero, zero-⊕, •-assoc, ⊕-•, zero-•, •-one, small-⊕, small-•}
use Rattle.field.proofs.Powers.{power-add}
use Rattle.field.proofs.BlockAt.{block_at-append_left, block_at-append_right, block_at-bytes_of, length-block_bytes}

-- ---- Horner's rule over parts

-- what is joined so far is y: it goes times H to the blocks of the next part, whose sum is added
unfoldable pub onward : Block → Block → List Part → Block
onward h y [] = y
onward h y (p ∷ after) = onward h (y • power h (blocks p.n) ⊕ p.s) after

pub small-joined : (h : Block) (ps : List Part) → Small (joined_sum h ps)
unfolding joined_sum
small-joined h [] = small-zero
small-joined h (p ∷ after) = small-⊕ _ _

onward-sum : (h y : Block) (ps : List Part) → Small y → onward h y ps ≡ y • power h (blocks_in ps) ⊕ joined_sum h ps
unfolding onward blocks_in joined_sum power
onward-sum h y [] k = sym (⊕-zero (y • one) (small-• y one) ∙ •-one y k)
onward-sum h y (p ∷ after) k =
    let a = power h (blocks p.n) in
    let b = power h (blocks_in after) in
    onward-sum h (y • a ⊕ p.s) after (small-⊕ _ _)
    ∙ ap (λ (x : Block). x ⊕ joined_sum h after) (⊕-• (y • a) p.s b)
    ∙ ⊕-assoc (y • a • b) (p.s • b) (joined_sum h after)
    ∙ ap (λ (x : Block). x ⊕ (p.s • b ⊕ joined_sum h after))
    (•-assoc y a b ∙ ap (◌•◌ y) (sym (power-add h (blocks p.n) (blocks_in after))))

-- from nothing it is the sum of the whole
onward-all : (h : Block) (ps : List Part) → onward h zero_block ps ≡ joined_sum h ps
onward-all h ps =
    onward-sum h zero_block ps small-zero
    ∙ ap (λ (x : Block). x ⊕ joined_sum h ps) (zero-• (power h (blocks_in ps)))
    ∙ zero-⊕ (joined_sum h ps) (small-joined h ps)

onward-append : (h y : Block) (ps qs : List Part) → onward h y (ps ++ qs) ≡ onward h (onward h y ps) qs
unfolding onward
onward-append h y [] qs = refl
onward-append h y (p ∷ ps) qs = onward-append h (y • power h (blocks p.n) ⊕ p.s) ps qs

-- of parts one behind the other: the sum of the first goes times H to the blocks of the others
pub joined-append : (h : Block) (ps qs : List Part) → joined_sum h (ps ++ qs) ≡ joined_sum h ps • power h (blocks_in qs) ⊕ joined_sum h qs
joined-append h ps qs =
    sym (onward-all h (ps ++ qs))
    ∙ onward-append h zero_block ps qs
    ∙ ap (λ (y : Block). onward h y qs) (onward-all h ps)
    ∙ onward-sum h (joined_sum h ps) qs (small-joined h ps)

pub blocks_in-append : (ps qs : List Part) → blocks_in (ps ++ qs) ≡ blocks_in ps + blocks_in qs
unfolding blocks_in
blocks_in-append [] qs = sym (zero-add (blocks_in qs))
blocks_in-append (p ∷ ps) qs =
    ap (◌+◌ (blocks p.n)) (blocks_in-append ps qs) ∙ sym (add_assoc (blocks p.n) (blocks_in ps) (blocks_in qs))

-- ---- the parts of two lists of sums and of lengths, one behind the other

parts_behind : (s t : List ℕ) (j i : ℕ) (l : List ℕ) → length s ≡ 16 * j → parts_of (s ++ t) (j + i) l ≡ parts_of t i l
unfolding parts_of
parts_behind s t j i [] e = refl
parts_behind s t j i (n ∷ l) e =
    ap₂ (λ (b : Block) (ps : List Part). record { s = b; n = n } ∷ ps) (block_at-append_right s t j i e)
    (ap (λ (x : ℕ). parts_of (s ++ t) x l) (sym (add-suc j i)) ∙ parts_behind s t j (suc i) l e)

parts_from : (s t : List ℕ) (i : ℕ) (l m : List ℕ) → length s ≡ 16 * (i + length l)
    → parts_of (s ++ t) i (l ++ m) ≡ parts_of s i l ++ parts_of t 0 m
unfolding parts_of
parts_from s t i [] m e = ap (λ (x : ℕ). parts_of (s ++ t) x m) (sym (add-zero i)) ∙ parts_behind s t i 0 m (omega arith)
parts_from s t i (n ∷ l) m e =
    ap₂ (λ (b : Block) (ps : List Part). record { s = b; n = n } ∷ ps) (block_at-append_left s t i (omega arith)) (parts_from s t (suc i) l m (omega arith))

-- the first list has a sum for each of its lengths
pub parts-append : (s t l m : List ℕ) → length s ≡ 16 * length l → parts_of (s ++ t) 0 (l ++ m) ≡ parts_of s 0 l ++ parts_of t 0 m
parts-append s t l m e = parts_from s t 0 l m (omega arith)

-- a block's bytes in front are the first part's sum
pub parts_front : (b : Block) (n : ℕ) (s l : List ℕ) → Small b → parts_of (bytes_of b ++ s) 0 (n ∷ l) ≡ record { s = b; n = n } ∷ parts_of s 0 l
parts_front b n s l k =
    parts-append (bytes_of b) s (n ∷ []) l (length-block_bytes b)
    ∙ unfold parts_of in ap (λ (c : Block). record { s = c; n = n } ∷ parts_of s 0 l) (block_at-bytes_of b k)

-- ---- the bytes of two lists of files, one behind the other

pub flatten_append : (a b : List (List ℕ)) → flatten (a ++ b) ≡ flatten a ++ flatten b
unfolding flatten
flatten_append [] b = refl
flatten_append (x ∷ a) b = ap (λ (y : List ℕ). x ++ y) (flatten_append a b) ∙ sym (append_assoc x (flatten a) (flatten b))

-- ---- the loop over the parts

-- after i parts y is what is joined so far: going on over the others gives what all give
pub record Joining (h : Block) (sums lengths : List ℕ) (y : Block) (i : ℕ) : Type 0 where
  pub within : i ≤ length lengths
  pub is : onward h y (parts_of sums i (drop i lengths)) ≡ onward h zero_block (parts_of sums 0 lengths)

pub joining_start : (h : Block) (sums lengths : List ℕ) → Joining h sums lengths zero_block 0
joining_start h sums lengths = record { within = omega arith; is = refl }

module _ {h : Block} {sums lengths : List ℕ} {y : Block} {i : ℕ} (j : Joining h sums lengths y i) where
  -- one part more: k are its blocks, p is y times the power, b the part's sum and z what is joined then
  pub joining_next : {k m : ℕ} {p : Counted} {b z : Block} → i < length lengths → k ≡ blocks (get_or lengths i 0) → p ≡ counted (y • power h k) m
      → b ≡ block_at (replicate 0 0 ++ sums) i → z ≡ p.value ⊕ b → Joining h sums lengths z (i + 1)
  unfolding onward parts_of
  joining_next {k} {m} {p} {b} {z} l ek ep eb ez =
      let next : z ≡ y • power h (blocks (get_or lengths i 0)) ⊕ block_at sums i =
      ez ∙ ap₂ ◌⊕◌ (ap (λ (c : Counted). c.value) ep ∙ ap (λ (n : ℕ). y • power h n) ek) eb in
      rw add-one (record {
        within = l;
        is =
            ap (λ (x : Block). onward h x (parts_of sums (suc i) (drop (suc i) lengths))) next
            ∙ ap (λ (t : List ℕ). onward h y (parts_of sums i t)) (sym (drop-cons lengths i 0 l))
            ∙ j.is;
      })

  pub joining_done : length lengths ≤ i → y ≡ joined_sum h (parts_of sums 0 lengths)
  unfolding onward parts_of
  joining_done l =
      ap (λ (t : List ℕ). onward h y (parts_of sums i t)) (sym (drop_of_length-le lengths l))
      ∙ j.is
      ∙ onward-all h (parts_of sums 0 lengths)
