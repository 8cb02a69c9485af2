-- The five edits and what each does to lengths (document 01, "The file and its five edits"): from the kind, the place p, the lengths of
-- the given bytes and the file's length n alone.
use Rattle.std.specs.Prelude.{Bool, cond, not, List, [], ◌∷◌, ℕ, ◌+◌, ◌-◌, ◌*◌, ◌/◌, ◌%◌, max, eqb, ltb, length}
use Rattle.file.specs.declared.geometry.Kind.{Kind}
use Rattle.file.specs.declared.geometry.Kind.TheVariants.{Change, Append, Prepend, DropFront, CutTail}
use Rattle.refusals.specs.Refusals.{first}
use Rattle.field.specs.Field.{blocks, steps, width, max_bytes}

-- an edit with its own bytes (document 01, "The file and its five edits")
pub data Edit : Type 0 where
  change : (p : ℕ) (old new : List ℕ) → Edit
  append : (given : List ℕ) → Edit
  prepend : (given : List ℕ) → Edit
  drop_front : (given : List ℕ) → Edit
  cut_tail : (given : List ℕ) → Edit

-- which of the five edits it is (document 01, "The file and its five edits")
unfoldable pub kind_of : Edit → Kind
kind_of (change p old new) = Change
kind_of (append s) = Append
kind_of (prepend s) = Prepend
kind_of (drop_front s) = DropFront
kind_of (cut_tail s) = CutTail

-- p of a change (document 01, "The file and its five edits"); the others have none, and it is 0
unfoldable pub place_of : Edit → ℕ
place_of (change p old new) = p
place_of (append s) = 0
place_of (prepend s) = 0
place_of (drop_front s) = 0
place_of (cut_tail s) = 0

-- the given bytes, of a change the old ones (document 01, "The file and its five edits")
unfoldable pub given : Edit → List ℕ
given (change p old new) = old
given (append s) = s
given (prepend s) = s
given (drop_front s) = s
given (cut_tail s) = s

-- the new bytes of a change (document 01, "The file and its five edits"); the others have none
unfoldable pub replacing : Edit → List ℕ
replacing (change p old new) = new
replacing (append s) = []
replacing (prepend s) = []
replacing (drop_front s) = []
replacing (cut_tail s) = []

-- the causes for which a kind of edit is refused, in their order (document 01, "Causes and their numbers"): l bytes are given, of a change r
-- new ones
unfoldable pub kind_causes : Kind → (p l r n : ℕ) → List (Bool × ℕ)
kind_causes Change p l r n = (not (eqb l r), 4) ∷ (ltb n (p + l), 3) ∷ []
kind_causes Append p l r n = (ltb max_bytes (n + l), 2) ∷ []
kind_causes Prepend p l r n = (not (eqb (l % 16) 0), 5) ∷ (ltb max_bytes (n + l), 2) ∷ []
kind_causes DropFront p l r n = (not (eqb (l % 16) 0), 5) ∷ (ltb n l, 3) ∷ []
kind_causes CutTail p l r n = (ltb n l, 3) ∷ []

-- the refusal: 2 for a length n that passes the limit comes before all else (document 01, "The file and its five edits")
unfoldable pub kind_refusal : Kind → (p l r n : ℕ) → ℕ
kind_refusal kind p l r n = first ((ltb max_bytes n, 2) ∷ kind_causes kind p l r n)

-- the place in the file where the given bytes stand (document 01, "The file and its five edits")
unfoldable pub stands_on : Kind → (p l n : ℕ) → ℕ
stands_on Change p l n = p
stands_on Append p l n = n
stands_on Prepend p l n = 0
stands_on DropFront p l n = 0
stands_on CutTail p l n = n - l

-- the file's length afterwards (document 01, "The file and its five edits")
unfoldable pub length_after : Kind → (l n : ℕ) → ℕ
length_after Change l n = n
length_after Append l n = n + l
length_after Prepend l n = n + l
length_after DropFront l n = n - l
length_after CutTail l n = n - l

-- q: how many blocks are touched by l bytes, at least one, that stand at a place (document 01, "The file and its five edits")
unfoldable pub touched : (at l : ℕ) → ℕ
touched at l = (at + l - 1) / 16 + 1 - at / 16

-- k of the table (document 01, "The file and its five edits"): m = blocks n, m' = blocks of the length afterwards,
-- e = (p + l - 1) / 16 the last touched block, and of drop-front q = touched 0 l
unfoldable pub exponent : Kind → (p l n : ℕ) → ℕ
exponent Change p l n = blocks n - 1 - (p + l - 1) / 16
exponent Append p l n = blocks (n + l) - blocks n
exponent Prepend p l n = blocks n
exponent DropFront p l n = blocks n - touched 0 l
exponent CutTail p l n = blocks n - blocks (n - l)

-- what an edit does to lengths (document 01, "The file and its five edits"): the refusal or 0; of an accepted edit of at least one byte
-- how many zero bytes stand before the given ones in their first block, q and k; and the length afterwards
pub record Geometry : Type 0 where
  pub refusal : ℕ
  pub lead : ℕ
  pub q : ℕ
  pub k : ℕ
  pub n : ℕ

-- of an edit that touches no block (document 01, "The file and its five edits"): one that is refused, or one of no bytes
abbrev pub untouched : (refusal n : ℕ) → Geometry
untouched refusal n = record { refusal = refusal; lead = 0; q = 0; k = 0; n = n }

-- what an edit of l bytes at p does so to a file of n bytes, r the new bytes of a change (document 01, "The file and its five edits")
unfoldable pub geometry : Kind → (p l r n : ℕ) → Geometry
geometry kind p l r n =
    cond (eqb (kind_refusal kind p l r n) 0)
    (cond (eqb l 0) (untouched 0 n)
    (record {
      refusal = 0;
      lead = stands_on kind p l n % 16;
      q = touched (stands_on kind p l n) l;
      k = exponent kind p l n;
      n = length_after kind l n;
    }))
    (untouched (kind_refusal kind p l r n) n)

-- the same of an edit with its bytes (document 01, "The file and its five edits")
unfoldable pub geometry_at : ℕ → Edit → Geometry
geometry_at n e = geometry (kind_of e) (place_of e) (length (given e)) (length (replacing e)) n

-- the refusal of an edit of a file of n bytes (document 01, "Causes and their numbers")
unfoldable pub edit_refusal : ℕ → Edit → ℕ
edit_refusal n e = (geometry_at n e).refusal

-- the count: q + seek(k) + 1, and 0 where no block is touched (document 01, "The file and its five edits")
unfoldable pub count_of : Geometry → ℕ
count_of g = cond (eqb g.q 0) 0 (g.q + steps g.k + 1)

-- q + 2b, b the width of the larger of the block counts before, of n bytes, and after (document 01, "The file and its five edits")
unfoldable pub count_limit : ℕ → Geometry → ℕ
count_limit n g = g.q + 2 * width (max (blocks n) (blocks g.n))
