-- What an edit does to lengths (`specs/Edits`): what holds of an accepted edit, the geometry by the refusal, and what an accepted edit's shape
-- is, row by row. They rest on the refusals read backwards (`Accepted`) and on the law of how many blocks bytes fill (field's `Horner`).
use mathlib.Core.Path.{◌≡◌, refl, sym, ap, ◌∙◌}
use mathlib.Core.Bool.{Bool, true, false, cond}
use mathlib.Core.Logic.{◌≢◌}
use Prim.Native.Nat.{ℕ, ◌+◌, ◌-◌, ◌/◌, ◌%◌, ◌≤◌, ◌<◌}
use native.Mathlib.Omega.{arith}
use lib.Dec.{eqb}
use borrow.Author.Tests.{eqb-true, eq-eqb, ne_eqb}
use Rattle.field.specs.Field.{blocks, max_bytes}
use Rattle.field.proofs.BlockCounts.{blocks-value}
use Rattle.file.specs.declared.causes.Cause.{Cause}
use Rattle.file.specs.declared.causes.Cause.TheVariants.{KeyLength, TooLong, OutOfFile, UnequalPair, BrokenBlock}
use Rattle.file.specs.declared.causes.Cause.TheVariants.{NumbersUsed, SlipLength, SlipVersion}
use Rattle.file.specs.declared.geometry.Kind.{Kind}
use Rattle.file.specs.declared.geometry.Kind.TheVariants.{Change, Append, Prepend, DropFront, CutTail}
use Rattle.file.specs.declared.geometry.Shape.{Shape}
use Rattle.std.specs.Prelude.{Ok}
use Rattle.file.specs.Edits.{kind_causes, kind_refusal, stands_on, length_after, touched, exponent, Geometry, untouched, geometry}
use Rattle.file.specs.Clauses.{cause_number, geometry_of}
use Rattle.file.proofs.Accepted.{accepted}

-- ---- accepted edits

-- an accepted edit's new bytes may be taken to be as many as those given
pub same_length : (kind : Kind) (p l r n : ℕ) → kind_refusal kind p l r n ≡ 0 → kind_refusal kind p l l n ≡ 0
unfolding kind_refusal kind_causes
same_length Change p l r n e = ap (λ (x : ℕ). kind_refusal Change p l x n) (accepted Change p l r n e).fits.0 ∙ e
same_length Append p l r n e = e
same_length Prepend p l r n e = e
same_length DropFront p l r n e = e
same_length CutTail p l r n e = e

-- the bytes of an accepted edit end within the limit
pub reach : (kind : Kind) (p l r n : ℕ) → kind_refusal kind p l r n ≡ 0 → stands_on kind p l n + l ≤ max_bytes
unfolding stands_on
reach Change p l r n e = omega (arith, accepted Change p l r n e)
reach Append p l r n e = omega (arith, accepted Append p l r n e)
reach Prepend p l r n e = omega (arith, accepted Prepend p l r n e)
reach DropFront p l r n e = omega (arith, accepted DropFront p l r n e)
reach CutTail p l r n e = omega (arith, accepted CutTail p l r n e)

-- the touched blocks are those that the bytes fill behind the zero bytes before them in their first block
pub touched-blocks : (at l : ℕ) → 0 < l → touched at l ≡ blocks (at % 16 + l)
unfolding touched
touched-blocks at l h = omega (arith, blocks-value (at % 16 + l))

pub touched-some : (at l : ℕ) → 0 < l → touched at l ≢ 0
unfolding touched
touched-some at l h e = omega arith

-- ---- geometry

-- no cause has the number 0
pub cause_pos : (c : Cause) → 0 < cause_number c
cause_pos KeyLength = omega arith
cause_pos TooLong = omega arith
cause_pos OutOfFile = omega arith
cause_pos UnequalPair = omega arith
cause_pos BrokenBlock = omega arith
cause_pos NumbersUsed = omega arith
cause_pos SlipLength = omega arith
cause_pos SlipVersion = omega arith

-- a choice of two geometries has the refusal x, where the choice is whether x is 0
refusal_is : (x : ℕ) (t : Bool) (a b : Geometry) → eqb x 0 ≡ t → a.refusal ≡ 0 → b.refusal ≡ x → (cond t a b).refusal ≡ x
refusal_is x true a b e p q = p ∙ sym (eqb-true x 0 e)
refusal_is x false a b e p q = q

refusal-zero : (t : Bool) (a b : Geometry) → a.refusal ≡ 0 → b.refusal ≡ 0 → (cond t a b).refusal ≡ 0
refusal-zero true a b p q = p
refusal-zero false a b p q = q

module _ (kind : Kind) (p l r n : ℕ) where
  pub geometry-refusal : (geometry kind p l r n).refusal ≡ kind_refusal kind p l r n
  unfolding geometry
  geometry-refusal = refusal_is (kind_refusal kind p l r n) _ _ _ refl (refusal-zero (eqb l 0) _ _ refl refl) refl

  pub geometry-nothing :
      kind_refusal kind p l r n ≡ 0 → l ≡ 0 → untouched 0 n ≡ geometry kind p l r n
  unfolding geometry
  geometry-nothing e h = simp (eq-eqb _ _ e, eq-eqb _ _ h)

  -- of an accepted edit of at least one byte
  pub geometry-fits : kind_refusal kind p l r n ≡ 0 → 0 < l
      → geometry kind p l r n ≡ record {
        refusal = 0;
        lead = stands_on kind p l n % 16;
        q = touched (stands_on kind p l n) l;
        k = exponent kind p l n;
        n = length_after kind l n;
      }
  unfolding geometry
  geometry-fits e h = simp (eq-eqb _ _ e, ne_eqb _ _ (λ (z : l ≡ 0). omega arith))

  -- a refused one touches nothing
  pub geometry-none : kind_refusal kind p l r n ≢ 0 → geometry kind p l r n ≡ untouched (kind_refusal kind p l r n) n
  unfolding geometry
  geometry-none e = simp (ne_eqb _ _ e)

-- ---- the shape, row by row

-- l bytes at a place, where k counts the blocks of `to` bytes past those of `from` bytes
abbrev pub placed : (at l from to n : ℕ) → Shape
placed at l from to n = record { lead = at % 16; q = touched at l; k = blocks to - blocks from; n = n }

pub placed-counted : (at l from to n : ℕ) {b c d : ℕ} → 0 < l → b ≡ blocks (at + l) → c ≡ blocks to → d ≡ blocks from
    → record { lead = at % 16; q = b - at / 16; k = c - d; n = n } ≡ placed at l from to n
unfolding touched
placed-counted at l from to n h eb ec ed =
    let q : blocks (at + l) - at / 16 ≡ (at + l - 1) / 16 + 1 - at / 16 = omega (arith, blocks-value (at + l)) in
    rw (eb, ec, ed, q)

module _ (kind : Kind) (p l n : ℕ) (e : kind_refusal kind p l l n ≡ 0) (h : 0 < l) where
  row_fits : {x : Shape} (at from to after : ℕ) → x ≡ placed at l from to after
      → stands_on kind p l n ≡ at → exponent kind p l n ≡ blocks to - blocks from → length_after kind l n ≡ after
      → geometry_of n (Ok x) ≡ geometry kind p l l n
  row_fits at from to after ex es ek en = rw (ex, geometry-fits kind p l l n e h, es, ek, en)

  pub row-change : {x : Shape} → kind ≡ Change → x ≡ placed p l (p + l) n n → geometry_of n (Ok x) ≡ geometry kind p l l n
  unfolding stands_on exponent length_after
  row-change k ex = row_fits p (p + l) n n ex (rw k) (rw k (omega (arith, blocks-value n, blocks-value (p + l)))) (rw k)

  pub row-append : {x : Shape} → kind ≡ Append → x ≡ placed n l n (n + l) (n + l) → geometry_of n (Ok x) ≡ geometry kind p l l n
  unfolding stands_on exponent length_after
  row-append k ex = row_fits n n (n + l) (n + l) ex (rw k) (rw k) (rw k)

  pub row-prepend : {x : Shape} → kind ≡ Prepend → x ≡ placed 0 l 0 n (n + l) → geometry_of n (Ok x) ≡ geometry kind p l l n
  unfolding stands_on exponent length_after
  row-prepend k ex = row_fits 0 0 n (n + l) ex (rw k) (rw k (omega (arith, blocks-value 0))) (rw k)

  pub row_drop : {x : Shape} → kind ≡ DropFront → x ≡ placed 0 l l n (n - l) → geometry_of n (Ok x) ≡ geometry kind p l l n
  unfolding stands_on exponent length_after touched
  row_drop k ex = row_fits 0 l n (n - l) ex (rw k) (rw k (omega (arith, blocks-value n, blocks-value l))) (rw k)

  pub row_cut : {x : Shape} → kind ≡ CutTail → x ≡ placed (n - l) l (n - l) n (n - l) → geometry_of n (Ok x) ≡ geometry kind p l l n
  unfolding stands_on exponent length_after
  row_cut k ex = row_fits (n - l) (n - l) n (n - l) ex (rw k) (rw k) (rw k)
