-- What the public calls' refusals tell: a refused call leaves its output as it was, and where nothing is refused all lengths fit and
-- the output is the work's. They rest on the definitions (`specs/Answers`), on the laws of the first cause that holds (`refusals`)
-- and on the law of sixteen bytes written (`Packed`).
use mathlib.Core.Path.{◌≡◌, refl, sym, ap, ap₂, ◌∙◌}
use mathlib.Core.Bool.{Bool, false, cond}
use mathlib.Core.List.{List}
use Prim.Native.Nat.{ℕ, ◌≤◌}
use native.Mathlib.Omega.{arith}
use lib.Dec.{eqb}
use lib.ListN.{length}
use lib.Seq.{sets}
use borrow.Author.Tests.{ltb-false}
use Rattle.std.specs.Prelude.{Result, Ok, Err}
use Rattle.refusals.proofs.Laws.{first_passed, agreed}
use Rattle.field.specs.declared.blocks.Block.{Block}
use Rattle.field.specs.declared.multiplying.Counted.{Counted}
use Rattle.field.specs.declared.Cause.{Cause}
use Rattle.field.specs.declared.Cause.TheVariants.{InputLength, TooLong, PartLength, OutputLength, SumsLength}
use Rattle.field.specs.Blocks.{◌•◌, block_at, bytes_of}
use Rattle.field.specs.Ghash.{ghash}
use Rattle.field.specs.Clauses.{cause_number, answer_refusal, counted}
use Rattle.field.specs.Answers.{max_bytes, multiply_refusal, multiply_output, ghash_refusal, ghash_output}
use Rattle.field.proofs.Packed.{bytes_of_whole}

-- no cause has the number 0
pub cause_not-0 : (cause : Cause) → eqb (cause_number cause) 0 ≡ false
cause_not-0 InputLength = refl
cause_not-0 TooLong = refl
cause_not-0 PartLength = refl
cause_not-0 OutputLength = refl
cause_not-0 SumsLength = refl

-- a call whose refusal is n leaves what stood in its output where it is refused
kept : {r : Result Unit Cause} {cause : Cause} (n : ℕ) (work out : List ℕ) → answer_refusal r ≡ n → r ≡ Err cause → out ≡ cond (eqb n 0) work out
kept {r} {cause} n work out e f =
    ap (λ (b : Bool). cond b work out) (sym (ap (λ (m : ℕ). eqb m 0) (sym e ∙ ap answer_refusal f) ∙ cause_not-0 cause))

-- and where it is done, a block's bytes that were written over sixteen
written : {b w : Block} {t : List ℕ} (n : ℕ) (out : List ℕ) → n ≡ 0 → length out ≡ 16 → b ≡ w → t ≡ sets out 0 (bytes_of b)
    → t ≡ cond (eqb n 0) (bytes_of w) out
written {b} {w} n out z l e f =
    f ∙ bytes_of_whole b out l ∙ ap bytes_of e ∙ ap (λ (m : ℕ). cond (eqb m 0) (bytes_of w) out) (sym z)

-- ---- the block call, whose answer is r

module _ (a b out : List ℕ) {r : Result Unit Cause} (e : answer_refusal r ≡ multiply_refusal a b out) where
  pub multiply_refused : {cause : Cause} → r ≡ Err cause → out ≡ multiply_output a b out
  unfolding multiply_output
  multiply_refused f = kept _ _ out e f

  pub multiply_fits : r ≡ Ok tt → length out ≡ 16
  unfolding multiply_refusal
  multiply_fits f =
      let after-a = first_passed _ _ _ (sym e ∙ ap answer_refusal f) (omega arith) in
      let after-b = first_passed _ _ _ after-a.1 (omega arith) in
      agreed _ _ (first_passed _ _ _ after-b.1 (omega arith)).0

  -- p and q are the blocks that were read, and w their counted product
  pub multiply_done : {p q : Block} {n : ℕ} {w : Counted} {t : List ℕ} → r ≡ Ok tt → p ≡ block_at a 0 → q ≡ block_at b 0 → w ≡ counted (p • q) n
      → t ≡ sets out 0 (bytes_of w.value) → t ≡ multiply_output a b out
  unfolding multiply_output
  multiply_done f ep eq ew et =
      written _ out (sym e ∙ ap answer_refusal f) (multiply_fits f) (ap (λ (x : Counted). x.value) ew ∙ ap₂ ◌•◌ ep eq) et

-- ---- GHASH, whose answer is r

module _ (h a c out : List ℕ) {r : Result Unit Cause} (e : answer_refusal r ≡ ghash_refusal h a c out) where
  pub ghash-refused : {cause : Cause} → r ≡ Err cause → out ≡ ghash_output h a c out
  unfolding ghash_output
  ghash-refused f = kept _ _ out e f

  pub ghash-fits : r ≡ Ok tt → (length out ≡ 16) × (length a ≤ max_bytes) × (length c ≤ max_bytes)
  unfolding ghash_refusal
  ghash-fits f =
      let after-h = first_passed _ _ _ (sym e ∙ ap answer_refusal f) (omega arith) in
      let after-out = first_passed _ _ _ after-h.1 (omega arith) in
      let after-a = first_passed _ _ _ after-out.1 (omega arith) in
      let after-c = first_passed _ _ _ after-a.1 (omega arith) in
      (search agreed, search ltb-false, search ltb-false)

  -- k is the block that was read of h, and w the hash
  pub ghash_done : {k w : Block} {t : List ℕ} → r ≡ Ok tt → k ≡ block_at h 0 → w ≡ ghash k a c → t ≡ sets out 0 (bytes_of w)
      → t ≡ ghash_output h a c out
  unfolding ghash_output
  ghash_done f ek ew et =
      written _ out (sym e ∙ ap answer_refusal f) (ghash-fits f).0 (ew ∙ ap (λ (b : Block). ghash b a c) ek) et
