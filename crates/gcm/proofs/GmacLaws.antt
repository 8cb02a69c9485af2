-- The GMAC call, a law for each of its returns; its refusals are those of no text. They rest on the tag's laws (`TagLaws`), on those of the
-- refusals (`Refusals`) and on field's `Stores`.
use mathlib.Core.Path.{◌≡◌, sym, ap, ap₂, ◌∙◌}
use mathlib.Core.List.{List, []}
use Prim.Native.Nat.{ℕ}
use lib.ListN.{length}
use lib.Seq.{sets}
use borrow.Author.Tests.{eq-eqb, ne_eqb}
use Rattle.std.specs.Prelude.{Result, IsErr}
use Rattle.field.specs.declared.blocks.Block.{Block}
use Rattle.field.specs.Field.{bytes_of, sum}
use Rattle.field.proofs.BlockAt.{length-block_bytes}
use Rattle.field.proofs.Stores.{stored-all}
use Rattle.gcm.specs.declared.Cause.{Cause}
use Rattle.gcm.specs.Gmac.{hash_key, gmac, tag_of}
use Rattle.gcm.specs.Answers.{gmac_refusal, gmac_output, gcm_refusal}
use Rattle.gcm.specs.Clauses.{answer_refusal}
use Rattle.gcm.proofs.TagLaws.{tag-gmac}
use Rattle.gcm.proofs.Refusals.{Accepted, no_text, gcm_accepted, refused-pos}

-- what was found of the refusal that lengths decide, of no text, is the call's
pub gmac-told : (key nonce a out : List ℕ) {x : ℕ} → x ≡ gcm_refusal key nonce a [] [] out → x ≡ gmac_refusal key nonce a out
gmac-told key nonce a out e = e ∙ no_text key nonce a out

-- what the call leaves in the output, by its refusal
pub gmac_kept : (key nonce a out : List ℕ) → (gmac_refusal key nonce a out ≡ 0 → ⊥) → gmac_output key nonce a out ≡ out
unfolding gmac_output
gmac_kept key nonce a out f = simp (ne_eqb _ _ f)

pub gmac-written : (key nonce a out : List ℕ) → gmac_refusal key nonce a out ≡ 0 → gmac_output key nonce a out ≡ bytes_of (gmac key nonce a)
unfolding gmac_output
gmac-written key nonce a out z = simp (eq-eqb _ _ z)

module _ (key nonce a out : List ℕ) where
  -- where a cause was found, the output is what stood there
  pub gmac-refused : (r : Result Unit Cause) → IsErr r → answer_refusal r ≡ gmac_refusal key nonce a out → out ≡ gmac_output key nonce a out
  gmac-refused r h told = sym (gmac_kept key nonce a out (refused-pos r h told))

  -- where none was, all lengths fit
  module _ (found : 0 ≡ gcm_refusal key nonce a [] [] out) where
    pub gmac-fits : Accepted key nonce a [] [] out
    gmac-fits = gcm_accepted key nonce a [] [] out (sym found)

    -- k is the key that was read, h its hash key, s the sum of a, and x the tag
    pub gmac_done : {k t : List ℕ} {h s x : Block} → k ≡ key → h ≡ hash_key k → s ≡ sum h a → x ≡ tag_of k h s (length a) nonce
        → t ≡ sets out 0 (bytes_of x) → t ≡ gmac_output key nonce a out
    gmac_done {k} {t} {h} {s} {x} ek eh es er et =
        let h_is : h ≡ hash_key key = eh ∙ ap hash_key ek in
        let s-is : s ≡ sum (hash_key key) a = es ∙ ap (λ (b : Block). sum b a) h_is in
        let x_is : x ≡ gmac key nonce a =
        er ∙ ap₂ (λ (t : List ℕ) (b : Block). tag_of t b s (length a) nonce) ek h_is
        ∙ ap (λ (b : Block). tag_of key (hash_key key) b (length a) nonce) s-is ∙ tag-gmac key a nonce gmac-fits.short
        in
        stored-all (record { is = et; size = length-block_bytes x }) gmac-fits.size
        ∙ ap bytes_of x_is
        ∙ sym (gmac-written key nonce a out (sym (gmac-told key nonce a out found)))
