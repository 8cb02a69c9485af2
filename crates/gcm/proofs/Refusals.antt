-- The refusals that lengths decide: forwards, past the causes of key and nonce; backwards, what holds where nothing is refused, and that
-- nothing is where it holds. And that GMAC's are those of no text.
use mathlib.Core.Path.{◌≡◌, refl, sym, ap}
use mathlib.Core.Bool.{true, false, not, false≢true}
use mathlib.Core.List.{List, [], ◌∷◌}
use Prim.Native.Nat.{ℕ, ◌<◌, ◌≤◌}
use native.Mathlib.Omega.{arith}
use lib.Dec.{eqb}
use lib.ListN.{length}
use borrow.Author.Tests.{ne_eqb, le-ltb, ltb-false, eqb-false, not-false}
use Rattle.std.specs.Prelude.{Result, Ok, Err, IsErr}
use Rattle.refusals.specs.Refusals.{first}
use Rattle.refusals.proofs.Laws.{first_none, first_later, first_passed, agree, agreed}
use Rattle.cipher.specs.Aes.{key_fits}
use Rattle.field.specs.Field.{max_bytes}
use Rattle.gcm.specs.declared.Cause.{Cause}
use Rattle.gcm.specs.declared.Cause.TheVariants.{KeyLength, EmptyNonce, TagLength, TextLength, TooLong, TextTooLong, WrongTag}
use Rattle.gcm.specs.Answers.{max_text, gmac_refusal, gcm_refusal}
use Rattle.gcm.specs.Clauses.{cause_number, answer_refusal, long_causes}

-- with no text, the causes are GMAC's
pub no_text : (key nonce a tag : List ℕ) → gcm_refusal key nonce a [] [] tag ≡ gmac_refusal key nonce a tag
unfolding gcm_refusal gmac_refusal first
no_text key nonce a tag = refl

-- what holds where nothing is refused
pub record Accepted (key nonce a text out tag : List ℕ) : Type 0 where
  pub fits : key_fits key ≡ true
  pub some_nonce : length nonce ≡ 0 → ⊥
  pub size : length tag ≡ 16
  pub same : length text ≡ length out
  pub short_nonce : length nonce ≤ max_bytes
  pub short : length a ≤ max_bytes
  pub short_text : length text ≤ max_text

module _ (key nonce a text out tag : List ℕ) where
  -- past the nonce's cause
  pub past_nonce : {x : ℕ} → not (key_fits key) ≡ false → (length nonce ≡ 0 → ⊥)
      → x ≡ first ((not (eqb (length tag) 16), 7) ∷ (not (eqb (length text) (length out)), 7) ∷ long_causes nonce a text)
      → x ≡ gcm_refusal key nonce a text out tag
  unfolding gcm_refusal
  past_nonce k n e = first_later _ _ _ k (first_later _ _ _ (ne_eqb _ _ n) e)

  pub gcm_accepted : gcm_refusal key nonce a text out tag ≡ 0 → Accepted key nonce a text out tag
  unfolding gcm_refusal
  gcm_accepted e =
      let k = first_passed _ _ _ e (omega arith) in
      let n = first_passed _ _ _ k.1 (omega arith) in
      let t = first_passed _ _ _ n.1 (omega arith) in
      let o = first_passed _ _ _ t.1 (omega arith) in
      let ln = first_passed _ _ _ o.1 (omega arith) in
      let la = first_passed _ _ _ ln.1 (omega arith) in
      let lt = first_passed _ _ _ la.1 (omega arith) in
      record {
        fits = not-false _ k.0;
        some_nonce = eqb-false _ _ n.0;
        size = agreed _ _ t.0;
        same = agreed _ _ o.0;
        short_nonce = ltb-false _ _ ln.0;
        short = ltb-false _ _ la.0;
        short_text = ltb-false _ _ lt.0;
      }

  pub gcm_accepts : Accepted key nonce a text out tag → gcm_refusal key nonce a text out tag ≡ 0
  gcm_accepts h =
      sym
      (past_nonce (ap not h.fits) h.some_nonce
      (first_later _ _ _ (agree h.size)
      (first_later _ _ _ (agree h.same)
      (first_later _ _ _ (le-ltb _ _ h.short_nonce)
      (first_later _ _ _ (le-ltb _ _ h.short) (first_later _ _ _ (le-ltb _ _ h.short_text) first_none))))))

-- no cause has the number 0
cause_pos : (c : Cause) → 0 < cause_number c
cause_pos KeyLength = omega arith
cause_pos EmptyNonce = omega arith
cause_pos TagLength = omega arith
cause_pos TextLength = omega arith
cause_pos TooLong = omega arith
cause_pos TextTooLong = omega arith
cause_pos WrongTag = omega arith

-- so that an answer with one tells a refusal
pub refused-pos : {x : ℕ} (r : Result Unit Cause) → IsErr r → answer_refusal r ≡ x → x ≡ 0 → ⊥
refused-pos (Ok _) h told z = absurd (false≢true h)
refused-pos (Err c) h told z = omega (arith, cause_pos c, told)
