-- `gcm_theorem`: encryption and decryption undo each other, text is released exactly when the tag fits, and GMAC is GCM with no text. It rests on
-- the laws of texts and their tags (`TextLaws`), of the refusals (`Refusals`) and of GMAC (`GmacLaws`).
use mathlib.Core.Path.{◌≡◌, refl, sym, ap, ap₂, ◌∙◌}
use mathlib.Core.Bool.{true}
use mathlib.Core.Logic.{◌≢◌, ◌⊎◌, inl, inr}
use mathlib.Core.List.{List, []}
use Prim.Native.Nat.{ℕ}
use native.Mathlib.Omega.{arith}
use lib.ListN.{length}
use Rattle.std.proofs.lemmas.Bool.{cases_eq}
use Rattle.std.proofs.lemmas.List.{nil_from_length}
use Rattle.field.specs.Field.{bytes_of}
use Rattle.gcm.specs.Gmac.{pad, gmac}
use Rattle.gcm.specs.Authenticated.{turned, tag_of_text, GCM_AE, supported, P, GCM_AD}
use Rattle.gcm.specs.Answers.{gmac_refusal, gmac_output, gcm_refusal, EncryptAnswer, encrypted, DecryptAnswer, decrypted}
use Rattle.gcm.specs.Clauses.{encrypt_result, decrypt_result}
use Rattle.gcm.specs.GcmTheorem.{GcmTheorem}
use Rattle.gcm.proofs.CounterLaws.{length-GCTR, GCTR-twice}
use Rattle.gcm.proofs.Comparing.{same_or_not}
use Rattle.gcm.proofs.Refusals.{no_text, gcm_accepted, gcm_accepts}
use Rattle.gcm.proofs.GmacLaws.{gmac_kept, gmac-written}
use Rattle.gcm.proofs.TextLaws.{tag-sum, length-tag, lengths-supported, AD_fits, encrypted-refused, encrypted_done}
use Rattle.gcm.proofs.TextLaws.{decrypted-refused, decrypted-wrong, decrypted-fits}

-- ---- a text turned

length-turned : (key iv x : List ℕ) → length (turned key iv x) ≡ length x
unfolding turned
length-turned key iv x = length-GCTR key _ x

turned-twice : (key iv x : List ℕ) → turned key iv (turned key iv x) ≡ x
unfolding turned
turned-twice key iv x = GCTR-twice key _ x

turned-nothing : (key iv : List ℕ) → turned key iv [] ≡ []
turned-nothing key iv = nil_from_length (turned key iv []) (length-turned key iv [])

-- the lengths that are supported are those of what was turned too
supported-turned : (key iv p a : List ℕ) → supported iv p a ≡ true → supported iv (turned key iv p) a ≡ true
unfolding supported
supported-turned key iv p a s = rw (length-turned key iv p) s

-- ---- the ways in which a call ends

-- the number of an answer, and its output
encrypt_number : {x y : EncryptAnswer} → x ≡ y → x.refusal ≡ y.refusal
encrypt_number e = ap (λ (x : EncryptAnswer). x.refusal) e

decrypt_number : {x y : DecryptAnswer} → x ≡ y → x.refusal ≡ y.refusal
decrypt_number e = ap (λ (x : DecryptAnswer). x.refusal) e

decrypt_out : {x y : DecryptAnswer} → x ≡ y → x.out ≡ y.out
decrypt_out e = ap (λ (x : DecryptAnswer). x.out) e

module _ (key nonce a text out tag : List ℕ) where
  -- what was encrypted was not refused for its lengths
  encrypted-zero : (encrypted key nonce a text out tag).refusal ≡ 0 → gcm_refusal key nonce a text out tag ≡ 0
  encrypted-zero e = by (cases_eq (gcm_refusal key nonce a text out tag) 0)
    where
      by : (gcm_refusal key nonce a text out tag ≡ 0) ⊎ (gcm_refusal key nonce a text out tag ≢ 0) → gcm_refusal key nonce a text out tag ≡ 0
      by (inl z) = z
      by (inr f) = sym (encrypt_number (encrypted-refused key nonce a text out tag f)) ∙ e

  -- decryption is refused for its lengths, refused for its tag, or accepted
  abbrev Refused : Type 0
  Refused = gcm_refusal key nonce a text out tag ≢ 0

  abbrev Wrong : Type 0
  Wrong = (gcm_refusal key nonce a text out tag ≡ 0) × (tag ≢ tag_of_text key nonce text a)

  abbrev Fits : Type 0
  Fits = (gcm_refusal key nonce a text out tag ≡ 0) × (tag ≡ tag_of_text key nonce text a)

  ways : Refused ⊎ (Wrong ⊎ Fits)
  ways = by (cases_eq (gcm_refusal key nonce a text out tag) 0) (same_or_not tag (tag_of_text key nonce text a))
    where
      by : (gcm_refusal key nonce a text out tag ≡ 0) ⊎ Refused → (tag ≡ tag_of_text key nonce text a) ⊎ (tag ≢ tag_of_text key nonce text a)
          → Refused ⊎ (Wrong ⊎ Fits)
      by (inr f) t = inl f
      by (inl z) (inr f) = inr (inl (z, f))
      by (inl z) (inl t) = inr (inr (z, t))

  -- it was accepted: neither lengths nor tag were refused
  decrypted-zero : (decrypted key nonce a text out tag).refusal ≡ 0 → Fits
  decrypted-zero e = by ways
    where
      by : Refused ⊎ (Wrong ⊎ Fits) → Fits
      by (inl f) = absurd (f (sym (decrypt_number (decrypted-refused key nonce a text out tag f)) ∙ e))
      by (inr (inl w)) = absurd (omega (arith, sym (decrypt_number (decrypted-wrong key nonce a text out tag w.0 w.1)) ∙ e))
      by (inr (inr h)) = h

  -- it was refused: what stood in the output stays
  decrypted_kept : (decrypted key nonce a text out tag).refusal ≢ 0 → (decrypted key nonce a text out tag).out ≡ out
  decrypted_kept n = by ways
    where
      by : Refused ⊎ (Wrong ⊎ Fits) → (decrypted key nonce a text out tag).out ≡ out
      by (inl f) = decrypt_out (decrypted-refused key nonce a text out tag f)
      by (inr (inl w)) = decrypt_out (decrypted-wrong key nonce a text out tag w.0 w.1)
      by (inr (inr h)) = absurd (n (decrypt_number (decrypted-fits key nonce a text out tag h.0 h.1)))

  -- the text comes back
  encrypted-back : (kept : List ℕ) → (encrypted key nonce a text out tag).refusal ≡ 0 → length kept ≡ length text
      → decrypted key nonce a (encrypted key nonce a text out tag).out kept (encrypted key nonce a text out tag).tag
      ≡ record { refusal = 0; out = text }
  encrypted-back kept e l =
      let c = turned key nonce text in
      let t = tag_of_text key nonce c a in
      let z = encrypted-zero e in
      let h = gcm_accepted key nonce a text out tag z in
      let done = encrypted_done key nonce a text out tag z in
      let size = length-turned key nonce text in
      let accepted =
      gcm_accepts key nonce a c kept t
      (record {
        fits = h.fits;
        some_nonce = h.some_nonce;
        size = length-tag key nonce c a;
        same = size ∙ sym l;
        short_nonce = h.short_nonce;
        short = h.short;
        short_text = omega (arith, h.short_text, size);
      })
      in
      ap₂ (λ (x y : List ℕ). decrypted key nonce a x kept y)
      (ap (λ (x : EncryptAnswer). x.out) done) (ap (λ (x : EncryptAnswer). x.tag) done)
      ∙ decrypted-fits key nonce a c kept t accepted refl
      ∙ ap (λ (x : List ℕ). decrypt_result 0 x) (turned-twice key nonce text)

-- ---- GMAC

-- the tag of no text
tag-nothing : (key nonce a : List ℕ) → tag_of_text key nonce (turned key nonce []) a ≡ bytes_of (gmac key nonce a)
unfolding gmac pad
tag-nothing key nonce a = ap (λ (c : List ℕ). tag_of_text key nonce c a) (turned-nothing key nonce) ∙ tag-sum key nonce [] a

gmac-text : (key nonce a tag : List ℕ)
    → encrypted key nonce a [] [] tag ≡ record { refusal = gmac_refusal key nonce a tag; out = []; tag = gmac_output key nonce a tag }
gmac-text key nonce a tag = by (cases_eq (gmac_refusal key nonce a tag) 0)
  where
    lengths : gcm_refusal key nonce a [] [] tag ≡ gmac_refusal key nonce a tag
    lengths = no_text key nonce a tag

    answered : (t u : List ℕ) (x : ℕ) → t ≡ [] → u ≡ gmac_output key nonce a tag → x ≡ gmac_refusal key nonce a tag
        → encrypt_result x t u ≡ encrypt_result (gmac_refusal key nonce a tag) [] (gmac_output key nonce a tag)
    answered t u x et eu ex = rw (et, eu, ex)

    by : (gmac_refusal key nonce a tag ≡ 0) ⊎ (gmac_refusal key nonce a tag ≢ 0)
        → encrypted key nonce a [] [] tag ≡ encrypt_result (gmac_refusal key nonce a tag) [] (gmac_output key nonce a tag)
    by (inl z) =
        encrypted_done key nonce a [] [] tag (lengths ∙ z)
        ∙ answered _ _ 0 (turned-nothing key nonce) (tag-nothing key nonce a ∙ sym (gmac-written key nonce a tag z)) (sym z)
    by (inr f) =
        encrypted-refused key nonce a [] [] tag (λ z. f (sym lengths ∙ z))
        ∙ answered [] tag _ refl (sym (gmac_kept key nonce a tag f)) lengths

-- ---- the theorem

undone : (key iv p a : List ℕ) → supported iv p a ≡ true → GCM_AD key iv (GCM_AE key iv p a).C a (GCM_AE key iv p a).T ≡ P p
unfolding GCM_AE turned tag_of_text
undone key iv p a s = AD_fits key iv a (turned key iv p) _ (supported-turned key iv p a s) refl ∙ ap P (turned-twice key iv p)

pub gcm_theorem : GcmTheorem
gcm_theorem =
    record {
      works =
          λ key nonce a text out tag fits some size same short_nonce short short_text.
          encrypt_number
          (encrypted_done key nonce a text out tag
          (gcm_accepts key nonce a text out tag
          (record {
            fits = fits;
            some_nonce = some;
            size = size;
            same = same;
            short_nonce = short_nonce;
            short = short;
            short_text = short_text;
          })));
      returned = encrypted-back;
      standard = undone;
      accepts = λ key nonce a text out tag z e. decrypt_number (decrypted-fits key nonce a text out tag z e);
      exactly = decrypted-zero;
      released =
          λ key nonce a text out tag e.
          let h = decrypted-zero key nonce a text out tag e in
          AD_fits key nonce a text tag (lengths-supported key nonce a text tag (gcm_accepted key nonce a text out tag h.0)) h.1
          ∙ ap P (sym (decrypt_out (decrypted-fits key nonce a text out tag h.0 h.1)));
      wrong = λ key nonce a text out tag z f. decrypt_number (decrypted-wrong key nonce a text out tag z f);
      kept = decrypted_kept;
      no_text = gmac-text;
    }
