-- `gcm_met`: what `gcm_theorem` says of every text within the limits, and of every call. Each part is by that theorem's own fields.
use mathlib.Core.Path.{◌≡◌, refl, sym, ap}
use mathlib.Core.Logic.{◌≢◌, ◌⊎◌, inl, inr}
use mathlib.Core.List.{List}
use Prim.Native.Nat.{ℕ}
use native.Mathlib.Omega.{arith}
use lib.ListN.{length}
use Rattle.std.proofs.lemmas.Bool.{cases_eq}
use Rattle.gcm.specs.Authenticated.{tag_bytes, tag_of_text, P, GCM_AD}
use Rattle.gcm.specs.Answers.{gcm_refusal, EncryptAnswer, decrypted}
use Rattle.gcm.specs.Clauses.{decrypt_result}
use Rattle.gcm.specs.GcmMet.{Within, GcmMet}
use Rattle.gcm.proofs.Refusals.{Accepted, gcm_accepts}
use Rattle.gcm.proofs.TextLaws.{length-tag, lengths-supported}
use Rattle.gcm.proofs.GcmTheorem.{gcm_theorem}

-- ---- within the limits

module _ {key nonce a text : List ℕ} (w : Within key nonce a text) where
  accepted : (out tag : List ℕ) → length text ≡ length out → length tag ≡ tag_bytes → Accepted key nonce a text out tag
  accepted out tag same size =
      record {
        fits = w.fits;
        some_nonce = w.some_nonce;
        size = size;
        same = same;
        short_nonce = w.short_nonce;
        short = w.short;
        short_text = w.short_text;
      }

  lengths : (out tag : List ℕ) → length text ≡ length out → length tag ≡ tag_bytes → gcm_refusal key nonce a text out tag ≡ 0
  lengths out tag same size = gcm_accepts key nonce a text out tag (accepted out tag same size)

  right_tag : (out : List ℕ) → length text ≡ length out → (decrypted key nonce a text out (tag_of_text key nonce text a)).refusal ≡ 0
  right_tag out same =
      let tag = tag_of_text key nonce text a in
      gcm_theorem.accepts key nonce a text out tag (lengths out tag same (length-tag key nonce text a)) refl

  other_tag : (out tag : List ℕ) → length text ≡ length out → length tag ≡ tag_bytes → tag ≢ tag_of_text key nonce text a
      → decrypted key nonce a text out tag ≡ decrypt_result 14 out
  other_tag out tag same size f =
      let number = gcm_theorem.wrong key nonce a text out tag (lengths out tag same size) f in
      let kept = gcm_theorem.kept key nonce a text out tag (λ z. omega (arith, number)) in
      λ i. record { refusal = number i; out = kept i }

-- ---- every decryption

module _ (key nonce a text out tag : List ℕ) where
  abbrev Released : Type 0
  Released =
      ((decrypted key nonce a text out tag).refusal ≡ 0) × (tag ≡ tag_of_text key nonce text a)
      × (GCM_AD key nonce text a tag ≡ P (decrypted key nonce a text out tag).out)

  abbrev Kept : Type 0
  Kept = ((decrypted key nonce a text out tag).refusal ≢ 0) × ((decrypted key nonce a text out tag).out ≡ out)

  either : Released ⊎ Kept
  either = by (cases_eq (decrypted key nonce a text out tag).refusal 0)
    where
      by : ((decrypted key nonce a text out tag).refusal ≡ 0) ⊎ ((decrypted key nonce a text out tag).refusal ≢ 0) → Released ⊎ Kept
      by (inl z) = inl (z, (gcm_theorem.exactly key nonce a text out tag z).1, gcm_theorem.released key nonce a text out tag z)
      by (inr f) = inr (f, gcm_theorem.kept key nonce a text out tag f)

-- ---- the whole

pub gcm_met : GcmMet
gcm_met =
    record {
      back =
          λ key nonce a text out tag kept w size same l.
          gcm_theorem.returned key nonce a text out tag kept
          (gcm_theorem.works key nonce a text out tag w.fits w.some_nonce size same w.short_nonce w.short w.short_text)
          l;
      standard =
          λ key nonce a text w.
          let tag = tag_of_text key nonce text a in
          gcm_theorem.standard key nonce text a
          (lengths-supported key nonce a text tag (accepted w text tag refl (length-tag key nonce text a)));
      right_tag = λ key nonce a text out w same. right_tag w out same;
      other_tag = λ key nonce a text out tag w same size f. other_tag w out tag same size f;
      either = either;
      gmac =
          λ key nonce a out.
          let e = gcm_theorem.no_text key nonce a out in
          (sym (ap (λ (x : EncryptAnswer). x.refusal) e), sym (ap (λ (x : EncryptAnswer). x.tag) e));
    }
