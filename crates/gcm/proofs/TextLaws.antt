-- Texts and their tags: the tag as a sum of blocks, GCM-AD by its tag, and a law for each return of the calls. They rest on the laws of GCTR
-- (`CounterLaws`), of tags compared (`Comparing`) and of the refusals (`Refusals`).
use mathlib.Core.Path.{◌≡◌, refl, sym, ap, ap₂, ◌∙◌}
use mathlib.Core.Bool.{Bool, true, false, cond, ◌&&◌, false≢true}
use mathlib.Core.List.{List}
use Prim.Native.Nat.{ℕ, ◌-◌, ◌*◌, ◌^◌, ◌≤◌}
use native.Mathlib.Omega.{arith}
use lib.Dec.{eqb}
use lib.ListN.{length, take, replicate}
use lib.Seq.{sets, take_all}
use borrow.Author.Tests.{eq-eqb, ne_eqb, le-leb}
use Rattle.std.specs.Prelude.{Result, IsErr}
use Rattle.std.proofs.lemmas.Bool.{false_from_ne_true}
use Rattle.refusals.proofs.Laws.{first_none, first_here, first_later, agree, differ}
use Rattle.field.specs.declared.blocks.Block.{Block}
use Rattle.field.specs.Field.{◌⊕◌, xor_bytes, bytes_of, blocks, ghash}
use Rattle.field.proofs.BlockAt.{length-block_bytes, bytes_of-⊕}
use Rattle.field.proofs.BlockCounts.{blocks-times}
use Rattle.field.proofs.Stores.{stored-all}
use Rattle.gcm.specs.Gmac.{CIPH, hash_key, J}
use Rattle.gcm.specs.Counters.{inc32, CB, concatenated, GCTR}
use Rattle.gcm.specs.Authenticated.{turned, tag_of_text, GCM_AE, supported, equal, Plaintext, P, FAIL, GCM_AD}
use Rattle.gcm.specs.declared.Cause.{Cause}
use Rattle.gcm.specs.Answers.{gcm_refusal, encrypted, DecryptAnswer, failed, released, decrypt_refusal, decrypted}
use Rattle.gcm.specs.Clauses.{key_stream, answer_refusal, encrypt_result, decrypt_result}
use Rattle.gcm.proofs.CounterLaws.{GCTR_stream}
use Rattle.gcm.proofs.Comparing.{equal_true, equal-same}
use Rattle.gcm.proofs.Refusals.{Accepted, gcm_accepted, refused-pos}

-- ---- the tag of a text

-- GCTR of one block is its sum with the cipher of the counter block
GCTR-block : (key icb : List ℕ) (s : Block) → GCTR key icb (bytes_of s) ≡ bytes_of (s ⊕ CIPH key icb)
unfolding key_stream concatenated CB
GCTR-block key icb s =
    let c = bytes_of (CIPH key icb) in
    GCTR_stream key icb (bytes_of s)
    ∙ ap (λ (n : ℕ). xor_bytes (bytes_of s) (take n (key_stream key icb 0 (blocks n)))) (length-block_bytes s)
    ∙ ap (λ (n : ℕ). xor_bytes (bytes_of s) (take 16 (key_stream key icb 0 n))) (blocks-times 1)
    ∙ ap (xor_bytes (bytes_of s)) (take_all 16 c (omega (arith, length-block_bytes (CIPH key icb))))
    ∙ sym (bytes_of-⊕ s (CIPH key icb))

pub tag-sum : (key iv c a : List ℕ) → tag_of_text key iv c a ≡ bytes_of (ghash (hash_key key) a c ⊕ CIPH key (J (hash_key key) iv))
unfolding tag_of_text
tag-sum key iv c a =
    let s = ghash (hash_key key) a c in
    let j = J (hash_key key) iv in
    ap (take 16) (GCTR-block key j s) ∙ take_all 16 (bytes_of (s ⊕ CIPH key j)) (omega (arith, length-block_bytes (s ⊕ CIPH key j)))

pub length-tag : (key iv c a : List ℕ) → length (tag_of_text key iv c a) ≡ 16
length-tag key iv c a = ap length (tag-sum key iv c a) ∙ length-block_bytes _

-- ---- GCM-AD, by the tag

module _ (key nonce a text tag : List ℕ) where
  -- the calls' limits are the standard's
  pub lengths-supported : {out : List ℕ} → Accepted key nonce a text out tag → supported nonce text a ≡ true
  unfolding supported
  lengths-supported h =
      let t : 8 * length text ≤ 2 ^ 39 - 256 = omega (arith, h.short_text) in
      let d : 8 * length a ≤ 2 ^ 64 - 1 = omega (arith, h.short) in
      let i : 1 ≤ 8 * length nonce = omega (arith, h.some_nonce) in
      let n : 8 * length nonce ≤ 2 ^ 64 - 1 = omega (arith, h.short_nonce) in
      simp (le-leb _ _ t, le-leb _ _ d, le-leb _ _ i, le-leb _ _ n)

  -- GCM-AD by the parts that it has in common with GCM-AE
  AD_parts : GCM_AD key nonce text a tag
      ≡ cond (supported nonce text a && eqb (length tag) 16)
      (cond (equal tag (tag_of_text key nonce text a)) (P (turned key nonce text)) FAIL)
      FAIL
  unfolding GCM_AD turned tag_of_text
  AD_parts = refl

  pub AD_fits : supported nonce text a ≡ true → tag ≡ tag_of_text key nonce text a → GCM_AD key nonce text a tag ≡ P (turned key nonce text)
  AD_fits s e =
      AD_parts
      ∙ ap₂ (λ (x y : Bool). cond x (cond y (P (turned key nonce text)) FAIL) FAIL)
      (ap₂ ◌&&◌ s (eq-eqb _ _ (ap length e ∙ length-tag key nonce text a))) (ap (equal tag) (sym e) ∙ equal-same tag)

  AD_fails : (tag ≡ tag_of_text key nonce text a → ⊥) → GCM_AD key nonce text a tag ≡ FAIL
  AD_fails f =
      AD_parts
      ∙ ap (λ (x : Bool). cond (supported nonce text a && eqb (length tag) 16) (cond x (P (turned key nonce text)) FAIL) FAIL)
      (false_from_ne_true _ (λ e. f (equal_true tag _ e)))
      ∙ either (supported nonce text a && eqb (length tag) 16)
    where
      either : (x : Bool) → cond x FAIL FAIL ≡ FAIL
      either true = refl
      either false = refl

-- ---- encryption, by its lengths

module _ (key nonce a text out tag : List ℕ) where
  pub encrypted-refused : (gcm_refusal key nonce a text out tag ≡ 0 → ⊥)
      → encrypted key nonce a text out tag ≡ record { refusal = gcm_refusal key nonce a text out tag; out = out; tag = tag }
  unfolding encrypted
  encrypted-refused f = simp (ne_eqb _ _ f)

  pub encrypted_done : gcm_refusal key nonce a text out tag ≡ 0
      → encrypted key nonce a text out tag
      ≡ record { refusal = 0; out = turned key nonce text; tag = tag_of_text key nonce (turned key nonce text) a }
  unfolding encrypted GCM_AE turned tag_of_text
  encrypted_done z = simp (eq-eqb _ _ z)

-- ---- decryption, by its lengths and its tag

module _ (key nonce a text out tag : List ℕ) where
  -- what it leaves where its refusal is n
  answer : ℕ → DecryptAnswer
  answer n = record { refusal = n; out = cond (eqb n 0) (released (GCM_AD key nonce text a tag) out) out }

  -- refused for the lengths
  pub decrypted-refused : (gcm_refusal key nonce a text out tag ≡ 0 → ⊥)
      → decrypted key nonce a text out tag ≡ record { refusal = gcm_refusal key nonce a text out tag; out = out }
  unfolding decrypted decrypt_refusal answer
  decrypted-refused f =
      let n = gcm_refusal key nonce a text out tag in
      ap answer (sym (first_here _ n _ (differ f)))
      ∙ ap (λ (b : Bool). decrypt_result n (cond b (released (GCM_AD key nonce text a tag) out) out)) (ne_eqb n 0 f)

  module _ (z : gcm_refusal key nonce a text out tag ≡ 0) where
    -- refused for the tag
    pub decrypted-wrong : (tag ≡ tag_of_text key nonce text a → ⊥) → decrypted key nonce a text out tag ≡ record { refusal = 14; out = out }
    unfolding decrypted decrypt_refusal answer
    decrypted-wrong f =
        ap answer
        (sym
        (first_later _ _ _ (agree z) (first_here _ 14 _ (ap failed (AD_fails key nonce a text tag f) ∙ (unfold failed in refl)))))

    -- released
    pub decrypted-fits : tag ≡ tag_of_text key nonce text a → decrypted key nonce a text out tag ≡ record { refusal = 0; out = turned key nonce text }
    unfolding decrypted decrypt_refusal answer
    decrypted-fits e =
        let fits = AD_fits key nonce a text tag (lengths-supported key nonce a text tag (gcm_accepted key nonce a text out tag z)) e in
        ap answer
        (sym (first_later _ _ _ (agree z) (first_later _ 14 _ (ap failed fits ∙ (unfold failed in refl)) first_none)))
        ∙ ap (λ (p : Plaintext). decrypt_result 0 (released p out)) fits
        ∙ (unfold released in refl)

-- ---- as code works

-- the cipher of the zero block is H
pub zero-block : (key : List ℕ) → CIPH key (replicate 16 0) ≡ hash_key key
unfolding hash_key
zero-block key = refl

-- h and j are what was found for H and J
module _ (key nonce : List ℕ) {h : Block} {j : List ℕ} (h_is : h ≡ hash_key key) (j_is : j ≡ J h nonce) where
  j-of-key : j ≡ J (hash_key key) nonce
  j-of-key = j_is ∙ ap (λ (x : Block). J x nonce) h_is

  -- the text turned
  pub turned_of : (text : List ℕ) → GCTR key (inc32 j) text ≡ turned key nonce text
  unfolding turned
  turned_of text = ap (λ (l : List ℕ). GCTR key (inc32 l) text) j-of-key

  -- the tag of c and a: s is the hash and p the cipher of J
  pub tag-text : (c a : List ℕ) {s p r : Block} → s ≡ ghash h a c → p ≡ CIPH key j → r ≡ s ⊕ p → bytes_of r ≡ tag_of_text key nonce c a
  tag-text c a es ep er =
      ap bytes_of (er ∙ ap₂ ◌⊕◌ (es ∙ ap (λ (x : Block). ghash x a c) h_is) (ep ∙ ap (CIPH key) j-of-key)) ∙ sym (tag-sum key nonce c a)

module _ (key nonce a text out tag : List ℕ) where
  -- where a cause was found of the lengths, encryption is refused
  pub encrypt_refused : (r : Result Unit Cause) → IsErr r → answer_refusal r ≡ gcm_refusal key nonce a text out tag
      → encrypt_result (answer_refusal r) out tag ≡ encrypted key nonce a text out tag
  encrypt_refused r h told =
      ap (λ (n : ℕ). encrypt_result n out tag) told ∙ sym (encrypted-refused key nonce a text out tag (refused-pos r h told))

  -- and decryption
  pub decrypt_refused : (r : Result Unit Cause) → IsErr r → answer_refusal r ≡ gcm_refusal key nonce a text out tag
      → decrypt_result (answer_refusal r) out ≡ decrypted key nonce a text out tag
  decrypt_refused r h told =
      ap (λ (n : ℕ). decrypt_result n out) told ∙ sym (decrypted-refused key nonce a text out tag (refused-pos r h told))

  -- where none was, all lengths fit
  module _ (told : 0 ≡ gcm_refusal key nonce a text out tag) where
    pub gcm_fits : Accepted key nonce a text out tag
    gcm_fits = gcm_accepted key nonce a text out tag (sym told)

    -- encryption done: t is what was written to the output, x the tag and u what was written to the tag
    pub encrypt_done : {t u : List ℕ} (x : Block) → t ≡ turned key nonce text → bytes_of x ≡ tag_of_text key nonce t a
        → u ≡ sets tag 0 (bytes_of x) → encrypt_result 0 t u ≡ encrypted key nonce a text out tag
    encrypt_done {t} {u} x et ex eu =
        let u-is : u ≡ tag_of_text key nonce (turned key nonce text) a =
        stored-all (record { is = eu; size = length-block_bytes x }) gcm_fits.size ∙ ex ∙ ap (λ (l : List ℕ). tag_of_text key nonce l a) et
        in
        ap₂ (encrypt_result 0) et u-is ∙ sym (encrypted_done key nonce a text out tag (sym told))

    -- what was found of the tag
    module _ {right : Bool} (er : right ≡ equal tag (tag_of_text key nonce text a)) where
      -- decryption refused for it
      pub decrypt_wrong : right ≡ false → decrypt_result 14 out ≡ decrypted key nonce a text out tag
      decrypt_wrong f =
          sym
          (decrypted-wrong key nonce a text out tag (sym told)
          (λ x. false≢true (sym f ∙ er ∙ ap (equal tag) (sym x) ∙ equal-same tag)))

      -- decryption done: t is what was written to the output
      pub decrypt_done : {t : List ℕ} → right ≡ true → t ≡ turned key nonce text
          → decrypt_result 0 t ≡ decrypted key nonce a text out tag
      decrypt_done f et =
          ap (decrypt_result 0) et ∙ sym (decrypted-fits key nonce a text out tag (sym told) (equal_true tag _ (sym er ∙ f)))
