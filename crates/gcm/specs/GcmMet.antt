-- What `GcmTheorem` says of every text within the limits, with no other hypothesis, and of every call where it supposes nothing, so that no
-- hypothesis can slip into it unnoticed. Its proof, by that theorem, is `gcm_met` in proofs/GcmMet.
use Rattle.std.specs.Prelude.{◌≡◌, true, ◌≢◌, ◌⊎◌, List, [], ℕ, ◌≤◌, length}
use Rattle.cipher.specs.Aes.{key_fits}
use Rattle.field.specs.Field.{max_bytes}
use Rattle.gcm.specs.Authenticated.{tag_bytes, tag_of_text, GCM_AE, P, GCM_AD}
use Rattle.gcm.specs.Answers.{max_text, gmac_refusal, gmac_output, encrypted, decrypted}

-- a key, a nonce, associated data and a text within the limits (document 02, Q-2)
pub record Within (key nonce a text : List ℕ) : Type 0 where
  pub fits : key_fits key ≡ true
  pub some_nonce : length nonce ≢ 0
  pub short_nonce : length nonce ≤ max_bytes
  pub short : length a ≤ max_bytes
  pub short_text : length text ≤ max_text

pub record GcmMet : Type 0 where
  -- every text within the limits comes back, whatever the outputs and the tag held
  pub back : (key nonce a text out tag kept : List ℕ) → Within key nonce a text → length tag ≡ tag_bytes → length text ≡ length out
      → length kept ≡ length text
      → decrypted key nonce a (encrypted key nonce a text out tag).out kept (encrypted key nonce a text out tag).tag
      ≡ record { refusal = 0; out = text }
  -- from the standard's own functions too
  pub standard : (key nonce a text : List ℕ) → Within key nonce a text
      → GCM_AD key nonce (GCM_AE key nonce text a).C a (GCM_AE key nonce text a).T ≡ P text
  -- of every ciphertext within the limits the one tag that fits is accepted
  pub right_tag : (key nonce a text out : List ℕ) → Within key nonce a text → length text ≡ length out
      → (decrypted key nonce a text out (tag_of_text key nonce text a)).refusal ≡ 0
  -- and every other is refused with 14, and the output kept
  pub other_tag : (key nonce a text out tag : List ℕ) → Within key nonce a text → length text ≡ length out → length tag ≡ tag_bytes
      → tag ≢ tag_of_text key nonce text a → decrypted key nonce a text out tag ≡ record { refusal = 14; out = out }
  -- every decryption, within the limits or not, has the one tag and gives the standard's plaintext, or is refused and keeps the output
  pub either : (key nonce a text out tag : List ℕ)
      → let d = decrypted key nonce a text out tag in
      ((d.refusal ≡ 0) × (tag ≡ tag_of_text key nonce text a) × (GCM_AD key nonce text a tag ≡ P d.out)) ⊎ ((d.refusal ≢ 0) × (d.out ≡ out))
  -- every GMAC, refused or not, is the tag that encryption leaves without a text
  pub gmac : (key nonce a out : List ℕ)
      → (gmac_refusal key nonce a out ≡ (encrypted key nonce a [] [] out).refusal) × (gmac_output key nonce a out ≡ (encrypted key nonce a [] [] out).tag)
