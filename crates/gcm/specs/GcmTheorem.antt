-- What encryption and decryption have to do with each other, with the standard's functions and with GMAC, as one statement about the
-- definitions that the calls' contracts cite. Its proof is `gcm_theorem` in proofs/GcmTheorem. It asks no bound of the lists' elements.
use Rattle.std.specs.Prelude.{◌≡◌, true, ◌≢◌, List, [], ℕ, ◌≤◌, length}
use Rattle.cipher.specs.Aes.{key_fits}
use Rattle.field.specs.Field.{max_bytes}
use Rattle.gcm.specs.Authenticated.{tag_bytes, tag_of_text, GCM_AE, supported, P, GCM_AD}
use Rattle.gcm.specs.Answers.{max_text, gmac_refusal, gmac_output, gcm_refusal, encrypted, decrypted}

-- (document 02, Q-2)
pub record GcmTheorem : Type 0 where
  -- a text within the limits is encrypted
  pub works : (key nonce a text out tag : List ℕ) → key_fits key ≡ true → length nonce ≢ 0 → length tag ≡ tag_bytes → length text ≡ length out
      → length nonce ≤ max_bytes → length a ≤ max_bytes → length text ≤ max_text → (encrypted key nonce a text out tag).refusal ≡ 0
  -- decrypting what was encrypted with the same key, nonce and data is accepted and returns the text
  pub returned : (key nonce a text out tag kept : List ℕ) → (encrypted key nonce a text out tag).refusal ≡ 0 → length kept ≡ length text
      → decrypted key nonce a (encrypted key nonce a text out tag).out kept (encrypted key nonce a text out tag).tag
      ≡ record { refusal = 0; out = text }
  -- so do the standard's own functions
  pub standard : (key iv p a : List ℕ) → supported iv p a ≡ true → GCM_AD key iv (GCM_AE key iv p a).C a (GCM_AE key iv p a).T ≡ P p
  -- where the lengths fit, decryption is accepted exactly when the tag is the standard's of that ciphertext
  pub accepts : (key nonce a text out tag : List ℕ) → gcm_refusal key nonce a text out tag ≡ 0 → tag ≡ tag_of_text key nonce text a
      → (decrypted key nonce a text out tag).refusal ≡ 0
  pub exactly : (key nonce a text out tag : List ℕ) → (decrypted key nonce a text out tag).refusal ≡ 0
      → (gcm_refusal key nonce a text out tag ≡ 0) × (tag ≡ tag_of_text key nonce text a)
  -- and then the output is the standard's plaintext
  pub released : (key nonce a text out tag : List ℕ) → (decrypted key nonce a text out tag).refusal ≡ 0
      → GCM_AD key nonce text a tag ≡ P (decrypted key nonce a text out tag).out
  -- otherwise it is refused, with 14 where the lengths fit, and the output has its old bytes
  pub wrong : (key nonce a text out tag : List ℕ) → gcm_refusal key nonce a text out tag ≡ 0 → (tag ≡ tag_of_text key nonce text a → ⊥)
      → (decrypted key nonce a text out tag).refusal ≡ 14
  pub kept : (key nonce a text out tag : List ℕ) → (decrypted key nonce a text out tag).refusal ≢ 0
      → (decrypted key nonce a text out tag).out ≡ out
  -- GMAC is GCM with no text, refusals and output included
  pub no_text : (key nonce a tag : List ℕ)
      → encrypted key nonce a [] [] tag ≡ record { refusal = gmac_refusal key nonce a tag; out = []; tag = gmac_output key nonce a tag }
