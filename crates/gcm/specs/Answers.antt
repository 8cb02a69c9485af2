-- The calls for all inputs: GMAC (document 01, "Causes and their numbers"), encryption and decryption (document 02, Q-2).
use Rattle.std.specs.Prelude.{Bool, true, false, cond, not, List, [], ◌∷◌, ℕ, ◌-◌, ◌^◌, eqb, ltb, length}
use Rattle.refusals.specs.Refusals.{first}
use Rattle.cipher.specs.Aes.{key_fits}
use Rattle.field.specs.Field.{bytes_of, max_bytes}
use Rattle.gcm.specs.Gmac.{gmac}
use Rattle.gcm.specs.Authenticated.{tag_bytes, GCM_AE, Plaintext, P, FAIL, GCM_AD}

-- ---- GMAC

-- its refusal: 1, 9, 7, 2 in that order (document 01, "Causes and their numbers")
unfoldable pub gmac_refusal : (key nonce a out : List ℕ) → ℕ
gmac_refusal key nonce a out =
    first
    ((not (key_fits key), 1)
    ∷ (eqb (length nonce) 0, 9)
    ∷ (not (eqb (length out) 16), 7)
    ∷ (ltb max_bytes (length nonce), 2)
    ∷ (ltb max_bytes (length a), 2)
    ∷ [])

-- what it leaves in the output: the tag's sixteen bytes, or on a refusal what stood there (document 01, "Causes and their numbers")
unfoldable pub gmac_output : (key nonce a out : List ℕ) → List ℕ
gmac_output key nonce a out = cond (eqb (gmac_refusal key nonce a out) 0) (bytes_of (gmac key nonce a)) out

-- ---- encryption and decryption

-- the most bytes of a text (document 02, Q-2)
abbrev pub max_text : ℕ
max_text = 2 ^ 36 - 32

-- the refusal that the lengths decide: 1, 9, 7 for the tag or for text and output of different lengths, 2 for nonce and associated data, 13
-- (document 02, Q-2)
unfoldable pub gcm_refusal : (key nonce a text out tag : List ℕ) → ℕ
gcm_refusal key nonce a text out tag =
    first
    ((not (key_fits key), 1)
    ∷ (eqb (length nonce) 0, 9)
    ∷ (not (eqb (length tag) tag_bytes), 7)
    ∷ (not (eqb (length text) (length out)), 7)
    ∷ (ltb max_bytes (length nonce), 2)
    ∷ (ltb max_bytes (length a), 2)
    ∷ (ltb max_text (length text), 13)
    ∷ [])

-- what encryption leaves: the refusal or 0, and what output and tag hold (document 02, Q-2)
pub record EncryptAnswer : Type 0 where
  pub refusal : ℕ
  pub out : List ℕ
  pub tag : List ℕ

-- encryption: GCM-AE's ciphertext and tag, or on a refusal what stood there (document 02, Q-2)
unfoldable pub encrypted : (key nonce a text out tag : List ℕ) → EncryptAnswer
encrypted key nonce a text out tag =
    cond (eqb (gcm_refusal key nonce a text out tag) 0)
    (record { refusal = 0; out = (GCM_AE key nonce text a).C; tag = (GCM_AE key nonce text a).T })
    (record { refusal = gcm_refusal key nonce a text out tag; out = out; tag = tag })

-- whether GCM-AD failed (document 02, Q-2: the tag doesn't fit)
unfoldable pub failed : Plaintext → Bool
failed (P p) = false
failed FAIL = true

-- GCM-AD's plaintext, or where it failed what stood there (document 02, Q-2: text is released exactly when the tag fits)
unfoldable pub released : Plaintext → List ℕ → List ℕ
released (P p) out = p
released FAIL out = out

-- decryption's refusal: what the lengths decide first, and last 14 where the tag doesn't fit (document 02, Q-2)
unfoldable pub decrypt_refusal : (key nonce a text out tag : List ℕ) → ℕ
decrypt_refusal key nonce a text out tag =
    first
    ((not (eqb (gcm_refusal key nonce a text out tag) 0), gcm_refusal key nonce a text out tag)
    ∷ (failed (GCM_AD key nonce text a tag), 14)
    ∷ [])

-- what decryption leaves: the refusal or 0, and what the output holds; the tag is only read (document 02, Q-2)
pub record DecryptAnswer : Type 0 where
  pub refusal : ℕ
  pub out : List ℕ

-- decryption: GCM-AD's plaintext, or on a refusal what stood there (document 02, Q-2)
unfoldable pub decrypted : (key nonce a text out tag : List ℕ) → DecryptAnswer
decrypted key nonce a text out tag =
    record {
      refusal = decrypt_refusal key nonce a text out tag;
      out = cond (eqb (decrypt_refusal key nonce a text out tag) 0) (released (GCM_AD key nonce text a tag) out) out;
    }
