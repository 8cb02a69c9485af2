-- Authenticated encryption and decryption (NIST SP 800-38D, sections 7.1 and 7.2) with a tag of 16 bytes, over bytes.
use Rattle.std.specs.Prelude.{Bool, true, false, cond, ◌&&◌, List, [], ◌∷◌, ℕ, ◌-◌, ◌*◌, ◌^◌, eqb, leb, length, take}
use Rattle.field.specs.Field.{bytes_of, ghash}
use Rattle.gcm.specs.Gmac.{hash_key, J}
use Rattle.gcm.specs.Counters.{inc32, GCTR}

-- t: the bytes of a tag (5.2.1.2; document 02, Q-2)
abbrev pub tag_bytes : ℕ
tag_bytes = 16

-- what GCM-AE returns: the ciphertext C and the tag T (7.1, step 7)
pub record Ciphertext : Type 0 where
  pub C : List ℕ
  pub T : List ℕ

-- GCM-AE_K(IV, P, A), steps 1 to 7 (7.1, Algorithm 4); 4 and 5 are one, for GHASH pads
unfoldable pub GCM_AE : (key iv p a : List ℕ) → Ciphertext
GCM_AE key iv p a =
    let h = hash_key key in
    let j = J h iv in
    let c = GCTR key (inc32 j) p in
    let s = ghash h a c in
    let t = take tag_bytes (GCTR key j (bytes_of s)) in
    record { C = c; T = t }

-- the lengths in bits that are supported (5.2.1.1): of the text up to 2^39 − 256, of A up to 2^64 − 1, of IV 1 to 2^64 − 1
unfoldable pub supported : (iv text a : List ℕ) → Bool
supported iv text a =
    leb (8 * length text) (2 ^ 39 - 256) && leb (8 * length a) (2 ^ 64 - 1) && leb 1 (8 * length iv) && leb (8 * length iv) (2 ^ 64 - 1)

-- whether two byte strings are the same (7.2, step 8)
unfoldable pub equal : List ℕ → List ℕ → Bool
equal [] [] = true
equal [] (b ∷ t) = false
equal (a ∷ s) [] = false
equal (a ∷ s) (b ∷ t) = eqb a b && equal s t

-- what GCM-AD returns: the plaintext P, or FAIL (7.2)
pub data Plaintext : Type 0 where
  P : List ℕ → Plaintext
  FAIL : Plaintext

-- GCM-AD_K(IV, C, A, T), steps 2 to 8 (7.2, Algorithm 5), where the lengths are supported and T is of t bits, which is step 1; else FAIL
unfoldable pub GCM_AD : (key iv c a t : List ℕ) → Plaintext
GCM_AD key iv c a t =
    let h = hash_key key in
    let j = J h iv in
    let p = GCTR key (inc32 j) c in
    let s = ghash h a c in
    let t' = take tag_bytes (GCTR key j (bytes_of s)) in
    cond (supported iv c a && eqb (length t) tag_bytes) (cond (equal t t') (P p) FAIL) FAIL

-- what both have in common, by a name each: the text as steps 1 to 3 (7.1) and 2 to 4 (7.2) turn it
unfoldable pub turned : (key iv x : List ℕ) → List ℕ
turned key iv x = GCTR key (inc32 (J (hash_key key) iv)) x

-- and the tag of a ciphertext and A: T by steps 4 to 6 (7.1), T' by steps 5 to 7 (7.2)
unfoldable pub tag_of_text : (key iv c a : List ℕ) → List ℕ
tag_of_text key iv c a = take tag_bytes (GCTR key (J (hash_key key) iv) (bytes_of (ghash (hash_key key) a c)))
