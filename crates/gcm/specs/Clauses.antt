-- What serves contracts alone: the code's answers read in the papers' numbers, what a call begins with and what it leaves, a record each, and the counter
-- blocks and key stream of a batch.
use Rattle.std.specs.Prelude.{Bool, List, [], ◌∷◌, ℕ, ◌+◌, Result, Ok, Err, ltb, length}
use Rattle.field.specs.Field.{bytes_of, max_bytes}
use Rattle.gcm.specs.declared.Cause.{Cause}
use Rattle.gcm.specs.declared.Cause.TheVariants.{KeyLength, EmptyNonce, TagLength, TextLength, TooLong, TextTooLong, WrongTag}
use Rattle.gcm.specs.Gmac.{CIPH}
use Rattle.gcm.specs.Counters.{CB, concatenated}
use Rattle.gcm.specs.Answers.{max_text, EncryptAnswer, DecryptAnswer}

-- the number of a cause (document 01, "Causes and their numbers"; document 02, Q-2)
abbrev pub cause_number : Cause → ℕ
cause_number KeyLength = 1
cause_number EmptyNonce = 9
cause_number TagLength = 7
cause_number TextLength = 7
cause_number TooLong = 2
cause_number TextTooLong = 13
cause_number WrongTag = 14

-- the refusal of an answer (document 01, "Causes and their numbers"), 0 where the work was done
abbrev pub answer_refusal : Result Unit Cause → ℕ
answer_refusal (Ok _) = 0
answer_refusal (Err cause) = cause_number cause

-- what encryption leaves, as one record
abbrev pub encrypt_result : (refusal : ℕ) (out tag : List ℕ) → EncryptAnswer
encrypt_result refusal out tag = record { refusal = refusal; out = out; tag = tag }

-- what decryption leaves, as one record
abbrev pub decrypt_result : (refusal : ℕ) (out : List ℕ) → DecryptAnswer
decrypt_result refusal out = record { refusal = refusal; out = out }

-- the causes that something is too long, with which the calls' lists end
abbrev pub long_causes : (nonce a text : List ℕ) → List (Bool × ℕ)
long_causes nonce a text =
    (ltb max_bytes (length nonce), 2) ∷ (ltb max_bytes (length a), 2) ∷ (ltb max_text (length text), 13) ∷ []

-- what a call has begun with
pub record KeyAndNonce : Type 0 where
  pub key : List ℕ
  pub nonce : List ℕ

-- n counter blocks, the first of them `first` steps behind icb
unfoldable pub counters : List ℕ → (first n : ℕ) → List ℕ
counters icb first n = concatenated (λ i. CB icb (first + i)) n

-- their ciphers
unfoldable pub key_stream : (key icb : List ℕ) (first n : ℕ) → List ℕ
key_stream key icb first n = concatenated (λ i. bytes_of (CIPH key (CB icb (first + i)))) n
