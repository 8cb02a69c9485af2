-- What this crate hands to the layers above: the definitions below without their text. Laws about them are in proofs/TagLaws.
pub use Rattle.gcm.specs.Gmac.{hash_key, gmac, tag_of}
pub use Rattle.gcm.specs.Answers.{gmac_refusal, gmac_output, EncryptAnswer, encrypted, DecryptAnswer, decrypted}
pub use Rattle.gcm.specs.Clauses.{cause_number, answer_refusal, encrypt_result, decrypt_result}
