-- What this crate hands to the layers above: the definitions below without their text. Laws about them are in proofs/AesLaws.
pub use Rattle.cipher.specs.Cipher.{rows_of, aes, each_block}
pub use Rattle.cipher.specs.Answers.{key_fits, encrypt_refusal, encrypt_output}
pub use Rattle.cipher.specs.Clauses.{cause_number, answer_refusal}
