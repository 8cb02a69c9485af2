pub mod Rounds
pub mod Schedule
pub mod Cipher
pub mod Answers
pub mod Clauses
pub mod Aes
