-- The definitions, and what serves contracts alone. `Gcm` hands them on to the layers above, which import it alone.
pub mod Gmac
pub mod Counters
pub mod Authenticated
pub mod Answers
pub mod Clauses
pub mod GcmTheorem
pub mod GcmMet
pub mod Gcm
