-- The definitions; `Clauses` is what serves contracts alone.
pub mod Bytes
pub mod Calls
pub mod Leaves
pub mod LentRuns
pub mod Met
pub mod Clauses
