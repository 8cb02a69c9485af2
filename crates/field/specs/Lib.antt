-- The definitions, from the bottom up. `Field` hands them on to the layers above, which import it alone.
pub mod Elements
pub mod Bytes
pub mod Blocks
pub mod Powers
pub mod Sums
pub mod Series
pub mod Ghash
pub mod Answers
pub mod Parts
pub mod Clauses
pub mod Streams
pub mod Joins
pub mod JoinsMet
pub mod FieldBench
pub mod Strength
pub mod Field
