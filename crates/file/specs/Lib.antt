-- The definitions, from the bottom up; `Clauses` is what serves contracts alone.
pub mod Edits
pub mod Table
pub mod States
pub mod Slips
pub mod Calls
pub mod Machine
pub mod Runs
pub mod Demands
pub mod Strength
pub mod Met
pub mod Parts
pub mod BenchCases
pub mod Clauses
