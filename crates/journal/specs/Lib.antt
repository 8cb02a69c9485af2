-- The definitions, from the bottom up; `Clauses` is what serves contracts alone.
pub mod Records
pub mod Journals
pub mod Singly
pub mod Forecasts
pub mod Walks
pub mod Met
pub mod Clauses
