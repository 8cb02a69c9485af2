-- The definitions, from the bottom up.
pub mod Xor
pub mod Carryless
pub mod Halves
pub mod Tables
pub mod Clmul
