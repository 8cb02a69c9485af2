-- The boundary's laws: the state's bytes, with the round trip, the calls, what each leaves, and lists of them.
pub mod StateBytes
pub mod BlockBytes
pub mod CallLaws
pub mod Leaves
pub mod Joins
pub mod Forecasts
pub mod Boundary
pub mod BoundaryMet
