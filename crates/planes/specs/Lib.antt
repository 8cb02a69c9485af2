pub mod Tables
pub mod ByteField
pub mod Substitution
pub mod Lanes
pub mod Planes
