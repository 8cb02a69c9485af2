pub mod Tables
pub mod FromFn
pub mod Bytes
pub mod Bits
pub mod BitMoves
pub mod ByteWords
pub mod Gates
pub mod Spread
