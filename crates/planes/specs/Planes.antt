-- What this crate hands to the cipher: the definitions below without their text. Laws about them are in proofs/Bytes, Bits and Spread. Of lists
-- (specs/Tables) the cipher sees the text too.
pub use Rattle.planes.specs.ByteField.{xor, ◌•◌, x_times, x_power}
pub use Rattle.planes.specs.Substitution.{sbox}
pub use Rattle.planes.specs.Lanes.{lane, Shows, byte_of, spread}
