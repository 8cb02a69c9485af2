-- What this crate hands to those above: the definitions below without their text. Laws about them are in proofs/, whose Lib names the files.
pub use Rattle.clmul.specs.Carryless.{carryless, ◌⊗◌, total}
pub use Rattle.clmul.specs.Tables.{wide, Small, HalvesIn, TableIn}
