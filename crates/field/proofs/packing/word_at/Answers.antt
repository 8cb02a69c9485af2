-- `field::packing::word_at` meets its contract. The library's number of eight bytes is theirs (`Packed`).
use Rattle.field.proofs.Packed.{word-number}
use Rattle.field.proofs.packing.word_at.Goals as goal

pub returns : goal.returns
returns c = word-number _ _ c.type_inv.s c.copy_from_slice.ensures.after c.from_be_bytes.ensures
