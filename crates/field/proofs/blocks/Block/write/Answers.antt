-- `field::blocks::Block::write` meets its contract. Both words written one behind the other are the block's bytes (`Packed`).
use mathlib.Core.Path.{refl}
use native.Mathlib.Omega.{arith}
use Rattle.std.proofs.Common.{rules}
use Rattle.field.proofs.Packed.{word-copied, bytes_of-words}
use Rattle.field.proofs.blocks.Block.write.Goals as goal

pub returns : goal.returns
returns c =
    bytes_of-words c.args.self (record { hi = omega arith; lo = omega arith }) _ _
    (word-copied _ _ _ _ (omega arith) (omega arith) c.to_be_bytes.ensures c.copy_from_slice.ensures.after refl)
    (word-copied _ _ _ _ (search rules) (omega arith) c.to_be_bytes-2.ensures c.copy_from_slice-2.ensures.after refl)
