-- `cipher::batches::encrypt_blocks` meets its contract. The invariant of both loops: the blocks before the loop's place are replaced.
use Prim.Native.Nat.{◌*◌}
use Rattle.cipher.specs.Cipher.{each_block}
use Rattle.cipher.proofs.ManyBlocks.{Replaced}
use Rattle.cipher.proofs.batches.encrypt_blocks.Given as goal

abbrev pub invariant-loop-i : goal.invariant-loop-i
invariant-loop-i l = Replaced (each_block l.rows l.fn.blocks) l.fn.blocks (256 * l.i) l.blocks

abbrev pub invariant-loop-i-2 : goal.invariant-loop-i-2
invariant-loop-i-2 l = Replaced (each_block l.rows l.fn.blocks) l.fn.blocks (16 * l.i) l.blocks
