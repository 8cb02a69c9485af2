-- `cipher::batches::encrypt_blocks` meets its contract. The invariant of both loops: the blocks before the loop's place are replaced.
use Rattle.std.proofs.Common.{rules}
use Prim.Native.Nat.{◌+◌, ◌-◌, ◌*◌}
use lib.ListN.{take, drop}
use mathlib.Core.Path.{◌≡◌, refl, ◌∙◌}
use native.Mathlib.Omega.{arith}
use Rattle.cipher.proofs.ManyBlocks.{length_each, replaced_start, part_next, block_next}
use Rattle.cipher.proofs.batches.encrypt_blocks.Goals as goal

pub loop-i-init : goal.loop-i-init
loop-i-init c = replaced_start _ _ (length_each _ _)

pub loop-i-preserved : goal.loop-i-preserved
loop-i-preserved c =
    part_next _ c.loop-i.invariant 256 _ (omega arith) (omega arith) refl (omega arith) _ (omega arith) c.encrypt_sixteen.ensures

pub loop-i-2-preserved : goal.loop-i-2-preserved
loop-i-2-preserved c =
    let block : c.unwrap.result.now ≡ take (16 * c.loop-i-2.i + 16 - 16 * c.loop-i-2.i) (drop (16 * c.loop-i-2.i) c.loop-i-2.blocks) = search rules in
    block_next _ c.loop-i-2.invariant 16 _ (omega arith) (omega arith) refl (omega arith) _ refl (omega arith)
    (c.copy_from_slice.ensures.after ∙ c.cipher.ensures ∙ rw block refl)
