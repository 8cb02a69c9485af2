-- `cipher::kernel::unpack` meets its contract. The loop's invariant: the blocks before block i are written.
use Prim.Native.Nat.{◌*◌}
use Rattle.cipher.proofs.ManyBlocks.{Replaced}
use Rattle.cipher.proofs.SixteenStates.{blocks_in}
use Rattle.cipher.proofs.kernel.unpack.Given as goal

abbrev pub invariant-loop-i : goal.invariant-loop-i
invariant-loop-i l = Replaced (blocks_in l.a l.b l.c l.d) l.initial.out (16 * l.i) l.out
