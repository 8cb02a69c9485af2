-- `field::batches::batches` meets its contract. The loop's invariant: y is Y after i batches.
use mathlib.Core.Path.{◌≡◌}
use Prim.Native.Nat.{◌*◌}
use Rattle.field.specs.Ghash.{Yᵢ}
use Rattle.field.proofs.batches.batches.Given as goal

abbrev pub invariant-loop-i : goal.invariant-loop-i
invariant-loop-i l = l.y ≡ Yᵢ l.fn.h l.initial.y l.s (16 * l.i)
