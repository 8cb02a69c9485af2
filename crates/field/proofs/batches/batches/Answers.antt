-- `field::batches::batches` meets its contract. The loop's invariant: y is Y after i batches.
use mathlib.Core.Path.{ap, ◌∙◌}
use Prim.Native.Nat.{ℕ, ◌*◌}
use native.Mathlib.Omega.{arith}
use Rattle.field.specs.Ghash.{Yᵢ}
use Rattle.field.proofs.BatchLaws.{batched_start, batched_next}
use Rattle.field.proofs.batches.batches.Goals as goal

pub loop-i-init : goal.loop-i-init
loop-i-init c = batched_start _ _ _

pub loop-i-preserved : goal.loop-i-preserved
loop-i-preserved c = batched_next _ _ _ _ c.loop-i.invariant (c.batch-y.ensures c.args.h c.fill_powers.ensures)

pub returns : goal.returns
returns c = c.loop-i.invariant ∙ ap (λ (j : ℕ). Yᵢ c.args.h c.args.start c.args.s.now (16 * j)) (omega arith)
