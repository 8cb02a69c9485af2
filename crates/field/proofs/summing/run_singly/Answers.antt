-- `field::summing::run_singly` meets its contract. It is a fold with nothing in front and nothing added (`Folds`).
use mathlib.Core.Path.{ap}
use native.Mathlib.Omega.{arith}
use Rattle.field.specs.declared.multiplying.Counted.{Counted}
use Rattle.field.specs.Sums.{blocks}
use Rattle.field.proofs.Folds.{folded}
use Rattle.field.proofs.summing.run_singly.Goals as goal

pub fold-requires : goal.fold-requires
unfolding blocks
fold-requires c = omega (arith, c.none.ensures)

pub returns : goal.returns
returns c = folded _ _ _ _ c.blocks-q.ensures (ap (λ (r : Counted). r.value) c.fold.ensures)
