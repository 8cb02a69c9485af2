-- `clmul::sixteen::Numbers::new` meets its contract, by that of `halves`. Rests on RowLaws.
use mathlib.Core.Path.{◌∙◌}
use Rattle.clmul.proofs.RowLaws.{sixteen_at, halved_is, is-halved, small_joined}
use Rattle.clmul.proofs.sixteen.Numbers.new.Goals as goal

pub invariant_of-result : goal.invariant_of-result
invariant_of-result c = is-halved c.halves.ensures (small_joined _ _ c.fits-hi c.fits-lo)

pub returns : goal.returns
returns c n l = sixteen_at _ l ∙ halved_is c.halves.ensures l
