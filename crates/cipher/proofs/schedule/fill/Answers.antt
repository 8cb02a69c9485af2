-- `cipher::schedule::fill` meets its contract. The loop's invariant: the first r rows are the schedule's.
use Rattle.planes.proofs.Tables.{filled_start, filled_next, filled-entry, filled-length, filled_done}
use Rattle.planes.specs.Tables.{tab}
use native.Mathlib.Omega.{arith}
use mathlib.Core.List.{[]}
use mathlib.Core.Path.{refl}
use Rattle.cipher.proofs.schedule.fill.Goals as goal

pub loop-r-init : goal.loop-r-init
loop-r-init c = filled_start _ _ _ refl

pub row_at-requires-clause-by_index : goal.row_at-requires-clause-by_index
row_at-requires-clause-by_index c = λ j h. filled-entry j [] c.loop-r.invariant h

pub loop-r-preserved : goal.loop-r-preserved
loop-r-preserved c = filled_next _ c.loop-r.invariant (omega (arith, filled-length c.loop-r.invariant)) c.row_at.ensures

pub returns : goal.returns
unfolding tab
returns c = filled_done c.loop-r.invariant (omega (arith, filled-length c.loop-r.invariant))
