-- `field::filling::series` meets its contract. The loop's invariant is `Building` of `Series`: the powers are built for k without the digits
-- that are left.
use native.Mathlib.Omega.{arith}
use Rattle.field.specs.Blocks.{one, block}
use Rattle.field.proofs.Series.{series-none, building_start, building_room, building_zero, building_one}
use Rattle.field.proofs.filling.series.Goals as goal

pub returns-then-k-eq0 : goal.returns-then-k-eq0
returns-then-k-eq0 c = series-none _ _ _ c.if-k-eq0.true

pub loop-left-init : goal.loop-left-init
unfolding one block
loop-left-init c = building_start _ _ _ _ (record { hi = omega arith; lo = omega arith }) c.ilog2-left.ensures.power_le c.ilog2-left.ensures.next_power_gt c.ilog2-left.ensures.bound

pub onward-s-requires : goal.onward-s-requires
onward-s-requires c = omega (arith, building_room c.loop-left.invariant (omega arith) c.requires)

pub onward-s-requires-then-k-left-eq1 : goal.onward-s-requires-then-k-left-eq1
onward-s-requires-then-k-left-eq1 c =
    rw c.onward-s.ensures (omega (arith, building_room c.loop-left.invariant (omega arith) c.requires))

pub loop-left-preserved-then-k-left-eq1 : goal.loop-left-preserved-then-k-left-eq1
unfolding one block
loop-left-preserved-then-k-left-eq1 c =
    building_one c.loop-left.invariant (omega arith) c.onward-s.ensures c.onward-s-then-k-left-eq1.ensures c.if-k-left-eq1.true

pub loop-left-preserved : goal.loop-left-preserved
loop-left-preserved c =
    building_zero c.loop-left.invariant (omega arith) c.onward-s.ensures (omega (arith, c.if-k-left-eq1.false))
