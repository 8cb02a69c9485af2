-- `field::filling::series` meets its contract. The loop's invariant is `Building` of `Series`: the powers are built for k without the digits
-- that are left.
use Rattle.field.proofs.Series.{Building}
use Rattle.field.proofs.filling.series.Given as goal

abbrev pub invariant-loop-left : goal.invariant-loop-left
invariant-loop-left l = Building l.h l.k l.initial.s.count l.s l.left
