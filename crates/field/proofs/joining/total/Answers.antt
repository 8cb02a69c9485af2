-- `field::joining::total` meets its contract. The loop's invariant is `Totalling` of `PartLengths`.
use native.Mathlib.Omega.{arith}
use Rattle.field.proofs.PartLengths.{totalling_next, totalling_over, totalling_done}
use Rattle.field.proofs.joining.total.Goals as goal

pub returns-then-n-sum : goal.returns-then-n-sum
returns-then-n-sum c = totalling_over c.loop-n.invariant (omega arith) (omega (arith, c.if-n-sum.true))

pub loop-n-preserved : goal.loop-n-preserved
loop-n-preserved c = totalling_next c.loop-n.invariant (omega arith) (omega (arith, c.if-n-sum.false))

pub returns : goal.returns
returns c = totalling_done c.loop-n.invariant c.loop-n-test.false
