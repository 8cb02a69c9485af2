-- `field::seeking::companion` meets its contract. The loop's invariant is `Doubling` of `Seek`: after j turns x is h^(2^j) and y
-- is h^(2^(j+1) − 2).
use Rattle.field.proofs.Seek.{Doubling}
use Rattle.field.proofs.seeking.companion.Given as goal

abbrev pub invariant-loop : goal.invariant-loop
invariant-loop l = Doubling l.initial.x l.counter l.x l.y
