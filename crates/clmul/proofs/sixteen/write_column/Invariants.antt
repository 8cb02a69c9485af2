-- `clmul::sixteen::write_column` meets its contract. The loop's invariant is `Writing` of `Columns`: what is still to be written.
use Prim.Native.Nat.{◌/◌}
use Rattle.clmul.proofs.Columns.{Writing}
use Rattle.clmul.proofs.sixteen.write_column.Given as goal

abbrev pub invariant-loop-j : goal.invariant-loop-j
invariant-loop-j g l = Writing (g.row.N / 9) l.k l.column l.initial.rows l.j l.rows
