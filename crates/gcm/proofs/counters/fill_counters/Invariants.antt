-- `gcm::counters::fill_counters` meets its contract. The loop's invariant: i counter blocks are written (`Batches`).
use Prim.Native.Nat.{◌*◌}
use Rattle.field.specs.Field.{bytes_of}
use Rattle.field.proofs.Stores.{Stored}
use Rattle.gcm.specs.Clauses.{counters}
use Rattle.gcm.proofs.counters.fill_counters.Given as goal

abbrev pub invariant-loop-i : goal.invariant-loop-i
invariant-loop-i l = Stored l.initial.pad 0 (counters (bytes_of l.j) l.first l.i) (16 * l.i) l.pad
