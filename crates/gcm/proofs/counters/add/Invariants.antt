-- `gcm::counters::add` meets its contract. The loop's invariant: the first k bytes of the sum are written (`Batches`).
use Rattle.field.specs.Field.{xor_bytes}
use Rattle.field.proofs.Stores.{Copied}
use Rattle.gcm.proofs.counters.add.Given as goal

abbrev pub invariant-loop-k : goal.invariant-loop-k
invariant-loop-k l = Copied l.initial.out 0 (xor_bytes l.text l.pad) l.out l.k
