-- `gcm::counters::Schedule::gctr` meets its contract. The loop's invariant: i batches are turned, and the text behind them is left (`Batches`).
use mathlib.Core.Path.{◌≡◌}
use Prim.Native.Nat.{◌*◌}
use lib.ListN.{drop}
use Rattle.std.specs.Slice.Iter.{chunks_rest, chunks_size}
use Rattle.std.specs.Iterator.Adapters.{enumerate_source, enumerate_count}
use Rattle.field.specs.Field.{bytes_of}
use Rattle.gcm.specs.Counters.{inc32, GCTR}
use Rattle.gcm.proofs.Batches.{Turning}
use Rattle.gcm.proofs.counters.Schedule.gctr.Given as goal

abbrev pub invariant-loop-i : goal.invariant-loop-i
invariant-loop-i l =
    record {
      size : chunks_size (enumerate_source l.i-iterator) ≡ 256;
      left : chunks_rest (enumerate_source l.i-iterator) ≡ drop (256 * enumerate_count l.i-iterator) l.text;
      turned : Turning (GCTR l.self.key.bytes (inc32 (bytes_of l.block)) l.text) l.initial.out (256 * enumerate_count l.i-iterator) l.out;
    }
