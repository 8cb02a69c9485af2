-- `hash::hash_file` is safe, ends, and prints only what it took of an input that ended whole. The loop's invariant is `Between`, and the
-- measure is what is left of the limit.
use Rattle.std.proofs.Common.{◌-◌}
use Rattle.field.specs.Field.{max_bytes}
use Rattle.hash.proofs.ReadingLaws.{Between}
use Rattle.hash.proofs.hash_file.Given as goal

abbrev pub invariant-loop-n : goal.invariant-loop-n
invariant-loop-n l = Between l.input l.h l.stream l.buf

abbrev pub decreases-loop-n : goal.decreases-loop-n
decreases-loop-n l = max_bytes - l.stream.n
