-- `cipher_vectors::read_full` fills no more than the buffer.
use Rattle.std.proofs.Common.{length, ◌-◌, ◌≤◌}
use Rattle.cipher_vectors.proofs.read_full.Given as goal

abbrev pub invariant-loop-k : goal.invariant-loop-k
invariant-loop-k l = l.n ≤ length l.buf

abbrev pub decreases-loop-k : goal.decreases-loop-k
decreases-loop-k l = length l.buf - l.n
