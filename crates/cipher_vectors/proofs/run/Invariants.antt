-- `cipher_vectors::run` counts no more blocks than the lines behind it have bytes.
use Rattle.std.proofs.Common.{length, ◌+◌, ◌≤◌}
use Rattle.std.specs.Slice.Iter.{split_inclusive_rest}
use Rattle.cipher_vectors.proofs.run.Given as goal

abbrev pub invariant-loop-line : goal.invariant-loop-line
invariant-loop-line l = l.blocks + length (split_inclusive_rest l.line-iterator) ≤ length l.text
