-- `field::streaming::Stream::absorb` meets its contract. Field by field, by what `run` gives.
use Prim.Native.Nat.{◌+◌}
use lib.ListN.{length}
use Rattle.field.specs.Clauses.{absorbed}
use Rattle.field.proofs.streaming.Stream.absorb.Goals as goal

pub returns : goal.returns
unfolding absorbed
returns c =
    let args = c.args in
    λ i. record { h = args.self.h; y = c.run.ensures i; n = args.self.n + length args.chunk.now }
