-- `planes::packing::unpacked` meets its contract: the bytes are those of the words. Rests on Tables.
use mathlib.Core.Path.{◌∙◌}
use Prim.Native.Nat.{◌/◌, ◌%◌}
use native.Mathlib.Omega.{arith}
use Rattle.std.proofs.Common.{rules}
use Rattle.planes.specs.Lanes.{byte_of}
use Rattle.planes.proofs.Tables.{tab-ext}
use Rattle.planes.proofs.FromFn.{tab_made}
use Rattle.planes.proofs.packing.unpacked.Goals as goal

pub returns : goal.returns
unfolding byte_of
returns c =
    tab_made _ _ _ (λ i y f' k. search rules) 16 0 _ c.from_fn.ensures.items
    ∙ tab-ext 16 _ _ (λ i h. c.words-w.ensures (i / 4) (i % 4) (omega arith) (omega arith))
