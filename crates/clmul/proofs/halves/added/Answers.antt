-- `clmul::halves::added` meets its contract: each of the nine products is added.
use mathlib.Core.Path.{◌≡◌}
use Prim.Native.Nat.{◌*◌, ◌%◌, ◌^◌}
use lib.ListN.{get_or}
use Rattle.std.proofs.Common.{rules}
use Rattle.clmul.specs.Xor.{xor}
use Rattle.clmul.specs.Halves.{added_to}
use Rattle.clmul.proofs.Columns.{listed_of}
use Rattle.clmul.proofs.FromFn.{each_made}
use Rattle.clmul.proofs.halves.added.Goals as goal

pub returns : goal.returns
unfolding added_to xor
returns c =
    listed_of _ 9 _ c.from_fn.ensures.items.long (λ j l.
    each_made _ _ (λ k v. v ≡ xor (get_or c.args.t k 0) (get_or c.args.x k 0 % 2 ^ 32 * (get_or c.args.y k 0 % 2 ^ 32)))
    (λ k v f' s. search rules) c.from_fn.ensures.items j 0 l)
