-- `field::batches::batch` meets its contract. The sum of the sixteen products, reduced, is Horner's rule (`BatchLaws`).
use native.Mathlib.Omega.{arith}
use Rattle.std.proofs.Common.{rules}
use Rattle.field.specs.Blocks.{Small}
use Rattle.field.proofs.BatchLaws.{batch_words}
use Rattle.field.proofs.batches.batch.Goals as goal

pub returns : goal.returns
returns c =
    let y = c.args.y in
    let small : Small y = record { hi = omega arith; lo = omega arith } in
    λ h table. batch_words y c.args.s.now c.args.at c.from_fn-hi.result c.from_fn-lo.result small (search rules) (search rules) h _ _ c.new.ensures table c.products.ensures c.reduced.ensures
