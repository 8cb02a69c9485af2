-- `file::edits::moved_by` meets its contract. The fold is the sum of the placed bytes (`EditReturns`).
use mathlib.Core.List.{◌++◌}
use lib.ListN.{replicate}
use Rattle.field.specs.Field.{xor_bytes}
use Rattle.file.proofs.EditReturns.{moved_sum}
use Rattle.file.proofs.edits.moved_by.Goals as goal

pub returns-clause-sum : goal.returns-clause-sum
returns-clause-sum c =
    let s = c.args in
    moved_sum _ _ _ _ (replicate s.shape.lead 0 ++ xor_bytes s.a.now s.b.now) _ _ c.arranged-f.result c.requires.q_value c.fold-w.ensures
    c.arranged-f.ensures c.times_power-product.ensures c.plus.ensures
