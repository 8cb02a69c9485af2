-- `journal::records::Head::read` meets its contract: the head as a word and four bytes (`RecordLaws`).
use native.Mathlib.Omega.{arith}
use Rattle.journal.proofs.RecordLaws.{size_fits, head_read}
use Rattle.journal.proofs.records.Head.read.Goals as goal

pub overflow_cast-size : goal.overflow_cast-size
overflow_cast-size c = omega (arith, size_fits _ _ c.number_at-size.ensures)

pub returns : goal.returns
returns c = head_read _ _ c.number_at-word.ensures c.number_at-size.ensures c.kind_named.ensures
