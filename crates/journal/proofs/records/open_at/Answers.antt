-- `journal::records::open_at` meets its contract, by a law of `SpanLaws` for each return.
use Rattle.journal.proofs.SpanLaws.{at-end, at_short, at_refused, at_record}
use Rattle.journal.proofs.records.open_at.Goals as goal

pub returns-then-journal-at : goal.returns-then-journal-at
returns-then-journal-at c = at-end _ _ c.if-journal-at.true

pub returns-then-left-lt-HEAD_BYTES : goal.returns-then-left-lt-HEAD_BYTES
returns-then-left-lt-HEAD_BYTES c = at_short _ _ c.if-journal-at.false c.if-left-lt-HEAD_BYTES.true

pub returns-in-Ok : goal.returns-in-Ok
returns-in-Ok c =
    at_record _ _ c.if-journal-at.false c.if-left-lt-HEAD_BYTES.false _ c.read-head.ensures _ c.tested.ensures.refusal c.in-Ok.is c.in-Ok.ensures.kind
    c.body.ensures c.edit.ensures

pub returns-in-Err : goal.returns-in-Err
returns-in-Err c =
    at_refused _ _ c.if-journal-at.false c.if-left-lt-HEAD_BYTES.false _ c.read-head.ensures _ c.tested.ensures.refusal c.in-Err.is
