-- `journal::walking::replay_refusal` meets its contract. Each return is a place of the list of causes (`PlaceLaws`).
use mathlib.Core.Path.{sym}
use Rattle.journal.proofs.PlaceLaws.{whole_file, whole_journal, passes}
use Rattle.journal.proofs.walking.replay_refusal.Goals as goal

pub returns-then-n-gt-MAX_BYTES : goal.returns-then-n-gt-MAX_BYTES
returns-then-n-gt-MAX_BYTES c = whole_file _ _ c.if-n-gt-MAX_BYTES.true

pub returns-then-journal-gt-MAX_JOURNAL : goal.returns-then-journal-gt-MAX_JOURNAL
returns-then-journal-gt-MAX_JOURNAL c = whole_journal _ _ c.if-n-gt-MAX_BYTES.false c.if-journal-gt-MAX_JOURNAL.true

pub returns : goal.returns
returns c = sym (passes _ _ c.if-n-gt-MAX_BYTES.false c.if-journal-gt-MAX_JOURNAL.false)
