-- `cipher::schedule::row_at` meets its contract. A row is the key's own, or follows from the rows before it by KEYEXPANSION.
use Rattle.cipher.proofs.KeyRows.{row_of-own, row_of_next}
use native.Mathlib.Omega.{arith}
use mathlib.Core.Path.{◌∙◌}
use Rattle.cipher.proofs.schedule.row_at.Goals as goal

pub returns-then-r-d : goal.returns-then-r-d
returns-then-r-d c = c.key_row.ensures ∙ row_of-own _ _ c.requires.expands (omega arith)

pub returns : goal.returns
returns c =
    let earlier = c.requires.by_index in
    row_of_next _ _ c.requires.expands _ _ _ _ (omega arith) (earlier _ (omega arith)) (earlier _ (omega arith)) c.first_word.ensures
    c.next_row.ensures
