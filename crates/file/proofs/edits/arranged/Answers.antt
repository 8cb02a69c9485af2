-- `file::edits::arranged` meets its contract. An arm is a row of document 01's table, or rows that are alike (`EditReturns`).
use Rattle.file.proofs.EditReturns.{factors-shifted, factors-cut}
use Rattle.file.proofs.edits.arranged.Goals as goal

pub returns-in-CutTail : goal.returns-in-CutTail
returns-in-CutTail c = factors-cut _ _ _ _ c.in-CutTail.is c.plus.ensures

pub returns-in-Change : goal.returns-in-Change
returns-in-Change c = factors-shifted _ _ _ _ c.in-Change.is
