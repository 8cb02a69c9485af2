-- `file::geometry::row` meets its contract. In each arm the row is the geometry (`ShapeLaws`).
use Rattle.file.proofs.ShapeLaws.{row-change, row-append, row-prepend, row_drop, row_cut}
use Rattle.file.proofs.geometry.row.Goals as goal

pub returns-in-Change : goal.returns-in-Change
returns-in-Change c = row-change _ _ _ _ c.requires.0 c.requires.1 c.in-Change.is c.placed.ensures

pub returns-in-Append : goal.returns-in-Append
returns-in-Append c = row-append _ _ _ _ c.requires.0 c.requires.1 c.in-Append.is c.placed-in-Append.ensures

pub returns-in-Prepend : goal.returns-in-Prepend
returns-in-Prepend c = row-prepend _ _ _ _ c.requires.0 c.requires.1 c.in-Prepend.is c.placed-in-Prepend.ensures

pub returns-in-DropFront : goal.returns-in-DropFront
returns-in-DropFront c = row_drop _ _ _ _ c.requires.0 c.requires.1 c.in-DropFront.is c.placed-in-DropFront.ensures

pub returns-in-CutTail : goal.returns-in-CutTail
returns-in-CutTail c = row_cut _ _ _ _ c.requires.0 c.requires.1 c.in-CutTail.is c.placed-in-CutTail.ensures
