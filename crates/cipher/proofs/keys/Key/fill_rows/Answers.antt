-- `cipher::keys::Key::fill_rows` meets its contract. A key of 16 bytes has ten rounds, and the eleven rows that are filled are its schedule.
use Rattle.cipher.proofs.Whole.{key_expands, schedule-rows}
use mathlib.Core.Path.{◌∙◌}
use borrow.Author.Rules.{rules}
use native.Mathlib.Omega.{arith}
use Rattle.cipher.proofs.keys.Key.fill_rows.Goals as goal

pub fill-requires : goal.fill-requires
fill-requires c = key_expands _ 1 _ (search rules) (omega arith) (omega arith) (omega arith)

pub returns : goal.returns
returns c = c.fill.ensures ∙ schedule-rows _ 1 _ (search rules) (omega arith)
