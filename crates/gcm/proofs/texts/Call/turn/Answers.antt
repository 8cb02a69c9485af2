-- `gcm::texts::Call::turn` meets its contract. GCTR from behind J on is the text turned (`TextLaws`).
use mathlib.Core.Path.{◌∙◌}
use Rattle.gcm.proofs.TextLaws.{turned_of}
use Rattle.gcm.proofs.texts.Call.turn.Goals as goal

pub returns : goal.returns
returns c = rw (← c.self.view_is) (c.gctr.ensures ∙ turned_of _ _ c.self.invariant.0 c.self.invariant.1 _)
