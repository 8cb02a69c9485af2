-- `gcm::texts::Call::tag` meets its contract. The hash and the cipher of J, added (`TextLaws`).
use Rattle.gcm.proofs.TextLaws.{tag-text}
use Rattle.gcm.proofs.texts.Call.tag.Goals as goal

pub returns : goal.returns
returns c = rw (← c.self.view_is) (tag-text _ _ c.self.invariant.0 c.self.invariant.1 _ _ c.hash.ensures c.ciphered.ensures c.plus.ensures)
