-- `gcm::texts::Call::begin` meets its contract. The cipher of the zero block is H, and J is the nonce's (`TextLaws`).
use mathlib.Core.Path.{◌∙◌}
use Rattle.gcm.proofs.TextLaws.{zero-block}
use Rattle.gcm.proofs.texts.Call.begin.Goals as goal

pub invariant_of-result : goal.invariant_of-result
invariant_of-result c = (c.ciphered-h.ensures ∙ zero-block _, c.nonce_block-j.ensures)
