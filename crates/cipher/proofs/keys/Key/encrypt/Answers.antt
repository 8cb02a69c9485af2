-- `cipher::keys::Key::encrypt` meets its contract. AES is the cipher over the rows of the key's schedule.
use Rattle.cipher.proofs.Whole.{aes-rows}
use mathlib.Core.Path.{◌∙◌}
use Rattle.cipher.proofs.keys.Key.encrypt.Goals as goal

pub returns : goal.returns
returns c = c.cipher.ensures ∙ aes-rows _ _ _ c.expand.ensures
