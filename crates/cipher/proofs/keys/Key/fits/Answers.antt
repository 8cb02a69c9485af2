-- `cipher::keys::Key::fits` meets its contract. The test is the definition of a key.
use Rattle.cipher.specs.Answers.{key_fits}
use mathlib.Core.Path.{refl}
use Rattle.cipher.proofs.keys.Key.fits.Goals as goal

pub returns : goal.returns
unfolding key_fits
returns c = refl
