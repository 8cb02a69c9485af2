-- `gcm::texts::Call::tag_fits` meets its contract. Two blocks are the same exactly where their bytes are (`Comparing`).
use native.Mathlib.Omega.{arith}
use Rattle.gcm.proofs.Comparing.{tag-fits_of}
use Rattle.gcm.proofs.texts.Call.tag_fits.Goals as goal

pub returns : goal.returns
returns c =
    tag-fits_of _ _ c.requires.0 (λ i l. omega (arith, c.type_inv.tag i))
    (record { hi = omega (arith, c.tag.type_inv); lo = omega (arith, c.tag.type_inv) }) c.from_bytes.ensures c.same.ensures
    c.tag.ensures
