-- `cipher::rounds::cipher` meets its contract. The state is packed, ciphered and read back.
use mathlib.Core.Path.{◌∙◌}
use Rattle.cipher.proofs.ManyBlocks.{length_cipher}
use Rattle.cipher.proofs.RoundLanes.{shows-back}
use Rattle.cipher.proofs.rounds.cipher.Goals as goal

pub returns : goal.returns
returns c =
    c.unpacked.ensures ∙ shows-back _ _ (c.ciphered.ensures 0 _ c.packed.ensures) (length_cipher _ _ _)
