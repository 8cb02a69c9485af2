-- The block call's answer and output for all inputs (document 01, "Causes and their numbers").
use Rattle.std.specs.Prelude.{Bool, not, cond, List, [], ◌∷◌, ℕ, eqb, length}
use Rattle.refusals.specs.Refusals.{first}
use Rattle.cipher.specs.Cipher.{aes}

-- the byte lists that are keys: 16 bytes (document 01, "What the controller holds")
unfoldable pub key_fits : List ℕ → Bool
key_fits key = eqb (length key) 16

-- the block call's refusal (document 01, "Causes and their numbers")
unfoldable pub encrypt_refusal : List ℕ → List ℕ → List ℕ → ℕ
encrypt_refusal key block out = first ((not (key_fits key), 1) ∷ (not (eqb (length block) 16), 1) ∷ (not (eqb (length out) 16), 7) ∷ [])

-- what the block call leaves in the output: AES of the block, or on a refusal what it held before (document 01, "Causes and their numbers")
unfoldable pub encrypt_output : List ℕ → List ℕ → List ℕ → List ℕ
encrypt_output key block out = cond (eqb (encrypt_refusal key block out) 0) (aes key block) out
