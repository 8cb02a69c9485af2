-- The laws of AES and its keys that the layers above use, whose text they do not see.
use mathlib.Core.Path.{◌≡◌}
use mathlib.Core.Bool.{true}
use mathlib.Core.List.{List}
use Prim.Native.Nat.{ℕ}
use lib.ListN.{length}
use borrow.Author.Tests.{eqb-true, eq-eqb}
use Rattle.cipher.specs.Rounds.{AddRoundKey}
use Rattle.cipher.specs.Cipher.{Cipher, aes}
use Rattle.cipher.specs.Answers.{key_fits}
use Rattle.planes.proofs.Tables.{length-tab}

-- the cipher gives sixteen bytes, of any lists
pub length-aes : (key block : List ℕ) → length (aes key block) ≡ 16
unfolding aes Cipher AddRoundKey
length-aes key block = length-tab 16 _

-- a list is a key exactly where it has sixteen bytes
pub fits-length : (key : List ℕ) → key_fits key ≡ true → length key ≡ 16
unfolding key_fits
fits-length key e = eqb-true _ _ e

pub length-fits : (key : List ℕ) → length key ≡ 16 → key_fits key ≡ true
unfolding key_fits
length-fits key e = eq-eqb _ _ e
