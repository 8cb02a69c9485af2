-- CIPHER (FIPS 197, section 5.1) over the rows of a schedule, AES by the key's length, and the cipher of many blocks.
use Rattle.std.specs.Prelude.{List, [], ℕ, zero, suc, ◌+◌, ◌-◌, ◌*◌, ◌/◌, ◌%◌, length, get_or, take, drop}
use Rattle.planes.specs.Tables.{tab, at}
use Rattle.cipher.specs.Rounds.{SubBytes, ShiftRows, MixColumns, AddRoundKey}
use Rattle.cipher.specs.Schedule.{schedule}

-- one round before the last (5.1, Algorithm 1)
unfoldable pub Round : List ℕ → List ℕ → List ℕ
Round s k = AddRoundKey (MixColumns (ShiftRows (SubBytes s))) k

-- the state after rounds 1 to r, from the state s before them (5.1, Algorithm 1)
unfoldable pub after : List (List ℕ) → List ℕ → ℕ → List ℕ
after rows s zero = s
after rows s (suc r) = Round (after rows s r) (get_or rows (suc r) [])

-- CIPHER of Nr rounds (5.1, Algorithm 1): row 0 is added before the first round, and the last round has no MIXCOLUMNS
unfoldable pub Cipher : ℕ → List ℕ → List (List ℕ) → List ℕ
Cipher Nr input rows = AddRoundKey (ShiftRows (SubBytes (after rows (AddRoundKey input (get_or rows 0 [])) (Nr - 1)))) (get_or rows Nr [])

-- Nk: the key's number of 32-bit words (section 5)
abbrev pub Nk : List ℕ → ℕ
Nk key = length key / 4

-- Nr: the number of rounds, Nk + 6 for every key length of the standard (section 5, table 3)
abbrev pub Nr : List ℕ → ℕ
Nr key = Nk key + 6

-- the rows of a key's schedule, by its length (section 5)
unfoldable pub rows_of : List ℕ → List (List ℕ)
rows_of key = schedule (Nk key) (Nr key) key

-- AES of a block, by the key's length (section 5); which lengths are taken is key_fits (specs/Answers)
unfoldable pub aes : List ℕ → List ℕ → List ℕ
aes key input = Cipher (Nr key) input (rows_of key)

-- CIPHER of every block of a byte list, under the rows of a schedule (5.1, Algorithm 1): byte i is byte i mod 16 of the cipher of block i / 16
unfoldable pub each_block : List (List ℕ) → List ℕ → List ℕ
each_block rows s = tab (length s) (λ i. at (Cipher (length rows - 1) (take 16 (drop (16 * (i / 16)) s)) rows) (i % 16))
