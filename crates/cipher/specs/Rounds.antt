-- The four transformations of the state (FIPS 197, sections 5.1.1 to 5.1.4). The state s has its byte in row r and column c at place
-- r + 4·c of a list of sixteen (section 3.4).
use Rattle.std.specs.Prelude.{List, ℕ, ◌+◌, ◌*◌, ◌/◌, ◌%◌}
use Rattle.planes.specs.Tables.{tab, at}
use Rattle.planes.specs.Planes.{xor, ◌•◌, sbox}

-- the byte of the state in row r and column c (3.4)
abbrev pub entry : List ℕ → ℕ → ℕ → ℕ
entry s r c = at s (r + 4 * c)

-- SUBBYTES: the substitution box at every byte (5.1.1)
unfoldable pub SubBytes : List ℕ → List ℕ
SubBytes s = tab 16 (λ i. sbox (at s i))

-- SHIFTROWS: row r moves r places to the left, s'[r, c] = s[r, (c + r) mod 4] (5.1.2)
unfoldable pub ShiftRows : List ℕ → List ℕ
ShiftRows s = tab 16 (λ i. entry s (i % 4) ((i / 4 + i % 4) % 4))

-- {02}·a + {03}·b + c + d (5.1.3)
unfoldable pub mixed : ℕ → ℕ → ℕ → ℕ → ℕ
mixed a b c d = xor (xor (xor (2 • a) (3 • b)) c) d

-- the byte in row r and column c after MIXCOLUMNS, from that column's bytes in rows r, r + 1, r + 2 and r + 3 modulo 4 (5.1.3)
unfoldable pub mixed_entry : List ℕ → ℕ → ℕ → ℕ
mixed_entry s r c = mixed (entry s r c) (entry s ((r + 1) % 4) c) (entry s ((r + 2) % 4) c) (entry s ((r + 3) % 4) c)

-- MIXCOLUMNS (5.1.3)
unfoldable pub MixColumns : List ℕ → List ℕ
MixColumns s = tab 16 (λ i. mixed_entry s (i % 4) (i / 4))

-- ADDROUNDKEY: a round key added to the state (5.1.4)
unfoldable pub AddRoundKey : List ℕ → List ℕ → List ℕ
AddRoundKey s k = tab 16 (λ i. xor (at s i) (at k i))
