-- What the hash program prints of a file (document 01, "The hash program").
use Rattle.std.specs.Prelude.{◌≡◌, cond, List, [], ◌∷◌, ◌++◌, ℕ, zero, suc, ◌/◌, ◌%◌, ltb}
use Prim.Native.Char.{code}
use Prim.Native.String.{String}
use Prim.Native.String as text
use Rattle.io.specs.Digits.{hex_digit_ascii, last_digits}
use Rattle.field.specs.declared.blocks.Block.{Block}
use Rattle.field.specs.Field.{value, one, blocks, ghash}

-- the bytes of a text of ASCII
unfoldable pub ascii : String → List ℕ
ascii text.[] = []
ascii (text.◌∷◌ c s) = code c ∷ ascii s

-- a number's decimal digits, at most so many
unfoldable pub decimal_within : (places n : ℕ) → List ℕ
decimal_within zero n = []
decimal_within (suc k) n = cond (ltb n 10) (hex_digit_ascii n ∷ []) (decimal_within k (n / 10) ++ (hex_digit_ascii (n % 10) ∷ []))

-- the decimal digits of a number of 64 bits, which has at most 20
unfoldable pub decimal : ℕ → List ℕ
decimal n = decimal_within 20 n

-- the last so many hexadecimal digits of a number, in lower case
unfoldable pub hexadecimal : (places n : ℕ) → List ℕ
hexadecimal k n = last_digits 16 k n

-- the most bytes that the lines take: 22 for words and line ends, 20 for each count, 32 for the hash
abbrev pub lines_bytes : ℕ
lines_bytes = 94

-- the three lines: decimal byte and block counts, and the hash in lower-case hexadecimal (document 01, "The hash program")
unfoldable pub file_lines : (n : ℕ) (hash : Block) → List ℕ
file_lines n hash =
    ascii "bytes " ++ decimal n ++ ascii "\nblocks " ++ decimal (blocks n) ++ ascii "\nghash " ++ hexadecimal 32 (value hash) ++ ascii "\n"

-- H = one, file 01 (document 01, "The hash program")
unfoldable pub Example : Type 0
Example =
    file_lines 1 (ghash one (1 ∷ []) [])
    ≡ ascii "bytes 1\nblocks 1\nghash 01000000000000080000000000000000\n"
