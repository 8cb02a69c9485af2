-- Numbers as big-endian bytes, most significant first, and back (SP 800-38D, 4.2.2: [x]_s and int(X), here for whole bytes).
use Rattle.std.specs.Prelude.{List, [], ◌∷◌, ◌++◌, ℕ, zero, suc, ◌+◌, ◌*◌, ◌/◌, ◌%◌, get_or}
use Rattle.clmul.specs.Xor.{xor}

-- int(X) of the k bytes of s from place `at` on (4.2.2); past the end of s stand zero bytes. A byte is read by its eight bits, so
-- that the laws of numbers and sums ask no bound of a list's elements.
unfoldable pub number : List ℕ → ℕ → ℕ → ℕ
number s at zero = 0
number s at (suc k) = number s at k * 256 + get_or s (at + k) 0 % 256

-- [v]_s for s = 8k bits: the k bytes of a number, less what does not fit them (4.2.2)
unfoldable pub bytes : ℕ → ℕ → List ℕ
bytes zero v = []
bytes (suc k) v = bytes k (v / 256) ++ (v % 256 ∷ [])

-- two byte lists added byte by byte, by exclusive or (4.2.2); past the end of the shorter one stand zero bytes
unfoldable pub xor_bytes : List ℕ → List ℕ → List ℕ
xor_bytes [] t = t
xor_bytes (a ∷ s) [] = a ∷ s
xor_bytes (a ∷ s) (b ∷ t) = xor a b ∷ xor_bytes s t
