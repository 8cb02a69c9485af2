-- The incrementing function and GCTR (NIST SP 800-38D, sections 6.2 and 6.5), over bytes. The standard numbers blocks from 1, here they are
-- numbered from 0.
use Rattle.std.specs.Prelude.{List, [], ◌++◌, ℕ, zero, suc, ◌+◌, ◌*◌, ◌%◌, ◌^◌, length, take, drop}
use Rattle.field.specs.Field.{number, bytes, xor_bytes, bytes_of, blocks}
use Rattle.gcm.specs.Gmac.{CIPH}

-- inc_s(X) for s = 32 and a block X: its leftmost 96 bits stay, and its rightmost 32, as a number, rise by one modulo 2^32 (6.2)
unfoldable pub inc32 : List ℕ → List ℕ
inc32 x = take 12 x ++ bytes 4 ((number x 12 4 + 1) % 2 ^ 32)

-- CB_i: CB_1 = ICB, and CB_i = inc32(CB_(i−1)) (6.5, steps 4 and 5)
unfoldable pub CB : List ℕ → ℕ → List ℕ
CB icb zero = icb
CB icb (suc i) = inc32 (CB icb i)

-- X_i: block i of X, of which the last may have fewer bytes than the others (6.5, step 3)
unfoldable pub X : List ℕ → ℕ → List ℕ
X x i = take 16 (drop (16 * i) x)

-- Y_i: X_i + MSB_len(X_i)(CIPH_K(CB_i)), which of a whole block is X_i + CIPH_K(CB_i) (6.5, steps 6 and 7)
unfoldable pub Y : (key icb x : List ℕ) → ℕ → List ℕ
Y key icb x i = xor_bytes (X x i) (take (length (X x i)) (bytes_of (CIPH key (CB icb i))))

-- f 0 || f 1 || .. || f (n − 1) (4.2.2)
unfoldable pub concatenated : (ℕ → List ℕ) → ℕ → List ℕ
concatenated f zero = []
concatenated f (suc n) = concatenated f n ++ f n

-- GCTR_K(ICB, X) = Y_1 || .. || Y_n, n the number of X's blocks; of nothing it is nothing (6.5, steps 1, 2 and 8)
unfoldable pub GCTR : (key icb x : List ℕ) → List ℕ
GCTR key icb x = concatenated (Y key icb x) (blocks (length x))
