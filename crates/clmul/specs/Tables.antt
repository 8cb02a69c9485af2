-- What serves contracts alone and stands in no standard: numbers of several words, and how sixteen of them stand in arrays.
use Rattle.std.specs.Prelude.{◌≡◌, List, [], ◌∷◌, ℕ, zero, suc, ◌+◌, ◌*◌, ◌/◌, ◌%◌, ◌^◌, ◌<◌, length, get_or, slice_set}
use Rattle.clmul.specs.Xor.{xor}
use Rattle.clmul.specs.declared.karatsuba.Double.{Double}
use Rattle.clmul.specs.declared.karatsuba.Wide.{Wide}
use Rattle.clmul.specs.Halves.{mixtures_of, listed}

-- the number of two words
unfoldable pub double : Double → ℕ
double d = d.hi * 2 ^ 64 + d.lo

-- the number of four words
unfoldable pub wide : Wide → ℕ
wide w = ((w.w3 * 2 ^ 64 + w.w2) * 2 ^ 64 + w.w1) * 2 ^ 64 + w.w0

-- of a number of 2k bits the high part, the low part, and the sum of both: what Karatsuba's rule multiplies
unfoldable pub part : ℕ → ℕ → ℕ → ℕ
part k zero x = x / 2 ^ k
part k (suc zero) x = x % 2 ^ k
part k (suc (suc j)) x = xor (x / 2 ^ k) (x % 2 ^ k)

-- the nine halves of a number of 128 bits: the three parts of its three parts
unfoldable pub half : ℕ → ℕ → ℕ
half w x = part 32 (w % 3) (part 64 (w / 3) x)

-- t with vs written down column k of rows of s places, from row r on
unfoldable pub down : ℕ → ℕ → ℕ → List ℕ → List ℕ → List ℕ
down s k r [] t = t
down s k r (v ∷ vs) t = down s k (suc r) vs (slice_set t (s * r + k) v)

-- x holds the halves of sixteen numbers, half w of number n at 16w + n
pub record HalvesIn (f : ℕ → ℕ) (x : List ℕ) : Type 0 where
  pub size : length x ≡ 144
  pub each : (w n : ℕ) → w < 9 → n < 16 → get_or x (16 * w + n) 0 ≡ half w (f n)

-- t holds the mixtures of 144 numbers, row j of number i at 144j + i
pub record MixturesIn (y : ℕ → ℕ) (t : List ℕ) : Type 0 where
  pub size : length t ≡ 1296
  pub each : (j i : ℕ) → j < 9 → i < 144 → get_or t (144 * j + i) 0 ≡ get_or (mixtures_of (y i)) j 0

-- number n of sixteen whose halves are h, made of those of its two words
unfoldable pub number_of : (ℕ → ℕ) → ℕ → ℕ
number_of h n = (h n * 2 ^ 32 + h (16 + n)) * 2 ^ 64 + (h (48 + n) * 2 ^ 32 + h (64 + n))

-- half i of those whose mixtures stand in t, put together from its four planes
unfoldable pub half_in : List ℕ → ℕ → ℕ
half_in t i =
    xor (xor (get_or t (432 + i) 0 * 2) (get_or t (288 + i) 0) * 4) (xor (get_or t (144 + i) 0 * 2) (get_or t i 0))

-- the sixteen numbers whose halves stand in x
unfoldable pub halved : List ℕ → ℕ → ℕ
halved x = number_of (λ i. get_or x i 0)

-- the sixteen numbers whose halves' mixtures stand in t
unfoldable pub tabled : List ℕ → ℕ → ℕ
tabled t = number_of (half_in t)

-- the first sixteen values of f
abbrev pub sixteen : (ℕ → ℕ) → List ℕ
sixteen f = listed f 0 16

-- t is the table of sixteen numbers: the mixtures of their halves
unfoldable pub TableIn : (ℕ → ℕ) → List ℕ → Type 0
TableIn g t = MixturesIn (λ i. half (i / 16) (g (i % 16))) t

-- the first sixteen of these numbers have 128 bits
pub record Small (f : ℕ → ℕ) : Type 0 where
  pub each : (n : ℕ) → n < 16 → f n < 2 ^ 128

-- what holds of every array of halves: it has nothing but those of the numbers that it shows, which have 128 bits
pub record IsHalved (x : List ℕ) : Type 0 where
  pub small : Small (halved x)
  pub halves : HalvesIn (halved x) x

-- what holds of every table: it has nothing but the mixtures of the numbers that it shows, which have 128 bits
pub record IsTabled (t : List ℕ) : Type 0 where
  pub small : Small (tabled t)
  pub table : TableIn (tabled t) t
