-- Bytes as eight bit planes (a way to store bytes, of no paper): plane j holds bit j of 64 bytes, each in a lane of its own. And how bytes stand
-- in words, from which planes are made. What the code does is said lane by lane: a step on planes is that step on each of 64 bytes.
use Rattle.std.specs.Prelude.{◌≡◌, List, [], ◌∷◌, ℕ, ◌+◌, ◌*◌, ◌/◌, ◌%◌, ◌<◌, ◌^◌}
use Rattle.planes.specs.declared.Planes.{Planes}
use Rattle.planes.specs.Tables.{at}
use Rattle.planes.specs.Substitution.{bit, number_of_bits}

-- the eight planes, that of bit 0 first
abbrev pub planes : Planes → List ℕ
planes q = q.p0 ∷ q.p1 ∷ q.p2 ∷ q.p3 ∷ q.p4 ∷ q.p5 ∷ q.p6 ∷ q.p7 ∷ []

-- the byte in lane i: its bit j is bit i of plane j
unfoldable pub lane : Planes → ℕ → ℕ
lane q i = number_of_bits 8 (λ j. bit (at (planes q) j) i)

-- lane i holds f i, in all 64 lanes
abbrev pub Shows : Planes → (ℕ → ℕ) → Type 0
Shows q f = (i : ℕ) → i < 64 → lane q i ≡ f i

-- byte p of a word, the lowest first
unfoldable pub byte_of : ℕ → ℕ → ℕ
byte_of w p = w / 2 ^ (8 * p) % 256

-- words w turned into planes r, or planes into words, which is the same: bit 8·p + k of plane j is bit 8·p + j of word k
abbrev pub Turned : Planes → Planes → Type 0
Turned w r = (j i : ℕ) → j < 8 → i < 64 → bit (at (planes r) j) i ≡ bit (at (planes w) (i % 8)) (8 * (i / 8) + j)

-- a, b and c for each one among the three bits of p, the lowest first: how far from each other the bytes of a word stand in memory
unfoldable pub strided : ℕ → ℕ → ℕ → ℕ → ℕ
strided a b c p = a * (p % 2) + b * (p / 2 % 2) + c * (p / 4)

-- how sixteen bytes stand in 64 lanes, four times: lane 8·p + k holds the byte at place p mod 4 + 4·(k mod 4), which of a state of the cipher is
-- that in row p mod 4 and column k mod 4 (FIPS 197, 3.4)
unfoldable pub spread : List ℕ → ℕ → ℕ
spread s i = at s (i / 8 % 4 + 4 * (i % 4))
