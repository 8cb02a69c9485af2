-- KEYEXPANSION (FIPS 197, section 5.2), for any number Nk of key words and Nr of rounds. A word is a list of four bytes.
use Rattle.std.specs.Prelude.{cond, List, [], ◌∷◌, ◌++◌, ℕ, ◌+◌, ◌-◌, ◌*◌, ◌/◌, ◌%◌, ltb, eqb, get_or}
use Rattle.planes.specs.Tables.{grow, tab, at}
use Rattle.planes.specs.Planes.{xor, x_power, sbox}

-- two words added (5.2)
unfoldable pub add_words : List ℕ → List ℕ → List ℕ
add_words a b = tab 4 (λ j. xor (at a j) (at b j))

-- ROTWORD: [a1, a2, a3, a0] (5.2)
unfoldable pub RotWord : List ℕ → List ℕ
RotWord a = tab 4 (λ j. at a ((j + 1) % 4))

-- SUBWORD: the substitution box at each byte (5.2)
unfoldable pub SubWord : List ℕ → List ℕ
SubWord a = tab 4 (λ j. sbox (at a j))

-- Rcon[j] = [x^(j − 1), 0, 0, 0], with x^n in the byte field (5.2)
unfoldable pub Rcon : ℕ → List ℕ
Rcon j = x_power (j - 1) ∷ 0 ∷ 0 ∷ 0 ∷ []

-- temp for word i, from word i − 1 (5.2, Algorithm 2)
unfoldable pub temp : ℕ → ℕ → List ℕ → List ℕ
temp Nk i t =
    cond (eqb (i % Nk) 0) (add_words (SubWord (RotWord t)) (Rcon (i / Nk)))
    (cond (ltb 6 Nk) (cond (eqb (i % Nk) 4) (SubWord t) t) t)

-- w[i] from the words before it (5.2, Algorithm 2): a word of the key, or w[i − Nk] + temp
unfoldable pub next_word : ℕ → List ℕ → List (List ℕ) → ℕ → List ℕ
next_word Nk key w i = cond (ltb i Nk) (tab 4 (λ j. at key (4 * i + j))) (add_words (get_or w (i - Nk) []) (temp Nk i (get_or w (i - 1) [])))

-- w[0 .. 4·Nr + 3] (5.2, Algorithm 2)
unfoldable pub KeyExpansion : ℕ → ℕ → List ℕ → List (List ℕ)
KeyExpansion Nk Nr key = grow (next_word Nk key) (4 * (Nr + 1))

-- the round key of round r: the words w[4·r .. 4·r + 3] (5.1.4)
unfoldable pub round_key : List (List ℕ) → ℕ → List ℕ
round_key w r = get_or w (4 * r) [] ++ get_or w (4 * r + 1) [] ++ get_or w (4 * r + 2) [] ++ get_or w (4 * r + 3) []

-- the schedule as rows of sixteen bytes, a row for each round key (document 01, "Cipher")
unfoldable pub schedule : ℕ → ℕ → List ℕ → List (List ℕ)
schedule Nk Nr key = tab (Nr + 1) (round_key (KeyExpansion Nk Nr key))
