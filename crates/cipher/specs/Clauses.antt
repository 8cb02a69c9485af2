-- What serves the contracts of the code alone, and no other definition: the readers of its answers; the schedule by the steps in which it is made,
-- row by row, of which proofs/KeyRows shows that they are KEYEXPANSION's (FIPS 197, 5.2); and how states stand in planes.
use Rattle.std.specs.Prelude.{cond, List, Result, Ok, Err, ◌++◌, ℕ, ◌+◌, ◌-◌, ◌*◌, ◌/◌, ◌%◌, ◌≤◌, ◌≡◌, ltb, length, get_or}
use Rattle.cipher.specs.declared.Cause.{Cause}
use Rattle.cipher.specs.declared.Cause.TheVariants.{InputLength, OutputLength}
use Rattle.planes.specs.Tables.{grow, tab, at}
use Rattle.planes.specs.Planes.{lane}
use Rattle.planes.specs.declared.Planes.{Planes}
use Rattle.cipher.specs.Schedule.{add_words, next_word, round_key}
use Rattle.cipher.specs.Cipher.{Nk}

-- ---- answers

-- the number of a cause (document 01, "Causes and their numbers")
abbrev pub cause_number : Cause → ℕ
cause_number InputLength = 1
cause_number OutputLength = 7

-- the refusal that an answer tells (document 01, "Causes and their numbers"), 0 where the work was done
abbrev pub answer_refusal : Result Unit Cause → ℕ
answer_refusal (Ok _) = 0
answer_refusal (Err cause) = cause_number cause

-- ---- the rows of a schedule; the key itself fills Nk / 4 of them

-- word c of a row: of row r it is w[4·r + c] (5.2)
unfoldable pub word : List ℕ → ℕ → List ℕ
word s c = tab 4 (λ j. at s (4 * c + j))

-- a row from the row Nk / 4 before it and the first word's temp: each word is the one Nk before it plus the one just before it (5.2)
unfoldable pub next_row : List ℕ → List ℕ → List ℕ
next_row back t =
    let a = add_words (word back 0) t in
    let b = add_words (word back 1) a in
    let c = add_words (word back 2) b in
    a ++ b ++ c ++ add_words (word back 3) c

-- what is added to byte i of the row Nk / 4 before, from the temp t and the new row's bytes before it (5.2)
unfoldable pub carried : List ℕ → List ℕ → ℕ → ℕ
carried t before i = cond (ltb i 4) (at t i) (at before (i - 4))

-- row r of the schedule of a key, by KEYEXPANSION (5.2); the words past row r don't matter
unfoldable pub row_of : List ℕ → ℕ → List ℕ
row_of key r = round_key (grow (next_word (Nk key) key) (4 * (r + 1))) r

-- the keys that the code expands, 16 or 32 bytes, and how many rows of them: Rcon is read up to Rcon[10] (5.2)
pub record Expands (key : List ℕ) (n : ℕ) : Type 0 where
  pub whole : length key % 16 ≡ 0
  pub least : 16 ≤ length key
  pub most : length key ≤ 32
  pub rows : n ≤ 11 * (length key / 16)

-- ---- planes

-- planes that hold nothing
abbrev pub blank : Planes
blank = record { p0 = 0; p1 = 0; p2 = 0; p3 = 0; p4 = 0; p5 = 0; p6 = 0; p7 = 0 }

-- set r of four sets of planes
abbrev pub row_in : List Planes → ℕ → Planes
row_in q r = get_or q r blank

-- the state of block b of sixteen: its byte in row r and column c stands in lane 16·c + b of set r
unfoldable pub state_in : List Planes → ℕ → List ℕ
state_in q b = tab 16 (λ i. lane (row_in q (i % 4)) (16 * (i / 4) + b))
