-- The rows of the schedule: KEYEXPANSION's words, four to a row, are what the code's steps make of the rows before (specs/Clauses).
use mathlib.Core.Path.{◌≡◌, refl, sym, ap, ap₂, ◌∙◌, fun_ext}
use mathlib.Core.Logic.{◌⊎◌, inl, inr, ⊎_elim, ◌≢◌}
use mathlib.Core.Bool.{Bool, true, false, cond}
use mathlib.Core.List.{List, [], ◌∷◌, ◌++◌}
use Prim.Native.Nat.{ℕ, ◌+◌, ◌-◌, ◌*◌, ◌/◌, ◌%◌, ◌≤◌, ◌<◌}
use native.Mathlib.Nat.{eq-or-lt_of_le, mul-div-mul_left, zero-lt-suc}
use native.Mathlib.Decide.{dec_lt}
use native.Mathlib.Omega.{arith}
use borrow.Author.Tests.{lt-ltb, le-ltb, eq-eqb, ne_eqb}
use lib.Dec.{ltb}
use lib.ListN.{length, get_or, set}
use Rattle.planes.specs.Tables.{grow, tab, at}
use Rattle.planes.specs.Planes.{xor, x_power}
use Rattle.cipher.specs.Rounds.{SubBytes}
use Rattle.cipher.specs.Schedule.{add_words, RotWord, SubWord, Rcon, temp, next_word, round_key}
use Rattle.cipher.specs.Clauses.{word, next_row, carried, row_of, Expands}
use Rattle.planes.proofs.Tables.{get_d_grow, Filled, filled_next, filled-read}
use Rattle.planes.proofs.Bytes.{xor-zero}

-- ---- temp, by the place of its word

temp-turned : (Nk i : ℕ) (t : List ℕ) → i % Nk ≡ 0 → temp Nk i t ≡ add_words (SubWord (RotWord t)) (Rcon (i / Nk))
unfolding temp
temp-turned Nk i t e = simp (eq-eqb _ _ e)

temp_substituted : (Nk i : ℕ) (t : List ℕ) → 6 < Nk → i % Nk ≡ 4 → temp Nk i t ≡ SubWord t
unfolding temp
temp_substituted Nk i t h e =
    let n : i % Nk ≢ 0 = omega arith in
    simp (ne_eqb _ _ n, lt-ltb _ _ h, eq-eqb _ _ e)

cond_same : {A : Type 0} (b : Bool) (x : A) → cond b x x ≡ x
cond_same true x = refl
cond_same false x = refl

temp-plain : (Nk i : ℕ) (t : List ℕ) → i % Nk ≢ 0 → i % Nk ≢ 4 → temp Nk i t ≡ t
unfolding temp
temp-plain Nk i t n m = simp (ne_eqb _ _ n, ne_eqb _ _ m, cond_same)

-- a key of 16 or 32 bytes fills one or two rows
one-or-two : (P : ℕ → Type 0) (d : ℕ) → 1 ≤ d → d ≤ 2 → P 1 → P 2 → P d
one-or-two P d low high p q =
    ⊎_elim (λ (e : 1 ≡ d). rw (← e) p) (λ (l : 1 < d). let e : d ≡ 2 = omega arith in rw e q) (eq-or-lt_of_le low)

-- the last word of a row, turned, substituted and added to a constant, byte by byte
turned-bytes : (prev : List ℕ) (k : ℕ)
    → add_words (SubWord (RotWord (word prev 3))) (k ∷ 0 ∷ 0 ∷ 0 ∷ [])
    ≡ xor (at (SubBytes prev) 13) k ∷ at (SubBytes prev) 14 ∷ at (SubBytes prev) 15 ∷ at (SubBytes prev) 12 ∷ []
unfolding add_words SubWord RotWord word SubBytes tab grow
turned-bytes prev k = simp xor-zero

-- the last word of a row, substituted, byte by byte
substituted_bytes : (prev : List ℕ)
    → SubWord (word prev 3) ≡ at (SubBytes prev) 12 ∷ at (SubBytes prev) 13 ∷ at (SubBytes prev) 14 ∷ at (SubBytes prev) 15 ∷ []
unfolding SubWord word SubBytes tab grow
substituted_bytes prev = refl

-- the first word of row r, where d divides r, as the code makes it of the substituted bytes s of the row before
pub first_turned : (d r k : ℕ) (prev s : List ℕ) → 1 ≤ d → d ≤ 2 → s ≡ SubBytes prev → k ≡ x_power (r / d - 1) → r % d ≡ 0
    → xor (at s 13) k ∷ at s 14 ∷ at s 15 ∷ at s 12 ∷ [] ≡ temp (4 * d) (4 * r) (word prev 3)
first_turned d r k prev s low high es ek e =
    sym
    (temp-turned (4 * d) (4 * r) (word prev 3) (one-or-two (λ d. r % d ≡ 0 → 4 * r % (4 * d) ≡ 0) d low high (λ h. omega arith) (λ h. omega arith) e)
    ∙ rw (mul-div-mul_left {m = 4} r d (zero-lt-suc 3), es, ek) (unfold Rcon in turned-bytes prev (x_power (r / d - 1))))

-- the same where d doesn't divide r
pub first_substituted : (d r : ℕ) (prev s : List ℕ) → 1 ≤ d → d ≤ 2 → s ≡ SubBytes prev → r % d ≢ 0
    → at s 12 ∷ at s 13 ∷ at s 14 ∷ at s 15 ∷ [] ≡ temp (4 * d) (4 * r) (word prev 3)
first_substituted d r prev s low high es n =
    let two : d ≡ 2 = one-or-two (λ d. r % d ≢ 0 → d ≡ 2) d low high (λ h. omega arith) (λ h. refl) n in
    rw es
    (sym
    (temp_substituted (4 * d) (4 * r) (word prev 3) (omega arith) (one-or-two (λ d. r % d ≢ 0 → 4 * r % (4 * d) ≡ 4) d low high (λ h. omega arith) (λ h. omega arith) n)
    ∙ substituted_bytes prev))

-- ---- the words of a key

-- w[i], however many words are made
word_of : ℕ → List ℕ → ℕ → List ℕ
word_of Nk key i = next_word Nk key (grow (next_word Nk key) i) i

word-early : (Nk i : ℕ) (key : List ℕ) → i < Nk → word_of Nk key i ≡ tab 4 (λ j. at key (4 * i + j))
unfolding word_of next_word
word-early Nk i key h = simp (lt-ltb _ _ h)

next_later :
    (Nk i : ℕ) (key : List ℕ) (w : List (List ℕ)) → Nk ≤ i
    → next_word Nk key w i ≡ add_words (get_or w (i - Nk) []) (temp Nk i (get_or w (i - 1) []))
unfolding next_word
next_later Nk i key w h = simp (le-ltb _ _ h)

word-later : (Nk i : ℕ) (key : List ℕ) → 0 < Nk → Nk ≤ i → word_of Nk key i ≡ add_words (word_of Nk key (i - Nk)) (temp Nk i (word_of Nk key (i - 1)))
unfolding word_of
word-later Nk i key p h =
    next_later Nk i key (grow (next_word Nk key) i) h
    ∙ ap₂ (λ a b. add_words a (temp Nk i b)) (get_d_grow (next_word Nk key) i (i - Nk) [] (omega arith)) (get_d_grow (next_word Nk key) i (i - 1) [] (omega arith))

-- a word has four bytes
chosen-full : (b : Bool) (f g : ℕ → ℕ) → tab 4 (at (cond b (tab 4 f) (tab 4 g))) ≡ cond b (tab 4 f) (tab 4 g)
unfolding tab grow
chosen-full true f g = refl
chosen-full false f g = refl

word-full : (Nk i : ℕ) (key : List ℕ) → tab 4 (at (word_of Nk key i)) ≡ word_of Nk key i
unfolding word_of next_word add_words
word-full Nk i key = chosen-full (ltb i Nk) _ _

-- ---- four words to a row

-- the row of four words
quad : List ℕ → List ℕ → List ℕ → List ℕ → List ℕ
quad a b c e = a ++ b ++ c ++ e

-- row r by its words
row_words : (Nk r n : ℕ) (key : List ℕ) → r < n
    → round_key (grow (next_word Nk key) (4 * n)) r ≡ quad (word_of Nk key (4 * r)) (word_of Nk key (4 * r + 1)) (word_of Nk key (4 * r + 2)) (word_of Nk key (4 * r + 3))
unfolding round_key quad word_of
row_words Nk r n key h =
    let g = next_word Nk key in
    rw (
      get_d_grow g (4 * n) (4 * r) [] (omega arith),
      get_d_grow g (4 * n) (4 * r + 1) [] (omega arith),
      get_d_grow g (4 * n) (4 * r + 2) [] (omega arith),
      get_d_grow g (4 * n) (4 * r + 3) [] (omega arith),
    )

-- a row does not depend on how many rows are made
pub row-stable :
    (Nk r n m : ℕ) (key : List ℕ) → r < n → r < m → round_key (grow (next_word Nk key) (4 * n)) r ≡ round_key (grow (next_word Nk key) (4 * m)) r
row-stable Nk r n m key h k = row_words Nk r n key h ∙ sym (row_words Nk r m key k)

-- the last word of a row of four words
last_of_tabs : (f g h k : ℕ → ℕ) → word (quad (tab 4 f) (tab 4 g) (tab 4 h) (tab 4 k)) 3 ≡ tab 4 k
unfolding word quad tab grow
last_of_tabs f g h k = refl

-- the next row of a row of four words
next_of_tabs :
    (f g h k : ℕ → ℕ) (t a b c e : List ℕ) → a ≡ add_words (tab 4 f) t → b ≡ add_words (tab 4 g) a → c ≡ add_words (tab 4 h) b
    → e ≡ add_words (tab 4 k) c
    → next_row (quad (tab 4 f) (tab 4 g) (tab 4 h) (tab 4 k)) t ≡ quad a b c e
next_of_tabs f g h k t a b c e ea eb ec ee = rw (ee, ec, eb, ea) (unfold next_row word quad tab grow in refl)

-- row r of a key that fills d rows: its own bytes, and then the code's step from the row d before it and the row just before it
module _ (d : ℕ) (key : List ℕ) (low : 1 ≤ d) (high : d ≤ 2) where
  w : ℕ → List ℕ
  w i = word_of (4 * d) key i

  row : ℕ → List ℕ
  unfolding w
  row r = quad (w (4 * r)) (w (4 * r + 1)) (w (4 * r + 2)) (w (4 * r + 3))

  -- word i, the word c of one of the key's own rows
  word-own : (r c i : ℕ) → i ≡ 4 * r + c → r < d → c < 4 → w i ≡ tab 4 (λ j. at key (16 * r + (4 * c + j)))
  unfolding w
  word-own r c i e h k = word-early (4 * d) i key (omega arith) ∙ ap (tab 4) (fun_ext (λ j. ap (at key) (omega arith)))

  full : (i : ℕ) → tab 4 (at (w i)) ≡ w i
  unfolding w
  full i = word-full (4 * d) i key

  -- word i by word j, d rows before it, and word k, just before it
  word-step : (i j k : ℕ) → i ≡ j + 4 * d → i ≡ k + 1 → w i ≡ add_words (tab 4 (at (w j))) (temp (4 * d) i (w k))
  unfolding w
  word-step i j k ej ek =
      let fj : i - 4 * d ≡ j = omega arith in
      let fk : i - 1 ≡ k = omega arith in
      word-later (4 * d) i key (omega arith) (omega arith) ∙ rw (fj, fk, full j)

  -- the same where i is not the first word of a row
  word_next : (r c i j k : ℕ) → i ≡ 4 * r + c → 0 < c → c < 4 → i ≡ j + 4 * d → i ≡ k + 1 → w i ≡ add_words (tab 4 (at (w j))) (w k)
  word_next r c i j k e p l ej ek =
      let n : i % (4 * d) ≢ 0 = one-or-two (λ d. i % (4 * d) ≢ 0) d low high (omega arith) (omega arith) in
      let m : i % (4 * d) ≢ 4 = one-or-two (λ d. i % (4 * d) ≢ 4) d low high (omega arith) (omega arith) in
      word-step i j k ej ek ∙ rw (temp-plain _ _ (w k) n m)

  row-own : (r : ℕ) → r < d → row r ≡ tab 16 (λ i. at key (16 * r + i))
  unfolding row
  row-own r h =
      rw (
        word-own r 0 (4 * r) (omega arith) h (omega arith),
        word-own r 1 (4 * r + 1) refl h (omega arith),
        word-own r 2 (4 * r + 2) refl h (omega arith),
        word-own r 3 (4 * r + 3) refl h (omega arith),
      )
      (unfold quad tab grow in refl)

  row_tabs : (r : ℕ) → row r ≡ quad (tab 4 (at (w (4 * r)))) (tab 4 (at (w (4 * r + 1)))) (tab 4 (at (w (4 * r + 2)))) (tab 4 (at (w (4 * r + 3))))
  unfolding row
  row_tabs r = simp full

  row_next : (r : ℕ) → d ≤ r → row r ≡ next_row (row (r - d)) (temp (4 * d) (4 * r) (word (row (r - 1)) 3))
  row_next r h =
      let b = 4 * (r - d) in
      let p = 4 * (r - 1) + 3 in
      sym
      (rw (row_tabs (r - d), row_tabs (r - 1), last_of_tabs)
      (unfold row in
      next_of_tabs _ _ _ _ _ _ _ _ _
      (word-step (4 * r) b p (omega arith) (omega arith) ∙ rw (full p))
      (word_next r 1 (4 * r + 1) (b + 1) (4 * r) refl (omega arith) (omega arith) (omega arith) refl)
      (word_next r 2 (4 * r + 2) (b + 2) (4 * r + 1) refl (omega arith) (omega arith) (omega arith) (omega arith))
      (word_next r 3 (4 * r + 3) (b + 3) (4 * r + 2) refl (omega arith) (omega arith) (omega arith) (omega arith))))

-- ---- the rows as the contracts name them

-- the next row as the loop fills it, byte by byte
pub next_grown : (back t : List ℕ) → grow (λ before i. xor (at back i) (carried t before i)) 16 ≡ next_row back t
unfolding next_row word add_words carried tab grow
next_grown back t = refl

-- what is added to byte i is read from the bytes that are filled already
carried-filled :
    {g : List ℕ → ℕ → ℕ} {n : ℕ} {b : List ℕ} {i : ℕ} {s : List ℕ} (t : List ℕ) → Filled g n b i s → (i < 4) ⊎ (4 ≤ i)
    → carried t s i ≡ carried t (grow g i) i
unfolding carried
carried-filled t f (inl h) = simp (lt-ltb _ _ h)
carried-filled {i = i} t f (inr h) = simp (le-ltb _ _ h) (filled-read (i - 4) 0 f (omega arith))

lt-or-ge : (i n : ℕ) → (i < n) ⊎ (n ≤ i)
lt-or-ge i n = elim (dec_lt i n) [ yes h ↦ inl h | no h ↦ inr (omega arith) ]

-- one byte more of the next row
pub next_filled :
    (back t : List ℕ) {b : List ℕ} {i : ℕ} {s : List ℕ} (v : ℕ) → Filled (λ before j. xor (at back j) (carried t before j)) 16 b i s → i < 16
    → v ≡ carried t s i
    → Filled (λ before j. xor (at back j) (carried t before j)) 16 b (i + 1) (set s i (xor (at back i) v))
next_filled back t {i = i} v f h e = filled_next _ f h (ap (xor (at back i)) (e ∙ carried-filled t f (lt-or-ge i 4)))

-- ---- a row of the schedule by the rows before it

module _ (key : List ℕ) (r : ℕ) (x : Expands key (r + 1)) where
  low : 1 ≤ length key / 16
  low = omega arith

  high : length key / 16 ≤ 2
  high = omega arith

  row_of-row : (i : ℕ) → row_of key i ≡ row (length key / 16) key low high i
  unfolding row_of row w
  row_of-row i =
      let e : length key / 4 ≡ 4 * (length key / 16) = omega arith in
      rw e (row_words (4 * (length key / 16)) i (i + 1) key (omega arith))

  -- one of the key's own rows
  pub row_of-own : r < length key / 16 → tab 16 (λ i. at key (16 * r + i)) ≡ row_of key r
  row_of-own h = sym (row_of-row r ∙ row-own (length key / 16) key low high r h)

  -- a later row
  pub row_of_next : (s back prev t : List ℕ) → length key / 16 ≤ r → back ≡ row_of key (r - length key / 16) → prev ≡ row_of key (r - 1)
      → t ≡ temp (4 * (length key / 16)) (4 * r) (word prev 3) → s ≡ next_row back t → s ≡ row_of key r
  row_of_next s back prev t h eb ep et es =
      es ∙ rw (et, ep, eb, row_of-row (r - length key / 16), row_of-row (r - 1), row_of-row r) (sym (row_next (length key / 16) key low high r h))
