-- Rows of equal length that stand one after another in an array, written column by column: what a turn of such a loop writes, what is read
-- afterwards, and the loop's invariant.
use mathlib.Core.Path.{◌≡◌, refl, sym, ap, ap₂, ◌∙◌}
use mathlib.Core.Logic.{◌⊎◌, inl, inr, ◌≢◌}
use mathlib.Core.List.{List, [], ◌∷◌}
use Prim.Native.Nat.{ℕ, zero, suc, ◌+◌, ◌*◌, ◌%◌, ◌≤◌, ◌<◌}
use native.Mathlib.Nat.{add-zero, zero-add, mul-suc, mul-le-mul_left, not-suc-le-zero, le_refl, eq-or-lt_of_le, le_of_suc-le-suc}
use native.Mathlib.Nat.{mul-add-mod_self_left, mod-eq_of_lt}
use native.Mathlib.Omega.{arith}
use native.Mathlib.Numerals.{add-one}
use lib.ListN.{length, get_or, set, drop, length-set, drop_of_length-le}
use Rattle.std.proofs.lemmas.List.{ext_get_or}
use Rattle.clmul.specs.Halves.{listed}
use Rattle.clmul.specs.Tables.{down}
use lib.Seq.{drop-cons, get_or-set_same, get_or-set_other}

shift : (r j : ℕ) → r + suc j ≡ suc r + j
shift r j = omega arith

length-listed : (f : ℕ → ℕ) (r n : ℕ) → length (listed f r n) ≡ n
unfolding listed
length-listed f r zero = refl
length-listed f r (suc n) = ap suc (length-listed f (suc r) n)

pub get_d_listed : (f : ℕ → ℕ) (r n j : ℕ) → j < n → get_or (listed f r n) j 0 ≡ f (r + j)
unfolding listed
get_d_listed f r zero j h = absurd (not-suc-le-zero h)
get_d_listed f r (suc n) zero h = rw add-zero
get_d_listed f r (suc n) (suc j) h = get_d_listed f (suc r) n j (le_of_suc-le-suc h) ∙ ap f (sym (shift r j))

pub listed_cong : (f g : ℕ → ℕ) (r n : ℕ) → ((j : ℕ) → j < r + n → f j ≡ g j) → listed f r n ≡ listed g r n
unfolding listed
listed_cong f g r zero e = refl
listed_cong f g r (suc n) e = ap₂ ◌∷◌ (e r (omega arith)) (listed_cong f g (suc r) n (λ j h. e j (rw shift h)))

length_down : (s k r : ℕ) (vs t : List ℕ) → length (down s k r vs t) ≡ length t
unfolding down
length_down s k r [] t = refl
length_down s k r (v ∷ vs) t = length_down s k (suc r) vs _ ∙ length-set t _ v

-- a place that is none of this column's from row r on keeps what it holds
down_other :
    (s k r : ℕ) (vs t : List ℕ) (p : ℕ) → ((m : ℕ) → r ≤ m → p ≢ s * m + k) → get_or (down s k r vs t) p 0 ≡ get_or t p 0
unfolding down
down_other s k r [] t p away = refl
down_other s k r (v ∷ vs) t p away =
    down_other s k (suc r) vs _ p (λ m h. away m (omega arith)) ∙ get_or-set_other t _ p v 0 (away r (le_refl r))

-- a place of a row stands before the rows after it
before_row : (s k r m : ℕ) → k < s → r < m → s * r + k < s * m
before_row s k r m h l = omega (arith, mul-le-mul_left s l, mul-suc s r)

-- what is written is read
down_own :
    (s k r : ℕ) (vs t : List ℕ) (j : ℕ) → k < s → s * (r + length vs) ≤ length t → j < length vs
    → get_or (down s k r vs t) (s * (r + j) + k) 0 ≡ get_or vs j 0
unfolding down
down_own s k r [] t j h fits l = absurd (not-suc-le-zero l)
down_own s k r (v ∷ vs) t zero h fits l =
    rw add-zero
    (down_other s k (suc r) vs _ (s * r + k) (λ m b e. omega (arith, before_row s k r m h b))
    ∙ get_or-set_same t (s * r + k) v 0 (omega (arith, before_row s k r (r + suc (length vs)) h (omega arith))))
down_own s k r (v ∷ vs) t (suc j) h fits l =
    rw shift (down_own s k (suc r) vs (set t (s * r + k) v) j h (rw (length-set, ← shift) fits) (le_of_suc-le-suc l))

-- one place is in one column
column_of : (s j i m k : ℕ) → i < s → k < s → s * j + i ≡ s * m + k → i ≡ k
column_of s j i m k h l e =
    sym (mul-add-mod_self_left s j i ∙ mod-eq_of_lt h) ∙ ap (λ x. x % s) e ∙ mul-add-mod_self_left s m k ∙ mod-eq_of_lt l

-- the loop's invariant: t is n rows of s places, and its first k columns hold what they are to hold
pub record Columns (s n : ℕ) (value : ℕ → ℕ → ℕ) (k : ℕ) (t : List ℕ) : Type 0 where
  pub size : length t ≡ s * n
  pub each : (j i : ℕ) → j < n → i < k → get_or t (s * j + i) 0 ≡ value j i

pub columns_start : (s n : ℕ) (value : ℕ → ℕ → ℕ) (t : List ℕ) → length t ≡ s * n → Columns s n value 0 t
columns_start s n value t e = record { size = e; each = λ j i h l. absurd (not-suc-le-zero l) }

columns_each :
    (s n k : ℕ) (value : ℕ → ℕ → ℕ) (t : List ℕ) → Columns s n value k t → k < s → (j i : ℕ) → j < n → (i ≡ k) ⊎ (i < k)
    → get_or (down s k 0 (listed (λ m. value m k) 0 n) t) (s * j + i) 0 ≡ value j i
columns_each s n k value t c h j i l (inl e) =
    let f : ℕ → ℕ = λ m. value m k in
    let size : length (listed f 0 n) ≡ n = length-listed f 0 n in
    rw e
    (ap (λ (r : ℕ). get_or (down s k 0 (listed f 0 n) t) (s * r + k) 0) (sym (zero-add j))
    ∙ down_own s k 0 (listed f 0 n) t j h (rw (size, zero-add, c.size) (le_refl _)) (rw size l)
    ∙ get_d_listed f 0 n j l ∙ ap f (zero-add j))
columns_each s n k value t c h j i l (inr b) =
    down_other s k 0 _ t (s * j + i) (λ m _ e. omega (arith, column_of s j i m k (omega arith) h e)) ∙ c.each j i l b

-- one column more
pub columns_next :
    {s n : ℕ} {value : ℕ → ℕ → ℕ} {k : ℕ} {t : List ℕ} (column : List ℕ) → Columns s n value k t → k < s
    → column ≡ listed (λ j. value j k) 0 n → Columns s n value (k + 1) (down s k 0 column t)
columns_next {s} {n} {value} {k} {t} column c h e =
    record {
      size = length_down s k 0 column t ∙ c.size;
      each = λ j i l b. ap (λ (vs : List ℕ). get_or (down s k 0 vs t) (s * j + i) 0) e ∙ columns_each s n k value t c h j i l (eq-or-lt_of_le (omega arith));
    }

-- ---- the loop that writes one

-- what is still to be written makes of t what the column makes of t0
pub record Writing (s k : ℕ) (column t0 : List ℕ) (j : ℕ) (t : List ℕ) : Type 0 where
  pub size : length t ≡ length t0
  pub rest : down s k j (drop j column) t ≡ down s k 0 column t0

pub writing_start : (s k : ℕ) (column t : List ℕ) → Writing s k column t 0 t
writing_start s k column t = record { size = refl; rest = refl }

pub writing_next : {s k : ℕ} {column t0 : List ℕ} {j : ℕ} {t : List ℕ} → Writing s k column t0 j t → j < length column
    → Writing s k column t0 (j + 1) (set t (s * j + k) (get_or column j 0))
unfolding down
writing_next {s} {k} {column} {j = j} {t} w h =
    record {
      size = length-set t (s * j + k) _ ∙ w.size;
      rest = rw add-one (ap (λ (vs : List ℕ). down s k j vs t) (sym (drop-cons column j 0 h))) ∙ w.rest;
    }

pub writing_done : {s k : ℕ} {column t0 : List ℕ} {j : ℕ} {t : List ℕ} → Writing s k column t0 j t → length column ≤ j → t ≡ down s k 0 column t0
unfolding down
writing_done {s} {k} {column} {j = j} {t} w h = ap (λ (vs : List ℕ). down s k j vs t) (sym (drop_of_length-le column h)) ∙ w.rest

-- a list by its length and its entries
pub listed_of : (f : ℕ → ℕ) (n : ℕ) (t : List ℕ) → length t ≡ n → ((j : ℕ) → j < n → get_or t j 0 ≡ f j) → t ≡ listed f 0 n
listed_of f n t e h =
    ext_get_or 0 t (listed f 0 n) (e ∙ sym (length-listed f 0 n))
    (λ j l. h j (omega arith) ∙ sym (get_d_listed f 0 n j (omega arith) ∙ ap f (zero-add j)))
