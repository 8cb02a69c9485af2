-- The arrays of sums of sixteen products: a turn of each loop that fills one, what every such array shows, what is read from it, and what the sums of
-- its rows make. Rests on Columns and Totals.
use mathlib.Core.Path.{◌≡◌, refl, sym, ap, ap₂, ◌∙◌}
use mathlib.Core.List.{List, [], ◌∷◌}
use Prim.Native.Nat.{ℕ, zero, suc, ◌+◌, ◌*◌, ◌/◌, ◌%◌, ◌^◌, ◌≤◌, ◌<◌}
use native.Mathlib.Nat.{zero-add, zero-div, zero-lt-suc, mod-lt, mod-eq_of_lt, lt_of_lt_of_le}
use native.Mathlib.Numerals.{add-one}
use native.Mathlib.Omega.{arith}
use lib.ListN.{length, get_or, replicate, length-replicate}
use lib.Arith.{digits_lt}
use lib.Bits.{bit_xor}
use lib.Dec.{lit<, lit≤}
use lib.Pow.{high, low, pow_pos, shr_lt, shr-shr, split}
use Rattle.std.proofs.lemmas.List.{get_or-replicate}
use Rattle.clmul.specs.Xor.{xor}
use Rattle.clmul.specs.Carryless.{◌⊗◌, total}
use Rattle.clmul.specs.Halves.{plane, listed, mixtures_of, added_to, unmixed, karatsuba}
use Rattle.clmul.specs.Tables.{part, half, down, HalvesIn, MixturesIn, TableIn, Small, number_of, half_in, halved, tabled, sixteen, IsHalved, IsTabled}
use Rattle.clmul.proofs.Xor.{xor_lt, xor_self}
use Rattle.clmul.proofs.Products.{part_⊗}
use Rattle.clmul.proofs.HalfProducts.{planes, karatsuba_cong, none, unmixed-none, unmixed-added}
use Rattle.clmul.proofs.Totals.{total_cong, karatsuba-total}
use Rattle.clmul.proofs.Columns.{Columns, columns_next, get_d_listed, listed_of}

-- ---- parts and halves

part_lt : (k j x : ℕ) → x < 2 ^ (k + k) → part k j x < 2 ^ k
unfolding part
part_lt k zero x h = shr_lt k k h
part_lt k (suc zero) x h = mod-lt x (pow_pos k)
part_lt k (suc (suc j)) x h = xor_lt k _ _ (shr_lt k k h) (mod-lt x (pow_pos k))

-- a half has 32 bits
half_low : (w x : ℕ) → x < 2 ^ 128 → half w x % 2 ^ 32 ≡ half w x
unfolding half
half_low w x h = mod-eq_of_lt (part_lt 32 (w % 3) _ (part_lt 64 (w / 3) x h))

part-zero : (k j : ℕ) → part k j 0 ≡ 0
unfolding part
part-zero k zero = zero-div (2 ^ k)
part-zero k (suc zero) = mod-eq_of_lt (pow_pos k)
part-zero k (suc (suc j)) = ap₂ xor (zero-div (2 ^ k)) (mod-eq_of_lt (pow_pos k)) ∙ xor_self 0

half-zero : (w : ℕ) → half w 0 ≡ 0
unfolding half
half-zero w = ap (part 32 (w % 3)) (part-zero 64 (w / 3)) ∙ part-zero 32 (w % 3)

-- half n of row w of sixteen halves that go by rows
there : (g : ℕ → ℕ) (w n : ℕ) → n < 16 → half ((16 * w + n) / 16) (g ((16 * w + n) % 16)) ≡ half w (g n)
there g w n h = ap₂ (λ (a b : ℕ). half a (g b)) (omega arith) (omega arith)

-- ---- the numbers that arrays show

pub sixteen_at : (f : ℕ → ℕ) {n : ℕ} → n < 16 → get_or (sixteen f) n 0 ≡ f n
sixteen_at f {n} h = get_d_listed f 0 16 n h ∙ ap f (zero-add n)

-- what a value shows, place by place
pub shown : (f : ℕ → ℕ) {v : List ℕ} {n : ℕ} → sixteen f ≡ v → n < 16 → get_or v n 0 ≡ f n
shown f {n = n} e h = ap (λ (l : List ℕ). get_or l n 0) (sym e) ∙ sixteen_at f h

-- a number is made of its halves
number_is : (h : ℕ → ℕ) (n v : ℕ) → ((w : ℕ) → w < 9 → h (16 * w + n) ≡ half w v) → number_of h n ≡ v
unfolding number_of half part
number_is h n v e =
    let first : n ≡ 16 * 0 + n = omega arith in
    ap₂ (λ (a b : ℕ). a * 2 ^ 64 + b)
    (ap₂ (λ (a b : ℕ). a * 2 ^ 32 + b) (ap h first ∙ e 0 (lit< tt)) (e 1 (lit< tt)) ∙ split (v / 2 ^ 64) 32)
    (ap₂ (λ (a b : ℕ). a * 2 ^ 32 + b) (e 3 (lit< tt)) (e 4 (lit< tt)) ∙ split (v % 2 ^ 64) 32)
    ∙ split v 64

module _ {f : ℕ → ℕ} {x : List ℕ} (h : HalvesIn f x) where
  -- an array of their halves shows the numbers
  pub halved_is : {n : ℕ} → n < 16 → halved x n ≡ f n
  unfolding halved
  halved_is {n} l = number_is (λ i. get_or x i 0) n (f n) (λ w u. h.each w n u l)

  pub is-halved : Small f → IsHalved x
  is-halved s =
      record {
        small = record { each = λ n l. rw (halved_is l) (s.each n l) };
        halves = record { size = h.size; each = λ w n u l. h.each w n u l ∙ ap (half w) (sym (halved_is l)) };
      }

-- a half is put together from its planes
half_is : {y : ℕ → ℕ} {t : List ℕ} {i : ℕ} → MixturesIn y t → i < 144 → half_in t i ≡ y i % 2 ^ 32
unfolding half_in mixtures_of
half_is {y} {t} {i} m l =
    let first : i ≡ 144 * 0 + i = omega arith in
    ap₂ (λ (a b : ℕ). xor (a * 4) b)
    (ap₂ (λ (a b : ℕ). xor (a * 2) b) (m.each 3 i (lit< tt) l ∙ ap (plane 8) (sym (shr-shr (y i) 2 1))) (m.each 2 i (lit< tt) l))
    (ap₂ (λ (a b : ℕ). xor (a * 2) b) (m.each 1 i (lit< tt) l) (ap (λ (k : ℕ). get_or t k 0) first ∙ m.each 0 i (lit< tt) l))
    ∙ planes 8 (y i)

module _ {g : ℕ → ℕ} (t : List ℕ) (m : TableIn g t) (s : Small g) where
  -- a table of theirs shows the numbers
  pub tabled_is : {n : ℕ} → n < 16 → tabled t n ≡ g n
  unfolding tabled TableIn
  tabled_is {n} l =
      number_is (half_in t) n (g n) (λ w u.
      half_is m (omega arith) ∙ ap (λ (v : ℕ). v % 2 ^ 32) (there g w n l) ∙ half_low w (g n) (s.each n l))

  pub is-tabled : IsTabled t
  unfolding TableIn
  is-tabled =
      record {
        small = record { each = λ n l. rw (tabled_is l) (s.each n l) };
        table =
            record {
              size = m.size;
              each = λ j i u l.
                  m.each j i u l ∙ ap (λ (v : ℕ). get_or (mixtures_of (half (i / 16) v)) j 0) (sym (tabled_is (mod-lt i (zero-lt-suc 15))));
            };
      }

-- ---- a table of zeros

mixtures-zero : mixtures_of 0 ≡ replicate 9 0
unfolding mixtures_of plane xor
mixtures-zero = refl

pub zeros : TableIn (λ n. 0) (replicate 1296 0)
unfolding TableIn
zeros =
    record {
      size = length-replicate {A = ℕ} 1296 0;
      each = λ j i u l.
          get_or-replicate 1296 (144 * j + i) 0 0 (omega arith)
          ∙ sym (ap (λ (v : ℕ). get_or (mixtures_of v) j 0) (half-zero (i / 16)) ∙ ap (λ (r : List ℕ). get_or r j 0) mixtures-zero ∙ get_or-replicate 9 j 0 0 u);
    }

pub small_zeros : Small (λ n. 0)
small_zeros = record { each = λ n l. pow_pos 128 }

-- ---- filling them, and reading a table

-- what a table of the mixtures of these numbers holds, by its rows and columns
abbrev pub mixture : (ℕ → ℕ) → ℕ → ℕ → ℕ
mixture y j i = get_or (mixtures_of (y i)) j 0

-- the mixtures of one number more
pub table_next :
    (y : ℕ → ℕ) {i : ℕ} {t : List ℕ} (m : List ℕ) → Columns 144 9 (mixture y) i t → i < 144 → m ≡ mixtures_of (y i)
    → Columns 144 9 (mixture y) (i + 1) (down 144 i 0 m t)
unfolding listed mixtures_of
table_next y m c h e = columns_next m c h e

pub table_done : {y : ℕ → ℕ} {i : ℕ} {t : List ℕ} → Columns 144 9 (mixture y) i t → 144 ≤ i → MixturesIn y t
table_done c h = record { size = c.size; each = λ j i l b. c.each j i l (omega arith) }

-- nine words read from column i of a table
pub table-read :
    (y : ℕ → ℕ) {t : List ℕ} (i : ℕ) → MixturesIn y t → i < 144 → (m : List ℕ) → length m ≡ 9
    → ((j : ℕ) → j < 9 → get_or m j 0 ≡ get_or t (144 * j + i) 0) → m ≡ mixtures_of (y i)
unfolding listed mixtures_of
table-read y i c h m size each = listed_of (λ j. mixture y j i) 9 m size (λ j l. each j l ∙ c.each j i l h)

-- the mixtures of an array of halves are the table of the numbers which the array shows
pub table_in : {x t : List ℕ} → IsHalved x → MixturesIn (λ k. get_or x k 0) t → TableIn (halved x) t
unfolding TableIn
table_in {x} k m =
    record { size = m.size; each = λ j i p q. m.each j i p q ∙ ap (λ (v : ℕ). get_or (mixtures_of v) j 0) (place i q) }
  where
    place : (i : ℕ) → i < 144 → get_or x i 0 ≡ half (i / 16) (halved x (i % 16))
    place i l =
        let at : i ≡ 16 * (i / 16) + i % 16 = omega arith in
        ap (λ (p : ℕ). get_or x p 0) at ∙ k.halves.each (i / 16) (i % 16) (omega arith) (mod-lt i (zero-lt-suc 15))

-- h, l and m are the high half of the word x, its low half, and the sum of both
pub record WordHalves (x h l m : ℕ) : Type 0 where
  pub high : h ≡ x / 2 ^ 32
  pub low : l ≡ x % 2 ^ 32
  pub sum : m ≡ xor (x / 2 ^ 32) (x % 2 ^ 32)

pub word-halves : {x h l h' l' : ℕ} → h ≡ x / 2 ^ 32 → l ≡ x % 2 ^ 32 → h' ≡ x / 2 ^ 32 → l' ≡ x % 2 ^ 32 → WordHalves x h l (bit_xor h' l')
unfolding xor
word-halves p q p' q' = record { high = p; low = q; sum = ap₂ xor p' q' }

-- the numbers whose high and low words these are
abbrev pub joined : List ℕ → List ℕ → ℕ → ℕ
joined hi lo n = get_or hi n 0 * 2 ^ 64 + get_or lo n 0

pub nine-halves :
    (h l : ℕ) {a0 a1 a2 a3 a4 a5 a6 a7 a8 : ℕ} → l < 2 ^ 64 → WordHalves h a0 a1 a2 → WordHalves l a3 a4 a5 → WordHalves (xor h l) a6 a7 a8
    → a0 ∷ a1 ∷ a2 ∷ a3 ∷ a4 ∷ a5 ∷ a6 ∷ a7 ∷ a8 ∷ [] ≡ listed (λ w. half w (h * 2 ^ 64 + l)) 0 9
unfolding listed half part
nine-halves h l small p q r = simp (high h 64 small, low h 64 small) (cc)

pub halves_done : {f : ℕ → ℕ} {n : ℕ} {x : List ℕ} → Columns 16 9 (λ w k. half w (f k)) n x → 16 ≤ n → HalvesIn f x
halves_done c h = record { size = c.size; each = λ w n l b. c.each w n l (omega arith) }

-- words make numbers of 128 bits
pub small_joined : (hi lo : List ℕ) → ((n : ℕ) → get_or hi n 0 < 2 ^ 64) → ((n : ℕ) → get_or lo n 0 < 2 ^ 64) → Small (joined hi lo)
small_joined hi lo p q = record { each = λ n l. digits_lt (p n) (q n) }

-- ---- sums of a row

-- the products that a row's sum is made of: of the halves in x from place at on with these numbers
abbrev pub products : List ℕ → (ℕ → ℕ) → ℕ → ℕ → ℕ
products x y at n = get_or x (at + n) 0 % 2 ^ 32 ⊗ (y (at + n) % 2 ^ 32)

-- the loop's invariant: the mixtures are those of the first n products' sum, whatever numbers the table is of
pub record Summed (x t : List ℕ) (at n : ℕ) (sum : List ℕ) : Type 0 where
  pub within : n ≤ 16
  pub is : (y : ℕ → ℕ) → MixturesIn y t → unmixed sum ≡ total (products x y at) n

pub summed_start : (x t : List ℕ) (at : ℕ) → Summed x t at 0 none
unfolding total
summed_start x t at = record { within = omega arith; is = λ y m. unmixed-none }

-- one product more
pub summed_next :
    {x t : List ℕ} {at n : ℕ} {sum sum' u v : List ℕ} → Summed x t at n sum → n < 16 → u ≡ mixtures_of (get_or x (at + n) 0)
    → ((y : ℕ → ℕ) → MixturesIn y t → v ≡ mixtures_of (y (at + n))) → sum' ≡ added_to sum u v → Summed x t at (n + 1) sum'
unfolding total
summed_next {x} {t} {at} {n} {sum} s h p q e =
    record {
      within = omega arith;
      is = λ y m. rw (e, p, q y m, add-one) (unmixed-added sum _ _ ∙ ap (λ (k : ℕ). xor k (products x y at n)) (s.is y m));
    }

pub summed_done :
    {x t : List ℕ} {at n : ℕ} {sum : List ℕ} {r : ℕ} → Summed x t at n sum → 16 ≤ n → r ≡ unmixed sum → (y : ℕ → ℕ) → MixturesIn y t
    → r ≡ total (products x y at) 16
summed_done {n = n} s h e y m = let k : n ≡ 16 = omega arith in e ∙ rw (← k) (s.is y m)

-- ---- sums of numbers

-- a sum of products from the sums of the products of their parts
parts-total :
    (k : ℕ) (f g : ℕ → ℕ) → ((n : ℕ) → n < 16 → f n < 2 ^ 128)
    → karatsuba k
    (total (λ n. part k 0 (f n) ⊗ part k 0 (g n)) 16)
    (total (λ n. part k 1 (f n) ⊗ part k 1 (g n)) 16)
    (total (λ n. part k 2 (f n) ⊗ part k 2 (g n)) 16)
    ≡ total (λ n. f n ⊗ g n) 16
parts-total k f g small = karatsuba-total k 16 _ _ _ ∙ total_cong 16 _ _ (λ n h. sym (part_⊗ k (f n) (g n) (small n h)))

module _ (f g : ℕ → ℕ) (small-f : Small f) where
  -- the same for part j of 64 bits, from its halves
  word_total :
      (j : ℕ) {a b c : ℕ}
      → a ≡ total (λ n. part 32 0 (part 64 j (f n)) ⊗ part 32 0 (part 64 j (g n))) 16
      → b ≡ total (λ n. part 32 1 (part 64 j (f n)) ⊗ part 32 1 (part 64 j (g n))) 16
      → c ≡ total (λ n. part 32 2 (part 64 j (f n)) ⊗ part 32 2 (part 64 j (g n))) 16
      → karatsuba 32 a b c ≡ total (λ n. part 64 j (f n) ⊗ part 64 j (g n)) 16
  word_total j p q r =
      karatsuba_cong 32 p q r
      ∙ parts-total 32 (λ n. part 64 j (f n)) (λ n. part 64 j (g n))
      (λ n h. lt_of_lt_of_le (part_lt 64 j (f n) (small-f.each n h)) (lit≤ tt))

  -- the sum of row w
  row-total :
      (p : List ℕ) {x t : List ℕ} → ((w : ℕ) → w < 9 → (y : ℕ → ℕ) → MixturesIn y t → get_or p w 0 ≡ total (products x y (16 * w)) 16)
      → Small g → HalvesIn f x → TableIn g t → (w : ℕ) → w < 9 → get_or p w 0 ≡ total (λ n. half w (f n) ⊗ half w (g n)) 16
  unfolding TableIn
  row-total p sums small-g halves table w l =
      sums w l _ table
      ∙ total_cong 16 _ _
      (λ n h. ap₂ ◌⊗◌
      (ap (λ (v : ℕ). v % 2 ^ 32) (halves.each w n l h) ∙ half_low w (f n) (small-f.each n h))
      (ap (λ (v : ℕ). v % 2 ^ 32) (there g w n h) ∙ half_low w (g n) (small-g.each n h)))

-- the sum of the products of numbers of 128 bits, from the sums of the rows
pub products_total :
    (p : List ℕ) {x t : List ℕ} {h l m r : ℕ}
    → ((w : ℕ) → w < 9 → (y : ℕ → ℕ) → MixturesIn y t → get_or p w 0 ≡ total (products x y (16 * w)) 16)
    → h ≡ karatsuba 32 (get_or p 0 0) (get_or p 1 0) (get_or p 2 0)
    → l ≡ karatsuba 32 (get_or p 3 0) (get_or p 4 0) (get_or p 5 0)
    → m ≡ karatsuba 32 (get_or p 6 0) (get_or p 7 0) (get_or p 8 0)
    → r ≡ karatsuba 64 h l m
    → (f g : ℕ → ℕ) → Small f → Small g → HalvesIn f x → TableIn g t → r ≡ total (λ n. f n ⊗ g n) 16
unfolding half
products_total p sums h l m r f g small-f small-g halves table =
    let row = row-total f g small-f p sums small-g halves table in
    r
    ∙ karatsuba_cong 64
    (h ∙ word_total f g small-f 0 (row 0 (lit< tt)) (row 1 (lit< tt)) (row 2 (lit< tt)))
    (l ∙ word_total f g small-f 1 (row 3 (lit< tt)) (row 4 (lit< tt)) (row 5 (lit< tt)))
    (m ∙ word_total f g small-f 2 (row 6 (lit< tt)) (row 7 (lit< tt)) (row 8 (lit< tt)))
    ∙ parts-total 64 f g small-f.each

-- the same for the numbers that an array of halves and a table show
pub shown_total :
    {x t v u : List ℕ} {r : ℕ} → IsHalved x → sixteen (halved x) ≡ v → IsTabled t → sixteen (tabled t) ≡ u
    → ((f g : ℕ → ℕ) → Small f → Small g → HalvesIn f x → TableIn g t → r ≡ total (λ n. f n ⊗ g n) 16)
    → r ≡ total (λ n. get_or v n 0 ⊗ get_or u n 0) 16
shown_total {x} {t} k e i d sum =
    sum _ _ k.small i.small k.halves i.table
    ∙ total_cong 16 _ _ (λ n l. ap₂ ◌⊗◌ (sym (shown (halved x) e l)) (sym (shown (tabled t) d l)))
