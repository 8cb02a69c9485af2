-- Words as code works on them: masks, shifts and records of words, and the numbers they stand for. Rests on HalfProducts and Products.
use mathlib.Core.Path.{◌≡◌, sym, ap, ap₂, ◌∙◌}
use mathlib.Core.List.{List, [], ◌∷◌}
use Prim.Native.Nat.{ℕ, ◌+◌, ◌*◌, ◌/◌, ◌%◌, ◌^◌, ◌≤◌, ◌<◌}
use native.Mathlib.Nat.{lt_of_lt_of_le, pow-le-pow_right, zero-lt-suc}
use native.Mathlib.Nat.{mod-lt, mod-eq_of_lt, mul-mod_left, add-zero, lt_of_le_of_lt, le_of_lt, mul-le-mul_left}
use native.Mathlib.Omega.{arith}
use lib.ListN.{get_or}
use lib.Bits.{bit_and, bit_xor, and_mask}
use lib.Arith.{digits_lt}
use lib.Pow.{pow_pos, pow-add, shl_lt, shl_exact, shl-shr, shr_lt, split, high, low, mod-pow-add}
use lib.Dec.{lit<}
use Rattle.clmul.specs.Xor.{xor}
use Rattle.clmul.specs.Carryless.{◌⊗◌}
use Rattle.clmul.specs.declared.karatsuba.Double.{Double}
use Rattle.clmul.specs.Halves.{plane, karatsuba, mixtures_of, added_to, unmixed}
use Rattle.clmul.specs.Tables.{double, wide, part}
use Rattle.clmul.proofs.Xor.{xor_zero_l, xor_lt, xor-split, xor_low, xor-add}
use Rattle.clmul.proofs.Products.{karatsuba-⊗, part_⊗, square-xor, square-shl}
use Rattle.clmul.proofs.HolesLaws.{ones, and-ones, plane-xor, plane-le, plane-lt, plane-⊗}
use Rattle.clmul.proofs.HalfProducts.{karatsuba_cong, unmixed-added, unmixed-none, none, half-square}
use Rattle.clmul.proofs.Masks.{eight, fifteen}

-- ---- masks

and-eight : (v : ℕ) → bit_and v eight ≡ plane 8 v
unfolding ones
and-eight v = and-ones 8 v

and_fifteen : (v : ℕ) → bit_and v fifteen ≡ plane 15 v
unfolding ones
and_fifteen v = and-ones 15 v

plane_fifteen_lt : (v : ℕ) → plane 15 v < 2 ^ 57
unfolding ones
plane_fifteen_lt v = lt_of_le_of_lt (plane-le 15 v) (lit< tt)

pub low_half : (v : ℕ) → bit_and v 0xffffffff ≡ v % 2 ^ 32
low_half v = and_mask v 32

-- a product of two halves is a word
pub halves-fit : (x y : ℕ) → x < 2 ^ 32 → y < 2 ^ 32 → x * y < 2 ^ 64
halves-fit x y p q = lt_of_le_of_lt (mul-le-mul_left x (le_of_lt q)) (shl_lt 32 32 p)

-- ---- mixtures

-- nine words
abbrev words : (a b c d e f g h i : ℕ) → List ℕ
words a b c d e f g h i = a ∷ b ∷ c ∷ d ∷ e ∷ f ∷ g ∷ h ∷ i ∷ []

words_cong : {a b c d e f g h i a' b' c' d' e' f' g' h' i' : ℕ} → a ≡ a' → b ≡ b' → c ≡ c' → d ≡ d' → e ≡ e' → f ≡ f' → g ≡ g' → h ≡ h' → i ≡ i'
    → words a b c d e f g h i ≡ words a' b' c' d' e' f' g' h' i'
words_cong p q r s t u v w x = cc

-- the sum of two planes is the plane of the sum
sum_of : (u v : ℕ) {a b : ℕ} → a ≡ plane 8 u → b ≡ plane 8 v → bit_xor a b ≡ plane 8 (xor u v)
unfolding xor
sum_of u v p q = ap₂ xor p q ∙ sym (plane-xor 8 u v)

pub mixed-words : (x : ℕ) →
    let p0 = bit_and x eight in
    let p1 = bit_and (x / 2) eight in
    let p2 = bit_and (x / 4) eight in
    let p3 = bit_and (x / 8) eight in
    words p0 p1 p2 p3 (bit_xor p1 p0) (bit_xor p3 p2) (bit_xor p2 p0) (bit_xor p3 p1) (bit_xor (bit_xor p3 p1) (bit_xor p2 p0)) ≡ mixtures_of x
unfolding mixtures_of
mixed-words x =
    let a = and-eight x in
    let b = and-eight (x / 2) in
    let c = and-eight (x / 4) in
    let d = and-eight (x / 8) in
    let p02 = sum_of (x / 4) x c a in
    let p13 = sum_of (x / 8) (x / 2) d b in
    words_cong a b c d (sum_of (x / 2) x b a) (sum_of (x / 8) (x / 4) d c) p02 p13 (sum_of (xor (x / 8) (x / 2)) (xor (x / 4) x) p13 p02)

-- ---- Karatsuba's rule in one word

-- where nothing leaves the word on the left
in_word : (k h l m : ℕ) → h * 2 ^ (k + k) < 2 ^ 64 → xor (xor m h) l * 2 ^ k < 2 ^ 64
    → bit_xor (h * 2 ^ (k + k) % 2 ^ 64) (bit_xor (bit_xor (bit_xor m h) l * 2 ^ k % 2 ^ 64) l) ≡ karatsuba k h l m
unfolding karatsuba xor
in_word k h l m p q = ap₂ (λ (u v : ℕ). xor u (xor v l)) (mod-eq_of_lt p) (mod-eq_of_lt q)

-- the sum in the middle is no longer than a product of planes
middle-lt : (h l m : ℕ) → xor (xor (plane 15 m) (plane 15 h)) (plane 15 l) < 2 ^ 57
middle-lt h l m = xor_lt 57 _ _ (xor_lt 57 _ _ (plane_fifteen_lt m) (plane_fifteen_lt h)) (plane_fifteen_lt l)

pub joined-planes : (h l m : ℕ)
    → bit_xor (bit_and h fifteen * 4 % 2 ^ 64)
    (bit_xor (bit_xor (bit_xor (bit_and m fifteen) (bit_and h fifteen)) (bit_and l fifteen) * 2 % 2 ^ 64) (bit_and l fifteen))
    ≡ karatsuba 1 (plane 15 h) (plane 15 l) (plane 15 m)
joined-planes h l m =
    in_word 1 (bit_and h fifteen) (bit_and l fifteen) (bit_and m fifteen)
    (rw (and_fifteen h) (omega (arith, plane_fifteen_lt h)))
    (rw (and_fifteen h, and_fifteen l, and_fifteen m) (omega (arith, middle-lt h l m)))
    ∙ karatsuba_cong 1 (and_fifteen h) (and_fifteen l) (and_fifteen m)

pub joined-planes-lt : (h l m : ℕ) → karatsuba 1 (plane 15 h) (plane 15 l) (plane 15 m) < 2 ^ 60
unfolding karatsuba
joined-planes-lt h l m =
    xor_lt 60 _ _ (omega (arith, plane_fifteen_lt h))
    (xor_lt 60 _ _ (omega (arith, middle-lt h l m)) (omega (arith, plane_fifteen_lt l)))

pub joined-pairs : (h l m : ℕ) → h < 2 ^ 60 → l < 2 ^ 60 → m < 2 ^ 60
    → bit_xor (h * 16 % 2 ^ 64) (bit_xor (bit_xor (bit_xor m h) l * 4 % 2 ^ 64) l) ≡ karatsuba 2 h l m
joined-pairs h l m p q r = in_word 2 h l m (omega arith) (four (xor_lt 60 _ _ (xor_lt 60 _ _ r p) q))
  where
    four : {v : ℕ} → v < 2 ^ 60 → v * 4 < 2 ^ 64
    four s = omega arith

pub unmixed-words : (t : List ℕ) {r a b c : ℕ} → r ≡ karatsuba 2 a b c
    → a ≡ karatsuba 1 (plane 15 (get_or t 3 0)) (plane 15 (get_or t 2 0)) (plane 15 (get_or t 5 0))
    → b ≡ karatsuba 1 (plane 15 (get_or t 1 0)) (plane 15 (get_or t 0 0)) (plane 15 (get_or t 4 0))
    → c ≡ karatsuba 1 (plane 15 (get_or t 7 0)) (plane 15 (get_or t 6 0)) (plane 15 (get_or t 8 0)) → r ≡ unmixed t
unfolding unmixed
unmixed-words t e p q r = e ∙ karatsuba_cong 2 p q r

-- one product of two halves
pub half-words : (x y : ℕ) {u v s : List ℕ} {r : ℕ} → u ≡ mixtures_of x → v ≡ mixtures_of y → s ≡ added_to none u v → r ≡ unmixed s
    → r ≡ x % 2 ^ 32 ⊗ (y % 2 ^ 32)
half-words x y p q e f =
    f ∙ ap unmixed (e ∙ ap₂ (added_to none) p q) ∙ unmixed-added none x y ∙ ap (λ (v : ℕ). xor v (x % 2 ^ 32 ⊗ (y % 2 ^ 32))) unmixed-none ∙ xor_zero_l _

-- ---- squares of halves

pub plane-fits : (x : ℕ) → bit_and x eight * bit_and x eight < 2 ^ 64
plane-fits x = halves-fit _ _ (rw (and-eight x) (plane-lt 8 x)) (rw (and-eight x) (plane-lt 8 x))

pub plane-square : (x : ℕ) → bit_and (bit_and x eight * bit_and x eight) fifteen ≡ plane 8 x ⊗ plane 8 x
plane-square x = and_fifteen _ ∙ ap (λ (v : ℕ). plane 15 (v * v)) (and-eight x) ∙ plane-⊗ x x

pub square-words : (x : ℕ) {a b c d : ℕ} → a ≡ plane 8 x ⊗ plane 8 x → b ≡ plane 8 (x / 2) ⊗ plane 8 (x / 2)
    → c ≡ plane 8 (x / 4) ⊗ plane 8 (x / 4) → d ≡ plane 8 (x / 8) ⊗ plane 8 (x / 8)
    → bit_xor (d * 64 % 2 ^ 64) (bit_xor (c * 16 % 2 ^ 64) (bit_xor (b * 4 % 2 ^ 64) a)) ≡ x % 2 ^ 32 ⊗ (x % 2 ^ 32)
unfolding xor
square-words x {a} {b} {c} {d} p q r s =
    ap₂ (λ (u v : ℕ). xor u (xor v (xor (b * 4 % 2 ^ 64) a))) (exact 6 (x / 8) (omega arith) s) (exact 4 (x / 4) (omega arith) r)
    ∙ ap₂ (λ (u v : ℕ). xor (plane 8 (x / 8) ⊗ plane 8 (x / 8) * 64) (xor (plane 8 (x / 4) ⊗ plane 8 (x / 4) * 16) (xor u v)))
    (exact 2 (x / 2) (omega arith) q) p
    ∙ half-square x
  where
    exact : (k w : ℕ) {v : ℕ} → k ≤ 6 → v ≡ plane 8 w ⊗ plane 8 w → v * 2 ^ k % 2 ^ 64 ≡ plane 8 w ⊗ plane 8 w * 2 ^ k
    exact k w l e =
        ap (λ (v : ℕ). v * 2 ^ k % 2 ^ 64) e ∙ shl_exact 57 k 64 (rw (← plane-⊗ w w) (plane_fifteen_lt _)) (omega arith)

-- ---- Karatsuba's rule across words

-- the rule as a high part and a low part of 2k bits each: mid is the sum in the middle
across : (k h l mid : ℕ) → l < 2 ^ (k + k)
    → xor (h * 2 ^ (k + k)) (xor (mid * 2 ^ k) l) ≡ xor h (mid / 2 ^ k) * 2 ^ (k + k) + xor (mid % 2 ^ k * 2 ^ k) l
across k h l mid small =
    ap₂ (λ (u v : ℕ). xor u (xor v l)) (sym (add-zero _)) cut
    ∙ ap (xor (h * 2 ^ (k + k) + 0)) (xor_low (k + k) (mid / 2 ^ k) (mid % 2 ^ k * 2 ^ k) l low_lt small)
    ∙ xor-split (k + k) h (mid / 2 ^ k) 0 (xor (mid % 2 ^ k * 2 ^ k) l) (pow_pos (k + k)) (xor_lt (k + k) _ _ low_lt small)
    ∙ ap (λ (v : ℕ). xor h (mid / 2 ^ k) * 2 ^ (k + k) + v) (xor_zero_l _)
  where
    low_lt : mid % 2 ^ k * 2 ^ k < 2 ^ (k + k)
    low_lt = shl_lt k k (mod-lt mid (pow_pos k))

    cut : mid * 2 ^ k ≡ mid / 2 ^ k * 2 ^ (k + k) + mid % 2 ^ k * 2 ^ k
    cut = ap (λ (v : ℕ). v * 2 ^ k) (sym (split mid k)) ∙ spread (mid / 2 ^ k) (mid % 2 ^ k) (2 ^ k) ∙ ap (λ (v : ℕ). mid / 2 ^ k * v + mid % 2 ^ k * 2 ^ k) (sym (pow-add 2 k k))
      where
        spread : (a b p : ℕ) → (a * p + b) * p ≡ a * (p * p) + b * p
        spread a b p = omega arith

-- what a shift to the left by half a word leaves in the word
pub left-half : (v : ℕ) → v * 2 ^ 32 % 2 ^ 64 ≡ v % 2 ^ 32 * 2 ^ 32
left-half v =
    mod-pow-add (v * 2 ^ 32) 32 32 ∙ ap₂ (λ (x y : ℕ). x % 2 ^ 32 * 2 ^ 32 + y) (shl-shr v 32) (mul-mod_left v (2 ^ 32)) ∙ add-zero _

pub joined-halves : (h l m : ℕ) → l < 2 ^ 64
    → double (record { hi = bit_xor h (bit_xor (bit_xor m h) l / 2 ^ 32); lo = bit_xor (bit_xor (bit_xor m h) l * 2 ^ 32 % 2 ^ 64) l }) ≡ karatsuba 32 h l m
unfolding double karatsuba xor
joined-halves h l m small =
    ap (λ (v : ℕ). xor h (xor (xor m h) l / 2 ^ 32) * 2 ^ 64 + xor v l) (left-half (xor (xor m h) l)) ∙ sym (across 32 h l (xor (xor m h) l) small)

-- both words of a number are words
pub record Words (d : Double) : Type 0 where
  pub hi : d.hi < 2 ^ 64
  pub lo : d.lo < 2 ^ 64

-- the sum of two such numbers, word by word
double-xor : (a b c d : ℕ) → b < 2 ^ 64 → d < 2 ^ 64 → xor (a * 2 ^ 64 + b) (c * 2 ^ 64 + d) ≡ xor a c * 2 ^ 64 + xor b d
double-xor a b c d p q = xor-split 64 a c b d p q

-- a word added to the high word
add_high : (a b v : ℕ) → b < 2 ^ 64 → xor (v * 2 ^ 64) (a * 2 ^ 64 + b) ≡ xor v a * 2 ^ 64 + b
add_high a b v h =
    ap (λ (w : ℕ). xor w (a * 2 ^ 64 + b)) (sym (add-zero _)) ∙ double-xor v 0 a b (pow_pos 64) h ∙ ap (λ (w : ℕ). xor v a * 2 ^ 64 + w) (xor_zero_l b)

-- four words, taken two by two
four-words : (p x c d : ℕ) → x * (p * p) + (c * p + d) ≡ (x * p + c) * p + d
four-words p x c d = omega arith

pub joined_words : (h l m : Double) → Words h → Words l → Words m
    → wide (record { w3 = h.hi; w2 = bit_xor h.lo (bit_xor (bit_xor m.hi h.hi) l.hi); w1 = bit_xor (bit_xor (bit_xor m.lo h.lo) l.lo) l.hi; w0 = l.lo })
    ≡ karatsuba 64 (double h) (double l) (double m)
unfolding wide double karatsuba xor
joined_words h l m p q r =
    let mid-hi = xor (xor m.hi h.hi) l.hi in
    let mid-lo = xor (xor m.lo h.lo) l.lo in
    let mid-hi-lt : mid-hi < 2 ^ 64 = xor_lt 64 _ _ (xor_lt 64 _ _ r.hi p.hi) q.hi in
    let mid-lo-lt : mid-lo < 2 ^ 64 = xor_lt 64 _ _ (xor_lt 64 _ _ r.lo p.lo) q.lo in
    sym
    (ap (λ (v : ℕ). xor (double h * 2 ^ 128) (xor (v * 2 ^ 64) (double l)))
    (ap (λ (v : ℕ). xor v (double l)) (double-xor m.hi m.lo h.hi h.lo r.lo p.lo)
    ∙ double-xor _ _ l.hi l.lo (xor_lt 64 _ _ r.lo p.lo) q.lo)
    ∙ across 64 (double h) (double l) (mid-hi * 2 ^ 64 + mid-lo) (digits_lt q.hi q.lo)
    ∙ ap₂ (λ (u v : ℕ). xor (double h) u * 2 ^ 128 + xor (v * 2 ^ 64) (double l)) (high mid-hi 64 mid-lo-lt) (low mid-hi 64 mid-lo-lt)
    ∙ ap₂ (λ (u v : ℕ). u * 2 ^ 128 + v) (xor_low 64 h.hi h.lo mid-hi p.lo mid-hi-lt) (add_high l.hi l.lo mid-lo q.lo)
    ∙ four-words (2 ^ 64) (h.hi * 2 ^ 64 + xor h.lo mid-hi) (xor mid-lo l.hi) l.lo)

-- ---- products and squares of words

small_word : {v : ℕ} → v < 2 ^ 64 → v < 2 ^ 128
small_word h = lt_of_lt_of_le h (pow-le-pow_right (zero-lt-suc 1) {i = 64} {j = 128} (omega arith))

-- the parts of a word, read by their 32 bits
high_part : (x : ℕ) {a : ℕ} → x < 2 ^ 64 → a ≡ x / 2 ^ 32 → a % 2 ^ 32 ≡ part 32 0 x
unfolding part
high_part x p e = ap (λ (v : ℕ). v % 2 ^ 32) e ∙ mod-eq_of_lt (shr_lt 32 32 p)

low_part : (x : ℕ) {a : ℕ} → a ≡ x % 2 ^ 32 → a % 2 ^ 32 ≡ part 32 1 x
unfolding part
low_part x e = ap (λ (v : ℕ). v % 2 ^ 32) e ∙ mod-eq_of_lt (mod-lt x (pow_pos 32))

sum_part : (x : ℕ) {a b : ℕ} → x < 2 ^ 64 → a ≡ x / 2 ^ 32 → b ≡ x % 2 ^ 32 → bit_xor a b % 2 ^ 32 ≡ part 32 2 x
unfolding part xor
sum_part x p e f =
    ap₂ (λ (u v : ℕ). xor u v % 2 ^ 32) e f ∙ mod-eq_of_lt (xor_lt 32 _ _ (shr_lt 32 32 p) (mod-lt x (pow_pos 32)))

-- the rule for two words, from products of halves, each of which reads 32 bits
pub word-⊗ : (x y : ℕ) → x < 2 ^ 64 → y < 2 ^ 64 → {xh xl yh yl h l m r : ℕ} → xh ≡ x / 2 ^ 32 → xl ≡ x % 2 ^ 32 → yh ≡ y / 2 ^ 32 → yl ≡ y % 2 ^ 32
    → h ≡ xh % 2 ^ 32 ⊗ (yh % 2 ^ 32) → l ≡ xl % 2 ^ 32 ⊗ (yl % 2 ^ 32) → m ≡ bit_xor xh xl % 2 ^ 32 ⊗ (bit_xor yh yl % 2 ^ 32)
    → r ≡ karatsuba 32 h l m → r ≡ x ⊗ y
word-⊗ x y p q {xh} {xl} {yh} {yl} a b c d e f g k =
    k
    ∙ karatsuba_cong 32 (e ∙ ap₂ (λ (u v : ℕ). u ⊗ v) (high_part x p a) (high_part y q c)) (f ∙ ap₂ (λ (u v : ℕ). u ⊗ v) (low_part x b) (low_part y d))
    (g ∙ ap₂ (λ (u v : ℕ). u ⊗ v) (sum_part x p a b) (sum_part y q c d))
    ∙ sym (part_⊗ 32 x y (small_word p))

-- two numbers of 128 bits
pub product-⊗ : (xh xl yh yl : ℕ) → xh < 2 ^ 64 → xl < 2 ^ 64 → yl < 2 ^ 64 → {h l m r : ℕ} → h ≡ xh ⊗ yh → l ≡ xl ⊗ yl
    → m ≡ bit_xor xh xl ⊗ bit_xor yh yl → r ≡ karatsuba 64 h l m → r ≡ (xh * 2 ^ 64 + xl) ⊗ (yh * 2 ^ 64 + yl)
unfolding xor
product-⊗ xh xl yh yl p q r a b c k =
    k ∙ karatsuba_cong 64 a b c ∙ sym (karatsuba-⊗ 64 xh xl yh yl (shl_lt 64 64 p))
    ∙ ap₂ (λ (u v : ℕ). u ⊗ v) (xor-add 64 xh xl q) (xor-add 64 yh yl r)

-- the square of a number cut k bits from the right, from the squares of its parts
cut-square : (k h l : ℕ) → h < 2 ^ k → l < 2 ^ k → k ≤ 64 → (h * 2 ^ k + l) ⊗ (h * 2 ^ k + l) ≡ xor (h ⊗ h * 2 ^ (k + k)) (l ⊗ l)
cut-square k h l p q n =
    ap (λ (v : ℕ). v ⊗ v) (sym (xor-add k h l q)) ∙ square-xor (h * 2 ^ k) l high_lt (lt_of_lt_of_le q (pow-le-pow_right (zero-lt-suc 1) {i = k} {j = 128} (omega arith)))
    ∙ ap (λ (v : ℕ). xor v (l ⊗ l)) (square-shl k h high_lt)
  where
    high_lt : h * 2 ^ k < 2 ^ 128
    high_lt = lt_of_lt_of_le (shl_lt k k p) (pow-le-pow_right (zero-lt-suc 1) {i = k + k} {j = 128} (omega arith))

-- a word's, from the squares of its halves
word-square : (x : ℕ) → x < 2 ^ 64 → {a b s t : ℕ} → a ≡ x / 2 ^ 32 → b ≡ x % 2 ^ 32 → s ≡ a % 2 ^ 32 ⊗ (a % 2 ^ 32) → t ≡ b % 2 ^ 32 ⊗ (b % 2 ^ 32) → t < 2 ^ 64
    → x ⊗ x ≡ s * 2 ^ 64 + t
word-square x p {a} {b} {s} {t} e f g h l =
    ap (λ (v : ℕ). v ⊗ v) (sym (split x 32)) ∙ cut-square 32 (x / 2 ^ 32) (x % 2 ^ 32) (shr_lt 32 32 p) (mod-lt x (pow_pos 32)) (omega arith)
    ∙ ap₂ (λ (u v : ℕ). xor (u * 2 ^ 64) v) (sym (g ∙ ap (λ (v : ℕ). v ⊗ v) (unfold part in high_part x p e))) (sym (h ∙ ap (λ (v : ℕ). v ⊗ v) (unfold part in low_part x f)))
    ∙ xor-add 64 s t l

-- and that of a number of 128 bits, from the squares of its four halves
pub square-⊗ : (x y : ℕ) → x < 2 ^ 64 → y < 2 ^ 64 → {a b c d p q r s : ℕ} → a ≡ x / 2 ^ 32 → p ≡ a % 2 ^ 32 ⊗ (a % 2 ^ 32) → b ≡ x % 2 ^ 32
    → q ≡ b % 2 ^ 32 ⊗ (b % 2 ^ 32) → c ≡ y / 2 ^ 32 → r ≡ c % 2 ^ 32 ⊗ (c % 2 ^ 32) → d ≡ y % 2 ^ 32 → s ≡ d % 2 ^ 32 ⊗ (d % 2 ^ 32)
    → q < 2 ^ 64 → r < 2 ^ 64 → s < 2 ^ 64 → wide (record { w3 = p; w2 = q; w1 = r; w0 = s }) ≡ (x * 2 ^ 64 + y) ⊗ (x * 2 ^ 64 + y)
unfolding wide
square-⊗ x y small-x small-y {p = p} {q} {r} {s} e f g h i j k l q-lt r-lt s-lt =
    sym
    (cut-square 64 x y small-x small-y (omega arith)
    ∙ ap₂ (λ (u v : ℕ). xor (u * 2 ^ 128) v) (word-square x small-x e g f h q-lt) (word-square y small-y i k j l s-lt)
    ∙ xor-add 128 (p * 2 ^ 64 + q) (r * 2 ^ 64 + s) (digits_lt r-lt s-lt)
    ∙ four-words (2 ^ 64) (p * 2 ^ 64 + q) r s)
