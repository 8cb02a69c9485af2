-- Exclusive or of numbers: its laws as an addition, how it goes with halves, shifts and digits, and the choice `only`.
-- Rests on lib.Bits, where the same is shown of the digits; from here on nothing looks at the digits of an exclusive or.
use mathlib.Core.Path.{◌≡◌, refl, sym, ap, ap₂, ◌∙◌}
use Prim.Native.Nat.{ℕ, zero, suc, ◌+◌, ◌*◌, ◌/◌, ◌%◌, ◌^◌, ◌<◌}
use native.Mathlib.Nat.{mod-lt, add-zero, zero-lt-suc, not-suc-le-zero, le_of_suc-le-suc}
use native.Mathlib.Omega.{arith}
use lib.Arith.{bin_ind}
use lib.Pow.{pow_pos, split}
use lib.Bits as B
use Rattle.clmul.specs.Xor.{xor, only}
use Rattle.clmul.proofs.Commutative.{left_comm, swap}

pub xor_zero_l : (a : ℕ) → xor 0 a ≡ a
unfolding xor
xor_zero_l a = refl

pub xor_zero_r : (a : ℕ) → xor a 0 ≡ a
unfolding xor
xor_zero_r a = B.xor_zero_r a

pub xor_self : (a : ℕ) → xor a a ≡ 0
unfolding xor
xor_self a = B.xor_self a

pub xor_comm : (a b : ℕ) → xor a b ≡ xor b a
unfolding xor
xor_comm a b = B.xor_comm a b

pub xor_lt : (k a b : ℕ) → a < 2 ^ k → b < 2 ^ k → xor a b < 2 ^ k
unfolding xor
xor_lt k a b p q = B.xor_lt k a b p q

-- the digits from k on
pub xor_shr : (k a b : ℕ) → xor a b / 2 ^ k ≡ xor (a / 2 ^ k) (b / 2 ^ k)
unfolding xor
xor_shr k a b = B.xor_shr a b k

-- the k low digits
pub xor_mod : (k a b : ℕ) → xor a b % 2 ^ k ≡ xor (a % 2 ^ k) (b % 2 ^ k)
unfolding xor
xor_mod k a b = B.xor_mod a b k

-- high and low digits apart
pub xor-split : (k a b r s : ℕ) → r < 2 ^ k → s < 2 ^ k → xor (a * 2 ^ k + r) (b * 2 ^ k + s) ≡ xor a b * 2 ^ k + xor r s
unfolding xor
xor-split k a b r s p q = B.xor_block k a b r s p q

-- where no digit is common, exclusive or is the sum
pub xor-add : (k a r : ℕ) → r < 2 ^ k → xor (a * 2 ^ k) r ≡ a * 2 ^ k + r
unfolding xor
xor-add k a r p = B.xor_shifted a k r p

-- the half and the last digit

pub xor-half : (a b : ℕ) → xor a b / 2 ≡ xor (a / 2) (b / 2)
xor-half a b = xor_shr 1 a b

pub xor-odd : (a b : ℕ) → xor a b % 2 ≡ xor (a % 2) (b % 2)
xor-odd a b = xor_mod 1 a b

-- shifted to the left by k digits
pub xor-shl : (k a b : ℕ) → xor a b * 2 ^ k ≡ xor (a * 2 ^ k) (b * 2 ^ k)
xor-shl k a b =
    sym (add-zero _) ∙ ap (λ (z : ℕ). xor a b * 2 ^ k + z) (sym (xor_zero_l 0)) ∙ sym (xor-split k a b 0 0 (pow_pos k) (pow_pos k))
    ∙ ap₂ xor (add-zero _) (add-zero _)

-- a number as its high digits and its k low ones
pub xor-parts : (k a : ℕ) → xor (a / 2 ^ k * 2 ^ k) (a % 2 ^ k) ≡ a
xor-parts k a = xor-add k (a / 2 ^ k) (a % 2 ^ k) (mod-lt a (pow_pos k)) ∙ split a k

-- two numbers are equal where their halves and their last digits are
halves : (x y : ℕ) → x / 2 ≡ y / 2 → x % 2 ≡ y % 2 → x ≡ y
halves x y p q = omega arith

-- a fact of a digit holds where it holds of 0 and of 1
pub digit : (P : ℕ → Type 0) → P 0 → P 1 → (b : ℕ) → b < 2 → P b
digit P p q zero h = p
digit P p q (suc zero) h = q
digit P p q (suc (suc b)) h = absurd (not-suc-le-zero (le_of_suc-le-suc (le_of_suc-le-suc h)))

-- every a % 2 is a digit
pub odd-lt : (a : ℕ) → a % 2 < 2
odd-lt a = mod-lt a (zero-lt-suc 1)

digits-assoc : (a b c : ℕ) → a < 2 → b < 2 → c < 2 → xor (xor a b) c ≡ xor a (xor b c)
unfolding xor
digits-assoc a b c p q r =
    digit (λ (x : ℕ). xor (xor x b) c ≡ xor x (xor b c)) refl
    (digit (λ (y : ℕ). xor (xor 1 y) c ≡ xor 1 (xor y c)) refl
    (digit (λ (z : ℕ). xor (xor 1 1) z ≡ xor 1 (xor 1 z)) refl refl c r) b q)
    a p

pub xor_assoc : (a b c : ℕ) → xor (xor a b) c ≡ xor a (xor b c)
xor_assoc a =
    bin_ind (λ (n : ℕ). (b c : ℕ) → xor (xor n b) c ≡ xor n (xor b c))
    (λ b c. simp xor_zero_l)
    (λ n ih b c. halves _ _ (simp xor-half (ih _ _)) (simp xor-odd (digits-assoc _ _ _ (odd-lt n) (odd-lt b) (odd-lt c)))) a

pub xor_left_comm : (a b c : ℕ) → xor a (xor b c) ≡ xor b (xor a c)
xor_left_comm = left_comm xor xor_assoc xor_comm

-- what is added twice is gone
pub xor-cancel : (a b : ℕ) → xor a (xor a b) ≡ b
xor-cancel a b = sym (xor_assoc a a b) ∙ ap (λ (x : ℕ). xor x b) (xor_self a) ∙ xor_zero_l b

-- the low digits change alone
pub xor_low : (k a r s : ℕ) → r < 2 ^ k → s < 2 ^ k → xor (a * 2 ^ k + r) s ≡ a * 2 ^ k + xor r s
xor_low k a r s p q = ap (λ (x : ℕ). xor x s) (sym (xor-add k a r p)) ∙ xor_assoc _ _ _ ∙ xor-add k a (xor r s) (xor_lt k r s p q)

-- two sums added, first with first and second with second
pub xor-swap : (a b c d : ℕ) → xor (xor a b) (xor c d) ≡ xor (xor a c) (xor b d)
xor-swap = swap xor xor_assoc xor_comm

-- `simp xors` sorts both sides of an identity of sums and strikes what stands there twice
pub ruleset xors = (xor_assoc, xor_comm, xor_left_comm, xor_self, xor-cancel, xor_zero_l, xor_zero_r)

-- `only`, the choice by a digit

pub only-off : (v : ℕ) → only 0 v ≡ 0
unfolding only
only-off v = refl

pub only_on : (v : ℕ) → only 1 v ≡ v
unfolding only
only_on v = refl

pub only_zero : (b : ℕ) → only b 0 ≡ 0
unfolding only
only_zero zero = refl
only_zero (suc b) = refl

-- any map that keeps 0 can be taken before or after the choice
pub only-map : (f : ℕ → ℕ) → f 0 ≡ 0 → (b v : ℕ) → f (only b v) ≡ only b (f v)
unfolding only
only-map f z zero v = z
only-map f z (suc b) v = refl

pub only-lt : (k b v : ℕ) → v < 2 ^ k → only b v < 2 ^ k
unfolding only
only-lt k zero v h = pow_pos k
only-lt k (suc b) v h = h

-- additive in what is chosen
pub only-xor : (b u v : ℕ) → only b (xor u v) ≡ xor (only b u) (only b v)
unfolding only
only-xor zero u v = sym (xor_zero_l 0)
only-xor (suc b) u v = refl

-- additive in the digit
pub only-xor-digit : (b c v : ℕ) → b < 2 → c < 2 → only (xor b c) v ≡ xor (only b v) (only c v)
unfolding only xor
only-xor-digit b c v p q =
    digit (λ (x : ℕ). only (xor x c) v ≡ xor (only x v) (only c v)) refl
    (digit (λ (y : ℕ). only (xor 1 y) v ≡ xor v (only y v)) (sym (xor_zero_r v)) (sym (xor_self v)) c q)
    b p

-- by a digit, the choice is the product
pub only-mul : (b v : ℕ) → b < 2 → only b v ≡ b * v
only-mul b v p = digit (λ (x : ℕ). only x v ≡ x * v) (only-off v ∙ omega arith) (only_on v ∙ omega arith) b p
