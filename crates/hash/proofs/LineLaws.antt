-- The lines' text, part by part, and the digits that the kit's `decimal` and `hex` give. They rest on the kit's definition of digits and on the
-- field's law of a block's number.
use mathlib.Core.Path.{◌≡◌, sym, ap, ap₂, ◌∙◌}
use mathlib.Core.Bool.{Bool, cond}
use mathlib.Core.List.{List, [], ◌∷◌, ◌++◌, append-nil, append_assoc}
use Prim.Native.Nat.{ℕ, zero, suc, ◌+◌, ◌*◌, ◌-◌, ◌/◌, ◌%◌, ◌^◌, ◌≤◌, ◌<◌}
use native.Mathlib.Nat.{add-suc, mul_assoc, pow-suc, mod-eq_of_lt, one-le-pow, pow-le-pow_right, le_antisymm}
use native.Mathlib.Numerals.{unary_clauses}
use native.Mathlib.Decide.{dec_lt}
use native.Mathlib.Omega.{arith}
use borrow.Author.Tests.{lt-ltb, le-ltb}
use Rattle.io.specs.Digits.{hex_digit_ascii, last_digits, IsDigitCount}
use Rattle.field.specs.declared.blocks.Block.{Block}
use Rattle.field.specs.Field.{value, Small, blocks}
use Rattle.field.proofs.Values.{value-small}
use Rattle.hash.specs.Lines.{ascii, decimal_within, decimal, hexadecimal, file_lines}

-- ---- digits

-- the fewest digits that hold a number are no more than hold a larger one
few : (b p least n k : ℕ) → 0 < b → least ≤ p → n < b ^ p → IsDigitCount b least n k → k ≤ p
few b p least n k pos l small f =
    elim (dec_lt p k) [
      | yes h ↦ absurd (omega (arith, f.2 (omega arith), pow-le-pow_right pos {i = p} {j = k - 1} (omega arith)))
      | no h ↦ omega arith
    ]

-- the fewest digits that hold a number are its decimal digits
within : (p k n : ℕ) → k ≤ p → IsDigitCount 10 1 n k → last_digits 10 k n ≡ decimal_within p n
unfolding decimal_within
within zero zero n l f = absurd (omega (arith, f.0))
within zero (suc k) n l f = absurd (omega arith)
within (suc p) zero n l f = absurd (omega (arith, f.0))
within (suc p) (suc zero) n l f =
    let small : n < 10 = f.1 in
    ap (λ (d : ℕ). hex_digit_ascii d ∷ []) (mod-eq_of_lt small)
    ∙ ap (λ (b : Bool). cond b (hex_digit_ascii n ∷ []) (decimal_within p (n / 10) ++ (hex_digit_ascii (n % 10) ∷ []))) (sym (lt-ltb n 10 small))
within (suc p) (suc (suc k)) n l f =
    let low : 10 ^ k * 10 ≤ n = simp unary_clauses at (f.2 (omega arith)) in
    let high : n < 10 ^ k * 10 * 10 = simp unary_clauses at f.1 in
    let one : 1 ≤ 10 ^ k = one-le-pow k 10 (omega arith) in
    ap (λ (l : List ℕ). l ++ (hex_digit_ascii (n % 10) ∷ []))
    (within p (suc k) (n / 10) (omega arith) (omega arith, simp unary_clauses (omega arith), λ m. simp unary_clauses (omega arith)))
    ∙ ap (λ (b : Bool). cond b (hex_digit_ascii n ∷ []) (decimal_within p (n / 10) ++ (hex_digit_ascii (n % 10) ∷ []))) (sym (le-ltb n 10 (omega arith)))

-- for a number of 64 bits they are at most 20
pub decimal-places : (k n : ℕ) → n < 2 ^ 64 → IsDigitCount 10 1 n k → k ≤ 20
decimal-places k n l f = few 10 20 1 n k (omega arith) (omega arith) (omega arith) f

decimal_fewest : (k n : ℕ) → n < 2 ^ 64 → IsDigitCount 10 1 n k → last_digits 10 k n ≡ decimal n
unfolding decimal
decimal_fewest k n l f = within 20 k n (decimal-places k n l f) f

-- where 16 hexadecimal digits are asked for, they are 16
pub word-places : (k n : ℕ) → n < 2 ^ 64 → IsDigitCount 16 16 n k → k ≡ 16
word-places k n l f = le_antisymm (few 16 16 16 n k (omega arith) (omega arith) l f) f.0

-- two numbers' hexadecimal digits side by side are those of the number that they make
pub hexadecimal-join : (j k x n : ℕ) → n < 16 ^ k → hexadecimal j x ++ hexadecimal k n ≡ hexadecimal (j + k) (x * 16 ^ k + n)
unfolding hexadecimal
hexadecimal-join j zero x n l =
    let value : x ≡ x * 1 + n = omega arith in
    let places : j ≡ j + 0 = omega arith in
    append-nil (last_digits 16 j x) ∙ ap₂ (last_digits 16) places value
hexadecimal-join j (suc k) x n l =
    let v = x * 16 ^ k in
    let whole : x * 16 ^ suc k ≡ v * 16 = ap (λ (p : ℕ). x * p) (pow-suc 16 k) ∙ sym (mul_assoc x (16 ^ k) 16) in
    let front : v + n / 16 ≡ (x * 16 ^ suc k + n) / 16 = omega arith in
    let last : n % 16 ≡ (x * 16 ^ suc k + n) % 16 = omega arith in
    sym (append_assoc (last_digits 16 j x) (last_digits 16 k (n / 16)) (hex_digit_ascii (n % 16) ∷ []))
    ∙ ap (λ (l : List ℕ). l ++ (hex_digit_ascii (n % 16) ∷ [])) (hexadecimal-join j k x (n / 16) (omega arith))
    ∙ ap₂ (λ (a b : ℕ). last_digits 16 (j + k) a ++ (hex_digit_ascii b ∷ [])) front last
    ∙ ap (λ (i : ℕ). last_digits 16 i (x * 16 ^ suc k + n)) (sym (add-suc j k))

-- ---- the parts of the lines: p is the text up to a part's place, y the text up to its end

-- a word, up to whose end the text is x, and a number's digits as the kit gives them
pub count-text : (p word : List ℕ) (n : ℕ) {k : ℕ} {x y t : List ℕ} → x ≡ p ++ word → y ≡ x ++ t → t ≡ last_digits 10 k n → n < 2 ^ 64
    → IsDigitCount 10 1 n k → y ≡ p ++ word ++ decimal n
count-text p word n {k} ex ey et l f = ey ∙ ap₂ ◌++◌ ex (et ∙ decimal_fewest k n l f)

-- a word's digits as the kit gives them
pub word-text : (p : List ℕ) (n : ℕ) {k : ℕ} {y t : List ℕ} → y ≡ p ++ t → t ≡ last_digits 16 k n → n < 2 ^ 64
    → IsDigitCount 16 16 n k → y ≡ p ++ hexadecimal 16 n
unfolding hexadecimal
word-text p n {k} ey et l f = ey ∙ ap (λ (z : List ℕ). p ++ z) (et ∙ ap (λ (i : ℕ). last_digits 16 i n) (word-places k n l f))

-- a block's digits: its two words'
pub block-text : (p : List ℕ) (b : Block) {x y : List ℕ} → Small b → x ≡ p ++ hexadecimal 16 b.hi → y ≡ x ++ hexadecimal 16 b.lo
    → y ≡ p ++ hexadecimal 32 (value b)
block-text p b small ex ey =
    ey
    ∙ ap (λ (z : List ℕ). z ++ hexadecimal 16 b.lo) ex
    ∙ append_assoc p (hexadecimal 16 b.hi) (hexadecimal 16 b.lo)
    ∙ ap (λ (z : List ℕ). p ++ z)
    (hexadecimal-join 16 16 b.hi b.lo small.lo ∙ ap (hexadecimal 32) (sym (value-small b small)))

-- the three lines, part by part
pub lines-text : (n : ℕ) (hash : Block) {m : ℕ} {z a b c d e : List ℕ} → m ≡ blocks n → z ≡ [] → a ≡ z ++ ascii "bytes " ++ decimal n
    → b ≡ a ++ ascii "\nblocks " ++ decimal m → c ≡ b ++ ascii "\nghash " → d ≡ c ++ hexadecimal 32 (value hash) → e ≡ d ++ ascii "\n"
    → e ≡ file_lines n hash
unfolding file_lines
lines-text n hash em ez ea' eb ec ed ee =
    let ea = ea' ∙ ap (λ (x : List ℕ). x ++ ascii "bytes " ++ decimal n) ez in
    let b = eb ∙ ap₂ (λ (x : List ℕ) (y : ℕ). x ++ ascii "\nblocks " ++ decimal y) ea em in
    let d = ed ∙ ap (λ (x : List ℕ). x ++ hexadecimal 32 (value hash)) (ec ∙ ap (λ (x : List ℕ). x ++ ascii "\nghash ") b) in
    ee ∙ ap (λ (x : List ℕ). x ++ ascii "\n") d
