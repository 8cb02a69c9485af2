-- Laws of numbers as big-endian bytes: the number in a list that is joined or padded and in a part of a list, what the bytes of a
-- number are, and that they are read back as the number.
use mathlib.Core.Path.{◌≡◌, refl, sym, ap, ap₂, ◌∙◌}
use mathlib.Core.List.{List, [], ◌∷◌, ◌++◌, append-nil, append_assoc}
use Prim.Native.Nat.{ℕ, zero, suc, ◌+◌, ◌*◌, ◌/◌, ◌%◌, ◌^◌, ◌≤◌, ◌<◌}
use native.Mathlib.Nat.{le_refl, le_step, not-suc-le-zero, le_of_eq, zero-lt-suc, add-zero, zero-add, add-suc, add_assoc, mul-one, mul_assoc, one-le-pow}
use native.Mathlib.Nat.{pow-suc, mod-lt, mod-mod, mod-one, div-lt_iff_lt-mul, mul-add-mod_self_right, mul-add-div_right, add-mul}
use native.Mathlib.Omega.{arith}
use lib.ListN.{length, get_or, take, drop, replicate, length-append, length-drop, get_or-append, get_or-eq_default}
use lib.Seq.{get_or-append-add, get_or_at, get_or-take, get_or-drop, take-suc}
use lib.Arith.{digits_lt, mod-mul, lt-one}
use Rattle.field.specs.Bytes.{number, bytes}
use Rattle.field.proofs.ComputedTests.{and_next}

-- what the laws of division by 256 ask
byte_pos : 0 < 256
byte_pos = zero-lt-suc 255

-- ---- the number that bytes of a list stand for

-- it rests on the bytes that are read, each by its eight bits, and on nothing else; the laws below are this one for one list or
-- another
pub number_cong : (s t : List ℕ) (at at' k : ℕ) → ((j : ℕ) → j < k → get_or s (at + j) 0 % 256 ≡ get_or t (at' + j) 0 % 256)
    → number s at k ≡ number t at' k
unfolding number
number_cong s t at at' zero h = refl
number_cong s t at at' (suc k) h =
    ap₂ (λ (x y : ℕ). x * 256 + y) (number_cong s t at at' k (λ j l. h j (le_step l))) (h k (le_refl (suc k)))

-- and so one number is of the same bytes
pub number_same : (s t : List ℕ) (at k : ℕ) → number s at k ≡ number t at k → (j : ℕ) → j < k
    → get_or s (at + j) 0 % 256 ≡ get_or t (at + j) 0 % 256
unfolding number
number_same s t at zero e j l = absurd (not-suc-le-zero l)
number_same s t at (suc k) e j l =
    and_next (λ (j : ℕ). get_or s (at + j) 0 % 256 ≡ get_or t (at + j) 0 % 256) k (omega arith) (number_same s t at k (omega arith)) j l

-- k bytes hold a number below 256 ^ k
pub number_lt : (s : List ℕ) (at k : ℕ) → number s at k < 256 ^ k
unfolding number
number_lt s at zero = zero-lt-suc 0
number_lt s at (suc k) = rw pow-suc (digits_lt (number_lt s at k) (mod-lt (get_or s (at + k) 0) byte_pos))

-- in the first of two joined lists
pub number-append_left : (s t : List ℕ) (at k : ℕ) → at + k ≤ length s → number (s ++ t) at k ≡ number s at k
number-append_left s t at k h =
    number_cong (s ++ t) s at at k (λ j l. ap (λ (x : ℕ). x % 256) (get_or-append s t 0 (at + j) (omega arith)))

-- in the second of two joined lists
pub number-append_right : (s t : List ℕ) (at k : ℕ) → number (s ++ t) (length s + at) k ≡ number t at k
number-append_right s t at k =
    number_cong (s ++ t) t (length s + at) at k
    (λ j l. ap (λ (x : ℕ). x % 256) (ap (λ (i : ℕ). get_or (s ++ t) i 0) (add_assoc (length s) at j) ∙ get_or-append-add s t (at + j) 0))

-- in what is left of a list without its first elements
pub number-drop : (s : List ℕ) (n at k : ℕ) → number (drop n s) at k ≡ number s (n + at) k
number-drop s n at k =
    number_cong (drop n s) s at (n + at) k
    (λ j l. ap (λ (x : ℕ). x % 256) (get_or-drop n s (at + j) 0 ∙ ap (λ (i : ℕ). get_or s i 0) (sym (add_assoc n at j))))

pub number-from : (s : List ℕ) (at k : ℕ) → number (drop at s) 0 k ≡ number s at k
number-from s at k = number-drop s at 0 k ∙ ap (λ (i : ℕ). number s i k) (add-zero at)

-- and in its first elements
pub number-take : (s : List ℕ) (n at k : ℕ) → at + k ≤ n → number (take n s) at k ≡ number s at k
number-take s n at k h =
    number_cong (take n s) s at at k (λ j l. ap (λ (x : ℕ). x % 256) (get_or-take n s (at + j) 0 (omega arith)))

-- j and then k bytes, read as one number
pub number-split : (s : List ℕ) (at j k : ℕ) → number s at (j + k) ≡ number s at j * 256 ^ k + number s (at + j) k
unfolding number
number-split s at j zero = ap (number s at) (add-zero j) ∙ sym (add-zero (number s at j * 1) ∙ mul-one (number s at j))
number-split s at j (suc k) =
    let a = number s at j in
    let b = number s (at + j) k in
    let g = get_or s (at + j + k) 0 % 256 in
    let more : a * 256 ^ k * 256 ≡ a * 256 ^ suc k = mul_assoc a (256 ^ k) 256 ∙ ap (λ (x : ℕ). a * x) (sym (pow-suc 256 k)) in
    ap (number s at) (add-suc j k)
    ∙ ap₂ (λ (x i : ℕ). x * 256 + get_or s i 0 % 256) (number-split s at j k) (sym (add_assoc at j k))
    ∙ ap (λ (x : ℕ). x + g) (add-mul (a * 256 ^ k) b 256 ∙ ap (λ (x : ℕ). x + b * 256) more)
    ∙ add_assoc (a * 256 ^ suc k) (b * 256) g

-- zero bytes behind a list are those that stand past its end anyway
pub get_d_padded : (s : List ℕ) (r i : ℕ) → get_or (s ++ replicate r 0) i 0 ≡ get_or s i 0
get_d_padded [] zero i = refl
get_d_padded [] (suc r) zero = refl
get_d_padded [] (suc r) (suc i) = get_d_padded [] r i
get_d_padded (a ∷ s) r zero = refl
get_d_padded (a ∷ s) r (suc i) = get_d_padded s r i

-- and so they change no number
pub number-padded : (s : List ℕ) (r at k : ℕ) → number (s ++ replicate r 0) at k ≡ number s at k
number-padded s r at k = number_cong (s ++ replicate r 0) s at at k (λ j l. ap (λ (x : ℕ). x % 256) (get_d_padded s r (at + j)))

number-empty : (at k : ℕ) → number [] at k ≡ 0
unfolding number
number-empty at zero = refl
number-empty at (suc k) = ap (λ (x : ℕ). x * 256 + 0) (number-empty at k)

-- past the end of a list there is nothing
pub number_past : (s : List ℕ) (at k : ℕ) → length s ≤ at → number s at k ≡ 0
number_past s at k h =
    number_cong s [] at at k (λ j l. ap (λ (x : ℕ). x % 256) (get_or-eq_default s 0 (omega arith))) ∙ number-empty at k

-- zero bytes are the number 0
pub number-zeros : (r at k : ℕ) → number (replicate r 0) at k ≡ 0
number-zeros r at k = number-padded [] r at k ∙ number-empty at k

-- ---- the bytes of a number

-- k bytes are k bytes long, whether or not the number fits them
pub length-bytes : (k v : ℕ) → length (bytes k v) ≡ k
unfolding bytes
length-bytes zero v = refl
length-bytes (suc k) v = rw (length-append, length-bytes k (v / 256)) (omega arith)

-- the digits of a above, and those of the k-byte number b below, are written apart
pub bytes-append : (j k a b : ℕ) → b < 256 ^ k → bytes (j + k) (a * 256 ^ k + b) ≡ bytes j a ++ bytes k b
unfolding bytes
bytes-append j zero a b h = ap₂ bytes (add-zero j) (ap₂ ◌+◌ (mul-one a) (lt-one h) ∙ add-zero a) ∙ sym (append-nil (bytes j a))
bytes-append j (suc k) a b h =
    let e : a * 256 ^ suc k + b ≡ a * 256 ^ k * 256 + b = rw (pow-suc, ← mul_assoc) in
    let l : b / 256 < 256 ^ k = (div-lt_iff_lt-mul byte_pos).1 (rw pow-suc at h) in
    ap₂ bytes (add-suc j k) e
    ∙ ap₂ (λ (x y : ℕ). bytes (j + k) x ++ (y ∷ []))
    (mul-add-div_right byte_pos (a * 256 ^ k) b) (mul-add-mod_self_right (a * 256 ^ k) 256 b)
    ∙ ap (λ (x : List ℕ). x ++ (b % 256 ∷ [])) (bytes-append j k a (b / 256) l)
    ∙ append_assoc (bytes j a) (bytes k (b / 256)) (b % 256 ∷ [])

-- reading back what was written: the number, less what did not fit the bytes
pub number-bytes : (k v : ℕ) → number (bytes k v) 0 k ≡ v % 256 ^ k
unfolding number bytes
number-bytes zero v = sym (mod-one v)
number-bytes (suc k) v =
    let front = bytes k (v / 256) in
    let size : length front ≡ 0 + k = length-bytes k (v / 256) ∙ sym (zero-add k) in
    ap₂ (λ (x y : ℕ). x * 256 + y)
    (number-append_left front (v % 256 ∷ []) 0 k (le_of_eq (sym size)) ∙ number-bytes k (v / 256))
    (ap (λ (x : ℕ). x % 256) (get_or_at front (v % 256) [] 0 (0 + k) size) ∙ mod-mod v 256)
    ∙ sym (ap (λ (x : ℕ). v % x) (pow-suc 256 k) ∙ mod-mul v (one-le-pow k 256 byte_pos) byte_pos)

-- writing back what was read: the bytes that stand there, where each is a byte
pub bytes-number : (s : List ℕ) (at k : ℕ) → ((j : ℕ) → j < length s → get_or s j 0 < 256) → at + k ≤ length s
    → bytes k (number s at k) ≡ take k (drop at s)
unfolding number bytes
bytes-number s at zero small h = refl
bytes-number s at (suc k) small h =
    let n = number s at k in
    let b = get_or s (at + k) 0 in
    let l : b < 256 = small (at + k) (omega arith) in
    let more : k < length (drop at s) = rw length-drop (omega arith) in
    let above : (n * 256 + b % 256) / 256 ≡ n = omega arith in
    let below : (n * 256 + b % 256) % 256 ≡ b = omega arith in
    ap₂ (λ (x y : ℕ). bytes k x ++ (y ∷ [])) above below
    ∙ ap (λ (t : List ℕ). t ++ (b ∷ [])) (bytes-number s at k small (omega arith))
    ∙ sym (take-suc (drop at s) k 0 more ∙ ap (λ (x : ℕ). take k (drop at s) ++ (x ∷ [])) (get_or-drop at s k 0))

-- the bytes of a number, one at a time
pub bytes-zero : (v : ℕ) → bytes 0 v ≡ []
unfolding bytes
bytes-zero v = refl

pub bytes-suc : (k v : ℕ) → bytes (suc k) v ≡ bytes k (v / 256) ++ (v % 256 ∷ [])
unfolding bytes
bytes-suc k v = refl
