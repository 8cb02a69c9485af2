-- Laws of byte lists added byte by byte: at each place, as an addition, joined and padded lists, and the number that a sum stands
-- for. They ask no bound of a list's elements. They rest on the laws of exclusive or (`Xor`).
use mathlib.Core.Path.{◌≡◌, refl, sym, ap, ap₂, ◌∙◌}
use mathlib.Core.List.{List, [], ◌∷◌, ◌++◌}
use Prim.Native.Nat.{ℕ, zero, suc, ◌+◌, ◌*◌, ◌/◌, ◌%◌, ◌≤◌, max}
use native.Mathlib.Nat.{le_refl, le_of_suc-le-suc, not-suc-le-zero, suc_inj, mod-lt, zero-lt-suc, zero-max, suc-max-suc, max-zero}
use native.Mathlib.Omega.{arith}
use lib.Bits.{bit_xor}
use lib.ListN.{length, get_or, replicate, length-replicate}
use Rattle.clmul.specs.Xor.{xor}
use Rattle.field.specs.Bytes.{number, bytes, xor_bytes}
use Rattle.clmul.proofs.Xor.{xor_zero_l, xor_zero_r, xor_self, xor_comm, xor_assoc, xor_shr, xor_mod, xor-split}
use Rattle.field.proofs.Bytes.{length-bytes}

-- at every place, past the end of either list too
pub get_d_xor : (s t : List ℕ) (i : ℕ) → get_or (xor_bytes s t) i 0 ≡ xor (get_or s i 0) (get_or t i 0)
unfolding xor_bytes
get_d_xor [] t i = sym (xor_zero_l (get_or t i 0))
get_d_xor (a ∷ s) [] i = sym (xor_zero_r (get_or (a ∷ s) i 0))
get_d_xor (a ∷ s) (b ∷ t) zero = refl
get_d_xor (a ∷ s) (b ∷ t) (suc i) = get_d_xor s t i

-- as code adds bytes
pub get_d_bits : (s t : List ℕ) (i : ℕ) → get_or (xor_bytes s t) i 0 ≡ bit_xor (get_or s i 0) (get_or t i 0)
unfolding xor
get_d_bits s t i = get_d_xor s t i

-- the sum is as long as the longer list
pub length-xor-max : (s t : List ℕ) → length (xor_bytes s t) ≡ max (length s) (length t)
unfolding xor_bytes
length-xor-max [] t = sym (zero-max (length t))
length-xor-max (a ∷ s) [] = sym (max-zero (suc (length s)))
length-xor-max (a ∷ s) (b ∷ t) = ap suc (length-xor-max s t) ∙ sym (suc-max-suc (length s) (length t))

pub length-xor : (s t : List ℕ) → length s ≡ length t → length (xor_bytes s t) ≡ length s
length-xor s t e = rw length-xor-max (omega arith)

-- the number of a sum is the sum of the numbers
pub number-xor : (s t : List ℕ) (at k : ℕ) → number (xor_bytes s t) at k ≡ xor (number s at k) (number t at k)
unfolding number
number-xor s t at zero = sym (xor_zero_l 0)
number-xor s t at (suc k) =
    let a = get_or s (at + k) 0 in
    let b = get_or t (at + k) 0 in
    ap₂ (λ (x y : ℕ). x * 256 + y) (number-xor s t at k) (ap (λ (x : ℕ). x % 256) (get_d_xor s t (at + k)) ∙ xor_mod 8 a b)
    ∙ sym (xor-split 8 (number s at k) (number t at k) (a % 256) (b % 256) (mod-lt a (zero-lt-suc 255)) (mod-lt b (zero-lt-suc 255)))

-- ---- as an addition

pub xor_bytes-comm : (s t : List ℕ) → xor_bytes s t ≡ xor_bytes t s
unfolding xor_bytes
xor_bytes-comm [] [] = refl
xor_bytes-comm [] (b ∷ t) = refl
xor_bytes-comm (a ∷ s) [] = refl
xor_bytes-comm (a ∷ s) (b ∷ t) = ap₂ (λ (x : ℕ) (l : List ℕ). x ∷ l) (xor_comm a b) (xor_bytes-comm s t)

pub xor_bytes-assoc : (s t u : List ℕ) → xor_bytes (xor_bytes s t) u ≡ xor_bytes s (xor_bytes t u)
unfolding xor_bytes
xor_bytes-assoc [] t u = refl
xor_bytes-assoc (a ∷ s) [] u = refl
xor_bytes-assoc (a ∷ s) (b ∷ t) [] = refl
xor_bytes-assoc (a ∷ s) (b ∷ t) (c ∷ u) = ap₂ (λ (x : ℕ) (l : List ℕ). x ∷ l) (xor_assoc a b c) (xor_bytes-assoc s t u)

-- a list added to itself leaves zero bytes
pub xor_bytes-self : (s : List ℕ) → xor_bytes s s ≡ replicate (length s) 0
unfolding xor_bytes
xor_bytes-self [] = refl
xor_bytes-self (a ∷ s) = ap₂ (λ (x : ℕ) (l : List ℕ). x ∷ l) (xor_self a) (xor_bytes-self s)

-- zero bytes, no more than the list has, change nothing
pub xor_bytes-zeros : (s : List ℕ) (r : ℕ) → r ≤ length s → xor_bytes s (replicate r 0) ≡ s
unfolding xor_bytes
xor_bytes-zeros [] zero h = refl
xor_bytes-zeros [] (suc r) h = absurd (not-suc-le-zero h)
xor_bytes-zeros (a ∷ s) zero h = refl
xor_bytes-zeros (a ∷ s) (suc r) h = ap₂ (λ (x : ℕ) (l : List ℕ). x ∷ l) (xor_zero_r a) (xor_bytes-zeros s r (le_of_suc-le-suc h))

-- what is added twice is gone, where it is no longer than the rest
pub xor_bytes-cancel : (s t : List ℕ) → length s ≤ length t → xor_bytes s (xor_bytes s t) ≡ t
xor_bytes-cancel s t h =
    sym (xor_bytes-assoc s s t) ∙ ap (λ (l : List ℕ). xor_bytes l t) (xor_bytes-self s) ∙ xor_bytes-comm _ t ∙ xor_bytes-zeros t (length s) h

-- ---- joined lists

-- part by part, where the first parts are of one length
pub xor_bytes-append : (a b c d : List ℕ) → length a ≡ length c → xor_bytes (a ++ b) (c ++ d) ≡ xor_bytes a c ++ xor_bytes b d
unfolding xor_bytes
xor_bytes-append [] b [] d e = refl
xor_bytes-append [] b (y ∷ c) d e = absurd (omega arith)
xor_bytes-append (x ∷ a) b [] d e = absurd (omega arith)
xor_bytes-append (x ∷ a) b (y ∷ c) d e = ap (λ (l : List ℕ). xor x y ∷ l) (xor_bytes-append a b c d (suc_inj e))

-- the bytes of a sum of numbers are the sum of their bytes
pub bytes-xor : (k a b : ℕ) → bytes k (xor a b) ≡ xor_bytes (bytes k a) (bytes k b)
unfolding bytes xor_bytes
bytes-xor zero a b = refl
bytes-xor (suc k) a b =
    ap₂ (λ (x y : ℕ). bytes k x ++ (y ∷ [])) (xor_shr 8 a b) (xor_mod 8 a b)
    ∙ ap (λ (l : List ℕ). l ++ (xor (a % 256) (b % 256) ∷ [])) (bytes-xor k (a / 256) (b / 256))
    ∙ sym
    (xor_bytes-append (bytes k (a / 256)) (a % 256 ∷ []) (bytes k (b / 256)) (b % 256 ∷ [])
    (length-bytes k (a / 256) ∙ sym (length-bytes k (b / 256))))

-- zero bytes in front of both lists stand in front of their sum
pub xor_bytes-lead : (lead : ℕ) (a b : List ℕ) → xor_bytes (replicate lead 0 ++ a) (replicate lead 0 ++ b) ≡ replicate lead 0 ++ xor_bytes a b
xor_bytes-lead lead a b =
    let z : List ℕ = replicate lead 0 in
    xor_bytes-append z a z b refl
    ∙ ap (λ (l : List ℕ). l ++ xor_bytes a b) (xor_bytes-self z ∙ ap (λ (n : ℕ). replicate n 0) (length-replicate lead 0))

-- two joined lists are a sum: each with zero bytes in the other's place
pub append-xor_bytes : (s t : List ℕ) → s ++ t ≡ xor_bytes (s ++ replicate (length t) 0) (replicate (length s) 0 ++ t)
append-xor_bytes s t =
    sym
    (xor_bytes-append s _ _ t (sym (length-replicate (length s) 0))
    ∙ ap₂ ◌++◌ (xor_bytes-zeros s (length s) (le_refl (length s))) (xor_bytes-comm _ t ∙ xor_bytes-zeros t (length t) (le_refl (length t))))
