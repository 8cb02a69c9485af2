-- Numbers and lists stored at any place of a slice: runs of stores one behind the other, a list copied element by element, and what
-- is read there afterwards: at the place what was stored, before it and behind it what stood there. They rest on the laws of numbers
-- as bytes (`Bytes`).
use mathlib.Core.Path.{◌≡◌, refl, sym, ap, ap₂, ◌∙◌}
use mathlib.Core.List.{List, [], ◌∷◌, ◌++◌, append-nil}
use Prim.Native.Nat.{ℕ, suc, ◌+◌, ◌%◌, ◌^◌, ◌≤◌, ◌<◌}
use native.Mathlib.Nat.{add-zero}
use native.Mathlib.Numerals.{add-one}
use native.Mathlib.Omega.{arith}
use lib.ListN.{length, get_or, take, set, length-append, length-set, drop_of_length-le}
use lib.Seq.{set_comm, sets, sets-eq, take-suc, take_all, length-take-le, get_or-set_other}
use Rattle.field.specs.Bytes.{number, bytes}
use Rattle.field.proofs.Bytes.{number_cong, number-append_left, number-append_right, number-bytes, length-bytes}

-- ---- a list stored at a place

-- one store behind a run of stores is one more element of the run
pub sets-snoc : (l : List ℕ) (i : ℕ) (vs : List ℕ) (x : ℕ) → sets (set l (i + length vs) x) i vs ≡ sets l i (vs ++ (x ∷ []))
sets-snoc l i [] x = ap (λ (j : ℕ). set l j x) (add-zero i)
sets-snoc l i (a ∷ vs) x =
    let e : i + suc (length vs) ≡ suc i + length vs = omega arith in
    ap (λ (t : List ℕ). sets t (suc i) vs) (set_comm l (i + suc (length vs)) i x a (omega arith) ∙ ap (λ (j : ℕ). set (set l i a) j x) e)
    ∙ sets-snoc (set l i a) (suc i) vs x

-- two runs of stores, the second where the first ends, are one
pub sets-append : (l : List ℕ) (i : ℕ) (vs ws : List ℕ) → sets (sets l i vs) (i + length vs) ws ≡ sets l i (vs ++ ws)
sets-append l i [] ws = ap (λ (j : ℕ). sets l j ws) (add-zero i)
sets-append l i (a ∷ vs) ws =
    let e : i + suc (length vs) ≡ suc i + length vs = omega arith in
    ap (λ (j : ℕ). sets (sets (set l i a) (suc i) vs) j ws) e ∙ sets-append (set l i a) (suc i) vs ws

-- a run of stores over the whole list leaves nothing of it
pub sets_whole : (l vs : List ℕ) → length l ≡ length vs → sets l 0 vs ≡ vs
sets_whole l vs e =
    sets-eq vs l 0 (omega arith) ∙ ap (λ (t : List ℕ). vs ++ t) (drop_of_length-le l {i = 0 + length vs} (omega arith)) ∙ append-nil vs

-- what stands before it and behind it stays, wherever the slice ends
get_d_before : (l : List ℕ) (i : ℕ) (vs : List ℕ) (j : ℕ) → j < i → get_or (sets l i vs) j 0 ≡ get_or l j 0
get_d_before l i [] j h = refl
get_d_before l i (a ∷ vs) j h = get_d_before (set l i a) (suc i) vs j (omega arith) ∙ get_or-set_other l i j a 0 (λ e. omega arith)

get_d_behind : (l : List ℕ) (i : ℕ) (vs : List ℕ) (j : ℕ) → i + length vs ≤ j → get_or (sets l i vs) j 0 ≡ get_or l j 0
get_d_behind l i [] j h = refl
get_d_behind l i (a ∷ vs) j h = get_d_behind (set l i a) (suc i) vs j (omega arith) ∙ get_or-set_other l i j a 0 (λ e. omega arith)

-- ---- what is read afterwards

-- a number that ends before the place
pub number_before : (out : List ℕ) (at : ℕ) (p : List ℕ) (i k : ℕ) → i + k ≤ at → number (sets out at p) i k ≡ number out i k
number_before out at p i k h =
    number_cong (sets out at p) out i i k (λ j l. ap (λ (x : ℕ). x % 256) (get_d_before out at p (i + j) (omega arith)))

-- one that begins behind what was stored
pub number_behind : (out : List ℕ) (at : ℕ) (p : List ℕ) (i k : ℕ) → at + length p ≤ i → number (sets out at p) i k ≡ number out i k
number_behind out at p i k h =
    number_cong (sets out at p) out i i k (λ j l. ap (λ (x : ℕ). x % 256) (get_d_behind out at p (i + j) (omega arith)))

-- one within what was stored
pub number-within : (out : List ℕ) (at : ℕ) (p : List ℕ) (i k : ℕ) → at + length p ≤ length out → i + k ≤ length p
    → number (sets out at p) (at + i) k ≡ number p i k
number-within out at p i k h l =
    let front = take at out in
    let size : length front ≡ at = length-take-le at out (omega arith) in
    ap (λ (s : List ℕ). number s (at + i) k) (sets-eq p out at h)
    ∙ number-append_left (front ++ p) _ (at + i) k (rw (length-append, size) (omega arith))
    ∙ ap (λ (x : ℕ). number (front ++ p) (x + i) k) (sym size)
    ∙ number-append_right front p i k

-- a number that was stored, less what did not fit its bytes
pub number-stored : (out : List ℕ) (at k v : ℕ) → at + k ≤ length out → number (sets out at (bytes k v)) at k ≡ v % 256 ^ k
number-stored out at k v h =
    let size = length-bytes k v in
    ap (λ (x : ℕ). number (sets out at (bytes k v)) x k) (sym (add-zero at))
    ∙ number-within out at (bytes k v) 0 k (omega (arith, size)) (omega (arith, size))
    ∙ number-bytes k v

-- ---- runs of stores

-- out has got the n elements of p from a place on, and is now mid
pub record Stored (out : List ℕ) (at : ℕ) (p : List ℕ) (n : ℕ) (mid : List ℕ) : Type 0 where
  pub is : mid ≡ sets out at p
  pub size : length p ≡ n

pub stored-none : (out : List ℕ) (at : ℕ) → Stored out at [] 0 out
stored-none out at = record { is = refl; size = refl }

-- a list of k elements more
pub stored-list : {out : List ℕ} {at : ℕ} {p : List ℕ} {n : ℕ} {mid last : List ℕ} (q : List ℕ) (k : ℕ) → length q ≡ k
    → Stored out at p n mid → last ≡ sets mid (at + n) q → Stored out at (p ++ q) (n + k) last
stored-list {out} {at} {p} {n} {mid} {last} q k l s e =
    record {
      is = e ∙ ap₂ (λ (t : List ℕ) (i : ℕ). sets t (at + i) q) s.is (sym s.size) ∙ sets-append out at p q;
      size = length-append p q ∙ ap₂ ◌+◌ s.size l;
    }

-- one number more
pub stored_next : {out : List ℕ} {at : ℕ} {p : List ℕ} {n : ℕ} {mid last : List ℕ} (k v : ℕ) → Stored out at p n mid
    → last ≡ sets mid (at + n) (bytes k v) → Stored out at (p ++ bytes k v) (n + k) last
stored_next k v s e = stored-list (bytes k v) k (length-bytes k v) s e

-- over a whole slice, nothing else is left
pub stored-all : {out p : List ℕ} {n : ℕ} {last : List ℕ} → Stored out 0 p n last → length out ≡ n → last ≡ p
stored-all {out} {p} s l = s.is ∙ sets_whole out p (l ∙ sym s.size)

-- ---- a list copied element by element

-- out has got the first i elements of s from a place on, and is now mid
pub record Copied (out : List ℕ) (at : ℕ) (s mid : List ℕ) (i : ℕ) : Type 0 where
  pub within : i ≤ length s
  pub size : length mid ≡ length out
  pub is : mid ≡ sets out at (take i s)

pub copied_none : (out : List ℕ) (at : ℕ) (s : List ℕ) → Copied out at s out 0
copied_none out at s = record { within = omega arith; size = refl; is = refl }

-- one element more, at its place
pub copied_next : {out : List ℕ} {at : ℕ} {s mid : List ℕ} {i place : ℕ} → Copied out at s mid i → i < length s → place ≡ at + i
    → Copied out at s (set mid place (get_or s i 0)) (i + 1)
copied_next {out} {at} {s} {mid} {i} {place} c l e =
    let x = get_or s i 0 in
    let next : place ≡ at + length (take i s) = e ∙ ap (λ (j : ℕ). at + j) (sym (length-take-le i s c.within)) in
    record {
      within = omega arith;
      size = length-set mid place x ∙ c.size;
      is =
          rw add-one
          (ap₂ (λ (t : List ℕ) (j : ℕ). set t j x) c.is next
          ∙ sets-append out at (take i s) (x ∷ [])
          ∙ ap (sets out at) (sym (take-suc s i 0 l)));
    }

-- all n elements: the copy is a run of stores, which may go on
pub copied_all : {out : List ℕ} {at : ℕ} {s mid : List ℕ} {i n : ℕ} → Copied out at s mid i → length s ≡ n → n ≤ i
    → Stored out at s n mid
copied_all {out} {at} {s} {mid} {i} c l h =
    record { is = c.is ∙ ap (sets out at) (take_all i s (omega arith)); size = l }
