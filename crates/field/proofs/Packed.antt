-- Words read from bytes and written to bytes, as code does it: lead zero bytes in front of a list, a word as the library reads it, the
-- invariants of the loops that read and write a word, and a block read and written as two words. They rest on the laws of numbers as
-- bytes (`Bytes`), of stores (`Stores`) and of blocks (`Values`, `BlockAt`).
use mathlib.Core.Path.{◌≡◌, refl, sym, ap, ap₂, ◌∙◌}
use mathlib.Core.List.{List, ◌++◌, append_assoc}
use Prim.Native.Nat.{ℕ, suc, ◌+◌, ◌-◌, ◌*◌, ◌/◌, ◌%◌, ◌^◌, ◌≤◌, ◌<◌}
use native.Mathlib.Nat.{pow-le-pow_right, zero-lt-suc, mod-eq_of_lt, lt_of_lt_of_le, div-div-eq-div-mul}
use native.Mathlib.Numerals.{add-one}
use native.Mathlib.Omega.{arith}
use mir.Syntax.{w8, w64}
use mir.Val.{Fits}
use lib.ListN.{length, get_or, set, take, drop, replicate, length-append, length-set, length-replicate}
use lib.Seq.{get_or-take, get_or-drop, drop-drop, sets, sets-eq}
use Rattle.std.specs.Int.{from_be_bytes, to_be_bytes}
use Rattle.field.specs.declared.blocks.Block.{Block}
use Rattle.field.specs.Bytes.{number, bytes}
use Rattle.field.specs.Blocks.{Small, value, block, block_at, bytes_of}
use Rattle.field.proofs.Values.{words, block_words, value-small, zero-words}
use Rattle.field.proofs.Bytes.{number_lt, number-from, number-take, number-append_right, number-split, length-bytes, bytes-append}
use Rattle.field.proofs.Stores.{sets-snoc, sets-append, sets_whole}
use Rattle.field.proofs.BlockAt.{length-block_bytes, block_at-past}

-- ---- lead zero bytes in front of a list

-- a number that lies behind them
number-lead : (lead : ℕ) (s : List ℕ) (at k : ℕ) → lead ≤ at → number s (at - lead) k ≡ number (replicate lead 0 ++ s) at k
number-lead lead s at k h =
    let e : length {A = ℕ} (replicate lead 0) + (at - lead) ≡ at = rw length-replicate (omega arith) in
    sym (number-append_right (replicate lead 0) s (at - lead) k) ∙ ap (λ (i : ℕ). number (replicate lead 0 ++ s) i k) e

-- ---- a word read as the library reads it

-- t is the eight bytes from a place on, and n the library's number of them
pub word-number : (s : List ℕ) (at : ℕ) {t : List ℕ} {n : ℕ} → ((i : ℕ) → Fits w8 (get_or s i 0)) → t ≡ take (at + 8 - at) (drop at s) → n ≡ from_be_bytes w64 t
    → n ≡ number s at 8
unfolding number
word-number s at {t} {n} small e f =
    let eight : 8 ≤ at + 8 - at = omega arith in
    let byte : (j : ℕ) → j < 8 → get_or t j 0 < 256 =
    λ j l.
    let is = ap (λ (u : List ℕ). get_or u j 0) e ∙ get_or-take _ (drop at s) j 0 (omega arith) ∙ get_or-drop at s j 0 in
    omega (arith, is, small (at + j)) in
    let is : n ≡ number t 0 8 =
    omega (
      arith,
      f,
      byte 0 (omega arith),
      byte 1 (omega arith),
      byte 2 (omega arith),
      byte 3 (omega arith),
      byte 4 (omega arith),
      byte 5 (omega arith),
      byte 6 (omega arith),
      byte 7 (omega arith),
    ) in
    is ∙ ap (λ (u : List ℕ). number u 0 8) e ∙ number-take (drop at s) _ 0 8 eight ∙ number-from s at 8

-- ---- a word read byte by byte

-- n is the number of the first k of the bytes to read
pub record Reading (s : List ℕ) (at size n k : ℕ) : Type 0 where
  pub within : k ≤ size
  pub is : n ≡ number s at k

pub reading_start : (s : List ℕ) (at size : ℕ) → Reading s at size 0 0
unfolding number
reading_start s at size = record { within = omega arith; is = refl }

-- what was read has room for one byte more, of eight
pub reading-lt : {s : List ℕ} {at size n k : ℕ} → Reading s at size n k → size ≤ 8 → k < size → n < 2 ^ 56
reading-lt {s} {at} {size} {n} {k} r h l =
    rw r.is (lt_of_lt_of_le (number_lt s at k) (pow-le-pow_right (zero-lt-suc 255) {i = k} {j = 7} (omega arith)))

pub reading_next : {s : List ℕ} {at size n k : ℕ} (b : ℕ) → Reading s at size n k → k < size → b < 256 → b ≡ get_or s (at + k) 0
    → Reading s at size (n * 256 + b) (k + 1)
unfolding number
reading_next {s} {at} {size} {n} {k} b r l small e =
    record {
      within = omega arith;
      is = rw add-one (ap₂ (λ (x y : ℕ). x * 256 + y) r.is (sym (mod-eq_of_lt small) ∙ ap (λ (x : ℕ). x % 256) e));
    }

-- ---- a word written byte by byte, the last byte first

-- out is to get the k bytes of rest yet, and then holds what it is to hold
pub record Writing (out₀ : List ℕ) (at size v : ℕ) (out : List ℕ) (rest k : ℕ) : Type 0 where
  pub within : k ≤ size
  pub room : length out ≡ length out₀
  pub is : sets out at (bytes k rest) ≡ sets out₀ at (bytes size v)

write_byte : (out : List ℕ) (at k rest : ℕ)
    → sets (set out (at + k) (rest % 256)) at (bytes k (rest / 256)) ≡ sets out at (bytes (suc k) rest)
unfolding bytes
write_byte out at k rest =
    ap (λ (n : ℕ). sets (set out (at + n) (rest % 256)) at (bytes k (rest / 256))) (sym (length-bytes k (rest / 256)))
    ∙ sets-snoc out at (bytes k (rest / 256)) (rest % 256)

pub writing_next : {out₀ : List ℕ} {at size v : ℕ} {out : List ℕ} {rest k : ℕ} → Writing out₀ at size v out rest k → 0 < k
    → Writing out₀ at size v (set out (at + (k - 1)) (rest % 256)) (rest / 256) (k - 1)
writing_next {out₀} {at} {size} {v} {out} {rest} {k} w h =
    let e : suc (k - 1) ≡ k = omega arith in
    record {
      within = omega (arith, w.within);
      room = length-set out (at + (k - 1)) (rest % 256) ∙ w.room;
      is = write_byte out at (k - 1) rest ∙ ap (λ (j : ℕ). sets out at (bytes j rest)) e ∙ w.is;
    }

pub writing_done : {out₀ : List ℕ} {at size v : ℕ} {out : List ℕ} {rest k : ℕ} → Writing out₀ at size v out rest k → k ≤ 0
    → out ≡ sets out₀ at (bytes size v)
unfolding bytes
writing_done {out₀} {at} {size} {v} {out} {rest} {k} w h =
    let e : 0 ≡ k = omega arith in
    ap (λ (j : ℕ). sets out at (bytes j rest)) e ∙ w.is

-- ---- a block as two words

-- a block of a list is the two words that are read
pub block_at-words : (s : List ℕ) (i hi lo : ℕ) → hi ≡ number s (16 * i) 8 → lo ≡ number s (16 * i + 8) 8
    → words hi lo ≡ block_at s i
unfolding block_at
block_at-words s i hi lo e f =
    block_words hi lo (rw f (number_lt s (16 * i + 8) 8))
    ∙ ap₂ (λ (x y : ℕ). block (x * 2 ^ 64 + y)) e f
    ∙ ap block (sym (number-split s (16 * i) 8 8))

-- the same behind lead zero bytes: the words stand in the list itself
pub block_at-inside : (lead : ℕ) (s : List ℕ) (i : ℕ) {hi lo : ℕ} → lead ≤ 16 * i → hi ≡ number s (16 * i - lead) 8
    → lo ≡ number s (16 * i - lead + 8) 8 → words hi lo ≡ block_at (replicate lead 0 ++ s) i
block_at-inside lead s i h e f =
    let next : 16 * i - lead + 8 ≡ 16 * i + 8 - lead = omega arith in
    block_at-words (replicate lead 0 ++ s) i _ _ (e ∙ number-lead lead s (16 * i) 8 h)
    (f ∙ ap (λ (x : ℕ). number s x 8) next ∙ number-lead lead s (16 * i + 8) 8 (omega arith))

-- and past its end there is nothing
pub block_at-outside : (lead : ℕ) (s : List ℕ) (i : ℕ) → lead ≤ 16 * i → length s ≤ 16 * i - lead → words 0 0 ≡ block_at (replicate lead 0 ++ s) i
block_at-outside lead s i h l =
    let past : length (replicate lead 0 ++ s) ≤ 16 * i = rw (length-append, length-replicate) (omega arith) in
    zero-words ∙ sym (block_at-past (replicate lead 0 ++ s) i past)

-- the library's eight bytes of a word
pub word-bytes : (v : ℕ) → to_be_bytes w64 v ≡ bytes 8 v
unfolding bytes
word-bytes v =
    let down : (n : ℕ) → v / (n * 256) ≡ v / n / 256 = λ n. sym (div-div-eq-div-mul v n 256) in
    rw (down (2 ^ 48), down (2 ^ 40), down (2 ^ 32), down (2 ^ 24), down (2 ^ 16), down 256) refl

-- u is what stands there once they are copied over the eight from a place on
pub word-copied : (out : List ℕ) (at v k : ℕ) {w t u : List ℕ} → at + 8 ≤ length out → k ≡ 8 → w ≡ to_be_bytes w64 v → t ≡ w
    → u ≡ take at out ++ (t ++ drop k (drop at out)) → u ≡ sets out at (bytes 8 v)
word-copied out at v k {w} {t} {u} h e ew et eu =
    let is : t ≡ bytes 8 v = et ∙ ew ∙ word-bytes v in
    let rest : drop k (drop at out) ≡ drop (at + length (bytes 8 v)) out =
    drop-drop k at out ∙ ap (λ (n : ℕ). drop n out) (omega (arith, length-bytes 8 v)) in
    eu ∙ sym (append_assoc (take at out) t (drop k (drop at out))) ∙ ap₂ (λ (p q : List ℕ). take at out ++ p ++ q) is rest
    ∙ sym (sets-eq (bytes 8 v) out at (omega (arith, length-bytes 8 v)))

-- both words written one behind the other are the block's bytes written: mid is the output after the first, and last after the
-- second
pub bytes_of-words : (b : Block) → Small b → (out : List ℕ) (at : ℕ) {mid last : List ℕ}
    → mid ≡ sets out at (bytes 8 b.hi) → last ≡ sets mid (at + 8) (bytes 8 b.lo) → last ≡ sets out at (bytes_of b)
unfolding bytes_of
bytes_of-words b h out at {mid} {last} e f =
    let hi = bytes 8 b.hi in
    let lo = bytes 8 b.lo in
    let both : hi ++ lo ≡ bytes 16 (value b) = sym (ap (bytes 16) (value-small b h) ∙ bytes-append 8 8 b.hi b.lo h.lo) in
    let place : at + 8 ≡ at + length hi = omega (arith, length-bytes 8 b.hi) in
    f ∙ ap₂ (λ (t : List ℕ) (i : ℕ). sets t i lo) e place ∙ sets-append out at hi lo ∙ ap (sets out at) both

-- over sixteen bytes, they are all that is left
pub bytes_of_whole : (b : Block) (out : List ℕ) → length out ≡ 16 → sets out 0 (bytes_of b) ≡ bytes_of b
bytes_of_whole b out l = sets_whole out (bytes_of b) (l ∙ sym (length-block_bytes b))
