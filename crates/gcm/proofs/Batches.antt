-- The invariants of the loops of counter mode: counter blocks stored one behind the other, bytes added one by one, and a text turned batch by
-- batch. They rest on the laws of GCTR (`CounterLaws`) and on field's `Stores`.
use mathlib.Core.Path.{◌≡◌, refl, sym, ap, ap₂, ◌∙◌}
use mathlib.Core.List.{List, ◌++◌, append_assoc}
use Prim.Native.Nat.{ℕ, ◌+◌, ◌-◌, ◌*◌, ◌/◌, ◌%◌, ◌≤◌, ◌<◌, min}
use native.Mathlib.Nat.{zero-add}
use native.Mathlib.Numerals.{add-one}
use native.Mathlib.Omega.{arith}
use lib.Bits.{bit_xor}
use lib.ListN.{length, get_or, take, drop, set, length-drop}
use lib.Seq.{sets, sets-eq, length-sets, length-take-le, take-add, take_all, take-append-le, take_at, drop_at, drop-drop}
use Rattle.std.proofs.lemmas.List.{take_min, drop_min, length-take}
use Rattle.field.specs.declared.blocks.Block.{Block}
use Rattle.field.specs.Field.{xor_bytes, bytes_of, blocks}
use Rattle.field.proofs.BlockAt.{length-block_bytes}
use Rattle.field.proofs.XorBytes.{length-xor, get_d_bits}
use Rattle.field.proofs.Stores.{sets-append, sets_whole, Stored, stored-none, stored-list, stored-all, Copied, copied_next, copied_all}
use Rattle.gcm.specs.Counters.{inc32, CB, concatenated, GCTR}
use Rattle.gcm.specs.Clauses.{counters, key_stream}
use Rattle.gcm.proofs.CounterLaws.{counters_more, length_stream, stream_begins, length-GCTR, turned_part}

-- ---- counter blocks

-- none yet
pub counting_start : (j : Block) (first : ℕ) (out : List ℕ) → Stored out 0 (counters (bytes_of j) first 0) (16 * 0) out
unfolding counters concatenated
counting_start j first out = stored-none out 0

-- one more, behind i of them
pub counting_next : (j : Block) (first i : ℕ) {out pad : List ℕ} (b : Block) → Stored out 0 (counters (bytes_of j) first i) (16 * i) pad
    → bytes_of b ≡ CB (bytes_of j) (first + i)
    → Stored out 0 (counters (bytes_of j) first (i + 1)) (16 * (i + 1)) (sets pad (16 * i) (bytes_of b))
counting_next j first i {out} {pad} b s eb =
    let all : counters (bytes_of j) first i ++ bytes_of b ≡ counters (bytes_of j) first (i + 1) =
    ap (◌++◌ (counters (bytes_of j) first i)) eb ∙ rw add-one (counters_more (bytes_of j) first i)
    in
    let place : 16 * i + 16 ≡ 16 * (i + 1) = omega arith in
    rw (← all, ← place)
    (stored-list (bytes_of b) 16 (length-block_bytes b) s (ap (λ (k : ℕ). sets pad k (bytes_of b)) (sym (zero-add (16 * i)))))

-- and at the end nothing else is left
pub counting_done : (j : Block) (first i : ℕ) {out pad : List ℕ} → Stored out 0 (counters (bytes_of j) first i) (16 * i) pad → length out ≡ 16 * i
    → pad ≡ counters (bytes_of j) first (length out / 16)
counting_done j first i {out} s l = stored-all s l ∙ ap (counters (bytes_of j) first) (omega (arith, l))

-- ---- bytes added

module _ (text pad : List ℕ) (same : length pad ≡ length text) where
  length-added : length (xor_bytes text pad) ≡ length text
  length-added = length-xor text pad (sym same)

  -- one byte more, as code adds it
  pub added_next : {out mid : List ℕ} {k : ℕ} → Copied out 0 (xor_bytes text pad) mid k → k < length text
      → Copied out 0 (xor_bytes text pad) (set mid k (bit_xor (get_or text k 0) (get_or pad k 0))) (k + 1)
  added_next {out} {mid} {k} c l =
      rw (get_d_bits text pad k) at (copied_next {place = k} c (omega (arith, length-added)) (sym (zero-add k)))

  pub added_done : {out mid : List ℕ} {k : ℕ} → Copied out 0 (xor_bytes text pad) mid k → length text ≤ k → length out ≡ length text
      → mid ≡ xor_bytes text pad
  added_done c l size = stored-all (copied_all c length-added l) size

-- ---- a batch

-- the pad's first m bytes, whole blocks, became part, the key stream from a place on; what is added to the batch are the bytes of sixteen blocks of it
pub batch_turned : (key : List ℕ) (j : Block) (batch pad : List ℕ) (first m : ℕ) {part t : List ℕ} → length batch ≤ 256 → m % 16 ≡ 0
    → length batch ≤ m → m ≤ 256 → m ≤ length pad → part ≡ key_stream key (bytes_of j) first (length (take m pad) / 16)
    → t ≡ xor_bytes batch (take (length batch) (part ++ drop m pad))
    → t ≡ xor_bytes batch (take (length batch) (key_stream key (bytes_of j) first 16))
batch_turned key j batch pad first m {part} {t} few blocks room most fits ep et =
    let n = length batch in
    let rest = drop m pad in
    let size : length (take m pad) ≡ m = length-take-le m pad fits in
    let s = key_stream key (bytes_of j) first (m / 16) in
    let count : length (take m pad) / 16 ≡ m / 16 = ap (λ (x : ℕ). x / 16) size in
    let size-s : length s ≡ 16 * (m / 16) = length_stream key (bytes_of j) first (m / 16) in
    et
    ∙ ap (λ (x : List ℕ). xor_bytes batch (take n (x ++ rest))) (ep ∙ ap (key_stream key (bytes_of j) first) count)
    ∙ ap (xor_bytes batch)
    (take-append-le n s rest (omega arith) ∙ stream_begins key (bytes_of j) first n (m / 16) 16 (omega arith) (omega arith))

-- ---- a text turned

-- y is the text turned, and out has got its bytes before a place
pub record Turning (y out : List ℕ) (place : ℕ) (mid : List ℕ) : Type 0 where
  pub size : length mid ≡ length out
  pub is : mid ≡ sets out 0 (take place y)

-- what a chunk and what is left behind it are, where what was left before it is the text from a place on
pub chunk_of : (text : List ℕ) (place : ℕ) {left x after : List ℕ} → left ≡ drop place text → left ≡ x ++ after → length x ≡ min 256 (length left)
    → (x ≡ take 256 (drop place text)) × (after ≡ drop (place + 256) text)
chunk_of text place {left} {x} {after} el ex size =
    let chunk : x ≡ take 256 left =
    sym (take_at x after (length x) refl)
    ∙ ap (λ (s : List ℕ). take (length x) s) (sym ex)
    ∙ ap (λ (k : ℕ). take k left) size
    ∙ take_min 256 left
    in
    let others : after ≡ drop 256 left =
    sym (drop_at x after (length x) refl)
    ∙ ap (λ (s : List ℕ). drop (length x) s) (sym ex)
    ∙ ap (λ (k : ℕ). drop k left) size
    ∙ drop_min 256 left
    in
    (chunk ∙ ap (take 256) el, others ∙ ap (drop 256) el ∙ drop-drop 256 place text)

-- after i batches one more: x is the chunk, t what was written at its place
pub turning_next : (key : List ℕ) (j : Block) (text : List ℕ) (i k : ℕ) {out mid x t : List ℕ}
    → Turning (GCTR key (inc32 (bytes_of j)) text) out (256 * i) mid → length out ≡ length text → 256 * i ≤ length text → k ≡ length x
    → x ≡ take 256 (drop (256 * i) text)
    → t ≡ xor_bytes x (take (length x) (key_stream key (bytes_of j) (256 * i / 16 + 1) 16))
    → Turning (GCTR key (inc32 (bytes_of j)) text) out (256 * (i + 1)) (take (256 * i) mid ++ (t ++ drop k (drop (256 * i) mid)))
turning_next key j text i k {out} {mid} {x} {t} r fits h ek ex et =
    let at = 256 * i in
    let y = GCTR key (inc32 (bytes_of j)) text in
    let size-y : length y ≡ length text = length-GCTR key (inc32 (bytes_of j)) text in
    let few : length x ≡ min 256 (length text - at) = ap length ex ∙ length-take 256 (drop at text) ∙ ap (min 256) (length-drop at text) in
    let chunk : x ≡ take (length x) (drop at text) =
    ex ∙ sym (take_min 256 (drop at text)) ∙ ap (λ (n : ℕ). take n (drop at text)) (omega (arith, few, length-drop at text))
    in
    let turned : t ≡ take 256 (drop at y) =
    et
    ∙ ap (λ (s : List ℕ). xor_bytes s (take (length x) (key_stream key (bytes_of j) (at / 16 + 1) 16))) chunk
    ∙ turned_part key j text at (length x) 16 (omega arith) (omega arith) (omega arith)
    ∙ ap (λ (n : ℕ). take n (drop at y)) (omega (arith, few, size-y, length-drop at y))
    ∙ take_min 256 (drop at y)
    in
    let size-t : length t ≡ length x = ap length turned ∙ length-take 256 (drop at y) ∙ omega (arith, few, size-y, length-drop at y) in
    let put : take at mid ++ (t ++ drop k (drop at mid)) ≡ sets mid at t =
    sym (append_assoc (take at mid) t (drop k (drop at mid)))
    ∙ ap (λ (s : List ℕ). take at mid ++ t ++ s) (drop-drop k at mid ∙ ap (λ (n : ℕ). drop n mid) (omega arith))
    ∙ sym (sets-eq t mid at (omega (arith, r.size)))
    in
    let place : 0 + length (take at y) ≡ at = zero-add _ ∙ length-take-le at y (omega arith) in
    let next : at + 256 ≡ 256 * (i + 1) = omega arith in
    record {
      size = ap length put ∙ length-sets mid at t ∙ r.size;
      is =
          put
          ∙ ap₂ (λ (s u : List ℕ). sets s at u) r.is turned
          ∙ ap (λ (n : ℕ). sets (sets out 0 (take at y)) n (take 256 (drop at y))) (sym place)
          ∙ sets-append out 0 (take at y) (take 256 (drop at y))
          ∙ ap (sets out 0) (sym (take-add at 256 y) ∙ ap (λ (n : ℕ). take n y) next);
    }

-- and at the end all is
pub turning_done : {y out mid : List ℕ} {place : ℕ} → Turning y out place mid → length y ≤ place → length out ≡ length y → mid ≡ y
turning_done {y} {out} {mid} {place} r h l = r.is ∙ ap (sets out 0) (take_all place y h) ∙ sets_whole out y l
