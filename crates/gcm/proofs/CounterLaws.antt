-- Counter blocks and GCTR: a counter block by its number, the key stream of a batch as code makes it, and GCTR as the text and the key stream
-- added byte by byte, so that GCTR undoes itself. They rest on the laws of strings (`Strings`) and on the field's of bytes.
use mathlib.Core.Path.{◌≡◌, refl, sym, ap, ap₂, ◌∙◌}
use mathlib.Core.List.{List, [], ◌++◌}
use Prim.Native.Nat.{ℕ, zero, suc, ◌+◌, ◌*◌, ◌/◌, ◌%◌, ◌^◌, ◌≤◌, ◌<◌}
use native.Mathlib.Nat.{zero-add, mod-eq_of_lt}
use native.Mathlib.Omega.{arith}
use lib.Bits.{bit_xor}
use lib.ListN.{length, get_or, take, drop, length-append, length-drop}
use lib.Seq.{take_all, take_at, take-append-add, take-add, length-take-le, get_or-take, get_or-drop, ext_get_or}
use Rattle.cipher.specs.Aes.{rows_of, aes, each_block}
use Rattle.cipher.proofs.ManyBlocks.{length_each, block-aes, one_block}
use Rattle.field.specs.declared.blocks.Block.{Block}
use Rattle.field.specs.Field.{number, bytes, xor_bytes, value, Small, block_at, bytes_of, blocks}
use Rattle.field.proofs.Bytes.{number-append_right, number-bytes, length-bytes, bytes-append}
use Rattle.field.proofs.Values.{value-small}
use Rattle.field.proofs.BlockAt.{length-block_bytes, bytes_of-value, bytes_of_whole}
use Rattle.field.proofs.BlockCounts.{blocks-value, le-blocks}
use Rattle.field.proofs.XorBytes.{length-xor, xor_bytes-comm, xor_bytes-self, xor_bytes-cancel, xor_bytes-append, get_d_bits}
use Rattle.gcm.specs.Gmac.{CIPH}
use Rattle.gcm.specs.Counters.{inc32, CB, X, Y, concatenated, GCTR}
use Rattle.gcm.specs.Clauses.{counters, key_stream}
use Rattle.gcm.proofs.Strings.{by_blocks, length-concatenated, block_of, get_d_concatenated}

-- ---- counter blocks

-- of a block's bytes, the last four as a number rise
inc32-bytes : (a c : ℕ) → c < 2 ^ 32 → inc32 (bytes 16 (a * 2 ^ 32 + c)) ≡ bytes 16 (a * 2 ^ 32 + (c + 1) % 2 ^ 32)
unfolding inc32
inc32-bytes a c h =
    let front = length-bytes 12 a in
    let parts : bytes 16 (a * 2 ^ 32 + c) ≡ bytes 12 a ++ bytes 4 c = bytes-append 12 4 a c h in
    let place : 12 ≡ length (bytes 12 a) + 0 = omega (arith, front) in
    let last : number (bytes 12 a ++ bytes 4 c) 12 4 ≡ c =
    ap (λ (i : ℕ). number (bytes 12 a ++ bytes 4 c) i 4) place
    ∙ number-append_right (bytes 12 a) (bytes 4 c) 0 4
    ∙ number-bytes 4 c
    ∙ mod-eq_of_lt h
    in
    ap₂ (λ (s : List ℕ) (v : ℕ). s ++ bytes 4 ((v + 1) % 2 ^ 32)) (ap (take 12) parts ∙ take_at (bytes 12 a) (bytes 4 c) 12 front)
    (ap (λ (s : List ℕ). number s 12 4) parts ∙ last)
    ∙ sym (bytes-append 12 4 a ((c + 1) % 2 ^ 32) (omega arith))

-- i steps behind a block
CB-bytes : (v i : ℕ) → CB (bytes 16 v) i ≡ bytes 16 (v / 2 ^ 32 * 2 ^ 32 + (v % 2 ^ 32 + i) % 2 ^ 32)
unfolding CB
CB-bytes v zero = ap (bytes 16) (omega arith)
CB-bytes v (suc i) =
    let again : ((v % 2 ^ 32 + i) % 2 ^ 32 + 1) % 2 ^ 32 ≡ (v % 2 ^ 32 + suc i) % 2 ^ 32 = omega arith in
    ap inc32 (CB-bytes v i)
    ∙ inc32-bytes (v / 2 ^ 32) ((v % 2 ^ 32 + i) % 2 ^ 32) (omega arith)
    ∙ ap (λ (x : ℕ). bytes 16 (v / 2 ^ 32 * 2 ^ 32 + x)) again

-- so code gets it, from a block's words
pub counter_of : (j r : Block) (i : ℕ) → Small j → r.hi ≡ j.hi → r.lo ≡ j.lo / 2 ^ 32 * 2 ^ 32 + (j.lo % 2 ^ 32 + i) % 2 ^ 32
    → bytes_of r ≡ CB (bytes_of j) i
counter_of j r i small eh el =
    let fits : r.lo < 2 ^ 64 = omega (arith, small.lo) in
    let number_of : value r ≡ value j / 2 ^ 32 * 2 ^ 32 + (value j % 2 ^ 32 + i) % 2 ^ 32 =
    rw (value-small r (record { hi = rw eh small.hi; lo = fits }), value-small j small, eh) (omega (arith, el))
    in
    bytes_of-value r ∙ ap (bytes 16) number_of ∙ sym (CB-bytes (value j) i) ∙ ap (λ (s : List ℕ). CB s i) (sym (bytes_of-value j))

length-CB : (j : Block) (i : ℕ) → length (CB (bytes_of j) i) ≡ 16
length-CB j i = ap length (ap (λ (s : List ℕ). CB s i) (bytes_of-value j) ∙ CB-bytes (value j) i) ∙ length-bytes 16 _

-- behind the block after another
pub CB_next : (icb : List ℕ) (i : ℕ) → CB (inc32 icb) i ≡ CB icb (suc i)
unfolding CB
CB_next icb zero = refl
CB_next icb (suc i) = ap inc32 (CB_next icb i)

-- ---- the key stream of a batch

-- the cipher of a block, as a block, where the rows are those of the key
pub ciphered_of : (key x : List ℕ) {rows : List (List ℕ)} {t : List ℕ} {r : Block} → rows ≡ rows_of key → length x ≡ 16 → t ≡ each_block rows x
    → r ≡ block_at t 0 → r ≡ CIPH key x
ciphered_of key x e l et er = er ∙ ap (λ (s : List ℕ). block_at s 0) (et ∙ one_block key x e l)

-- one counter block more behind n of them
pub counters_more : (icb : List ℕ) (first n : ℕ) → counters icb first n ++ CB icb (first + n) ≡ counters icb first (suc n)
unfolding counters concatenated
counters_more icb first n = refl

module _ (key icb : List ℕ) (first n : ℕ) where
  length_cipher : (i : ℕ) → length (bytes_of (CIPH key (CB icb (first + i)))) ≡ 16
  length_cipher i = length-block_bytes (CIPH key (CB icb (first + i)))

  pub length_stream : length (key_stream key icb first n) ≡ 16 * n
  unfolding key_stream
  length_stream = length-concatenated _ length_cipher n

  -- byte k is byte k mod 16 of the cipher of block k / 16
  get_d_stream : (k : ℕ) → k < 16 * n → get_or (key_stream key icb first n) k 0 ≡ get_or (bytes_of (CIPH key (CB icb (first + k / 16)))) (k % 16) 0
  unfolding key_stream
  get_d_stream k l = get_d_concatenated _ length_cipher n k l

-- its first n bytes are those of a longer one
pub stream_begins : (key icb : List ℕ) (first n a b : ℕ) → n ≤ 16 * a → n ≤ 16 * b
    → take n (key_stream key icb first a) ≡ take n (key_stream key icb first b)
stream_begins key icb first n a b ha hb =
    let s = key_stream key icb first a in
    let t = key_stream key icb first b in
    let size-s : length (take n s) ≡ n = length-take-le n s (omega (arith, length_stream key icb first a)) in
    let size-t : length (take n t) ≡ n = length-take-le n t (omega (arith, length_stream key icb first b)) in
    ext_get_or 0 _ _ (size-s ∙ sym size-t)
    (λ k l.
    let few : k < n = omega arith in
    get_or-take n s k 0 few
    ∙ get_d_stream key icb first a k (omega arith)
    ∙ sym (get_or-take n t k 0 few ∙ get_d_stream key icb first b k (omega arith)))

-- so code makes it: s are the counter blocks, and t, which are bytes, their ciphers
pub stream_of : (key : List ℕ) (j : Block) (first n : ℕ) {rows : List (List ℕ)} {s t : List ℕ} → rows ≡ rows_of key
    → s ≡ counters (bytes_of j) first n → t ≡ each_block rows s → ((i : ℕ) → i < length t → get_or t i 0 < 256)
    → t ≡ key_stream key (bytes_of j) first n
unfolding counters key_stream
stream_of key j first n {rows} {s} {t} e es et small =
    let icb = bytes_of j in
    let sixteen : (i : ℕ) → length (CB icb (first + i)) ≡ 16 = λ i. length-CB j (first + i) in
    let size-s : length s ≡ 16 * n = ap length es ∙ length-concatenated _ sixteen n in
    let size : length t ≡ 16 * n = ap length et ∙ length_each rows s ∙ size-s in
    let at : (i : ℕ) → i < n → take 16 (drop (16 * i) t) ≡ bytes_of (CIPH key (CB icb (first + i))) =
    λ i l.
    let u = take 16 (drop (16 * i) t) in
    let size-u : length u ≡ 16 = length-take-le 16 (drop (16 * i) t) (rw length-drop (omega arith)) in
    let small-u : (k : ℕ) → k < length u → get_or u k 0 < 256 =
    λ k h.
    let read : get_or u k 0 ≡ get_or t (16 * i + k) 0 = get_or-take 16 (drop (16 * i) t) k 0 (omega arith) ∙ get_or-drop (16 * i) t k 0 in
    rw read (small (16 * i + k) (omega arith))
    in
    let ciphers : u ≡ aes key (CB icb (first + i)) =
    ap (λ (x : List ℕ). take 16 (drop (16 * i) x)) et
    ∙ block-aes key s e i (omega arith)
    ∙ ap (aes key) (ap (λ (x : List ℕ). take 16 (drop (16 * i) x)) es ∙ block_of _ sixteen n i l)
    in
    sym (bytes_of_whole u size-u small-u refl) ∙ ap (λ (x : List ℕ). bytes_of (block_at x 0)) ciphers
    in
    sym (take_all (16 * n) t (omega arith)) ∙ by_blocks _ n t at

-- ---- GCTR

-- one block more, with the key stream up to it
stream_more : (key icb : List ℕ) (n : ℕ) → key_stream key icb 0 (suc n) ≡ key_stream key icb 0 n ++ bytes_of (CIPH key (CB icb n))
unfolding key_stream concatenated
stream_more key icb n = ap (λ (i : ℕ). key_stream key icb 0 n ++ bytes_of (CIPH key (CB icb i))) (zero-add n)

-- its first n blocks: the text and the key stream added, up to the text's end
turned-blocks : (key icb x : List ℕ) (n : ℕ) → 16 * n < length x + 16
    → concatenated (Y key icb x) n ≡ xor_bytes (take (16 * n) x) (take (length (take (16 * n) x)) (key_stream key icb 0 n))
unfolding concatenated Y X
turned-blocks key icb x zero h = sym (xor_bytes-self [])
turned-blocks key icb x (suc n) h =
    let a = take (16 * n) x in
    let b = take 16 (drop (16 * n) x) in
    let s = key_stream key icb 0 n in
    let c = bytes_of (CIPH key (CB icb n)) in
    let next : 16 * suc n ≡ 16 * n + 16 = omega arith in
    let parts : take (16 * suc n) x ≡ a ++ b = ap (λ (k : ℕ). take k x) next ∙ take-add (16 * n) 16 x in
    let size : length a ≡ length s = length-take-le (16 * n) x (omega arith) ∙ sym (length_stream key icb 0 n) in
    let whole : take (length a) s ≡ s = take_all (length a) s (omega arith) in
    let behind : take (length (a ++ b)) (key_stream key icb 0 (suc n)) ≡ s ++ take (length b) c =
    ap₂ (λ (k : ℕ) (l : List ℕ). take k l) (length-append a b ∙ ap (λ (k : ℕ). k + length b) size) (stream_more key icb n)
    ∙ take-append-add s c (length b)
    in
    ap (λ (l : List ℕ). l ++ xor_bytes b (take (length b) c)) (turned-blocks key icb x n (omega arith) ∙ ap (xor_bytes a) whole)
    ∙ sym (xor_bytes-append a b s (take (length b) c) size)
    ∙ ap (xor_bytes (a ++ b)) (sym behind)
    ∙ ap (λ (l : List ℕ). xor_bytes l (take (length l) (key_stream key icb 0 (suc n)))) (sym parts)

-- GCTR is the text and the key stream added
pub GCTR_stream : (key icb x : List ℕ) → GCTR key icb x ≡ xor_bytes x (take (length x) (key_stream key icb 0 (blocks (length x))))
unfolding GCTR
GCTR_stream key icb x =
    let all : take (16 * blocks (length x)) x ≡ x = take_all (16 * blocks (length x)) x (le-blocks (length x)) in
    turned-blocks key icb x (blocks (length x)) (omega (arith, blocks-value (length x)))
    ∙ ap (λ (s : List ℕ). xor_bytes s (take (length s) (key_stream key icb 0 (blocks (length x))))) all

length_taken : (key icb x : List ℕ) → length (take (length x) (key_stream key icb 0 (blocks (length x)))) ≡ length x
length_taken key icb x =
    length-take-le (length x) _ (omega (arith, length_stream key icb 0 (blocks (length x)), le-blocks (length x)))

-- as long as the text
pub length-GCTR : (key icb x : List ℕ) → length (GCTR key icb x) ≡ length x
length-GCTR key icb x = ap length (GCTR_stream key icb x) ∙ length-xor x _ (sym (length_taken key icb x))

-- and GCTR of it is the text again
pub GCTR-twice : (key icb x : List ℕ) → GCTR key icb (GCTR key icb x) ≡ x
GCTR-twice key icb x =
    let y = GCTR key icb x in
    let s = take (length x) (key_stream key icb 0 (blocks (length x))) in
    GCTR_stream key icb y
    ∙ ap (λ (n : ℕ). xor_bytes y (take n (key_stream key icb 0 (blocks n)))) (length-GCTR key icb x)
    ∙ xor_bytes-comm y s
    ∙ ap (xor_bytes s) (GCTR_stream key icb x ∙ xor_bytes-comm x s)
    ∙ xor_bytes-cancel s x (omega (arith, length_taken key icb x))

-- its bytes
get_d_GCTR : (key icb x : List ℕ) (k : ℕ) → k < length x
    → get_or (GCTR key icb x) k 0 ≡ bit_xor (get_or x k 0) (get_or (bytes_of (CIPH key (CB icb (k / 16)))) (k % 16) 0)
get_d_GCTR key icb x k h =
    let s = key_stream key icb 0 (blocks (length x)) in
    ap (λ (l : List ℕ). get_or l k 0) (GCTR_stream key icb x)
    ∙ get_d_bits x (take (length x) s) k
    ∙ ap (bit_xor (get_or x k 0))
    (get_or-take (length x) s k 0 h
    ∙ get_d_stream key icb 0 (blocks (length x)) k (omega (arith, le-blocks (length x)))
    ∙ ap (λ (i : ℕ). get_or (bytes_of (CIPH key (CB icb i))) (k % 16) 0) (zero-add (k / 16)))

-- so code makes n bytes of it from a place on that is a block's: the text there and as much of b blocks of the key stream, which begins behind j
pub turned_part : (key : List ℕ) (j : Block) (text : List ℕ) (place n b : ℕ) → place % 16 ≡ 0 → place + n ≤ length text → n ≤ 16 * b
    → xor_bytes (take n (drop place text)) (take n (key_stream key (bytes_of j) (place / 16 + 1) b))
    ≡ take n (drop place (GCTR key (inc32 (bytes_of j)) text))
turned_part key j text place n b m h room =
    let icb = bytes_of j in
    let x = take n (drop place text) in
    let s = key_stream key icb (place / 16 + 1) b in
    let y = GCTR key (inc32 icb) text in
    let size-x : length x ≡ n = length-take-le n (drop place text) (rw length-drop (omega arith)) in
    let size-s : length (take n s) ≡ n =
    length-take-le n s (omega (arith, length_stream key icb (place / 16 + 1) b))
    in
    let size-y : length (take n (drop place y)) ≡ n =
    length-take-le n (drop place y) (rw length-drop (omega (arith, length-GCTR key (inc32 icb) text)))
    in
    let size = length-xor x (take n s) (size-x ∙ sym size-s) in
    ext_get_or 0 _ _ (size ∙ size-x ∙ sym size-y)
    (λ k l.
    let few : k < n = omega arith in
    let block : suc ((place + k) / 16) ≡ place / 16 + 1 + k / 16 = omega arith in
    let byte : (place + k) % 16 ≡ k % 16 = omega arith in
    get_d_bits x (take n s) k
    ∙ ap₂ bit_xor (get_or-take n (drop place text) k 0 few ∙ get_or-drop place text k 0)
    (get_or-take n s k 0 few ∙ get_d_stream key icb (place / 16 + 1) b k (omega arith))
    ∙ sym
    (get_or-take n (drop place y) k 0 few
    ∙ get_or-drop place y k 0
    ∙ get_d_GCTR key (inc32 icb) text (place + k) (omega arith)
    ∙ ap₂ (λ (l : List ℕ) (i : ℕ). bit_xor (get_or text (place + k) 0) (get_or (bytes_of (CIPH key l)) i 0))
    (CB_next icb ((place + k) / 16) ∙ ap (CB icb) block) byte))
