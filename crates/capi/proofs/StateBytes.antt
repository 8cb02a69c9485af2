-- The state's 84 bytes: what the code reads and writes, field by field, and that both undo each other. They rest on the field's laws of
-- numbers and blocks as bytes and on the file keeper's of stores.
use mathlib.Core.Path.{◌≡◌, refl, sym, ap, ap₂, ◌∙◌}
use mathlib.Core.List.{List, [], ◌++◌, append-nil, append_assoc}
use Prim.Native.Nat.{ℕ, ◌+◌, ◌*◌, ◌^◌, ◌<◌}
use native.Mathlib.Nat.{mod-eq_of_lt}
use native.Mathlib.Omega.{arith}
use lib.ListN.{length, get_or, take, drop, length-append}
use lib.Seq.{sets, length-take-le, take_all, take_at, take-add}
use Rattle.cipher.specs.declared.keys.Key.{Key}
use Rattle.field.specs.declared.blocks.Block.{Block}
use Rattle.field.specs.Field.{number, bytes, block_at, bytes_of, Small}
use Rattle.field.proofs.Bytes.{number-bytes, number-append_left, number-append_right, length-bytes, bytes-number}
use Rattle.field.proofs.BlockAt.{block_at-append_left, block_at-append_right, block_at-bytes_of, length-block_bytes, bytes_of-block_at}
use Rattle.file.specs.declared.states.State.{State}
use Rattle.field.proofs.Stores.{stored-none, stored-list, stored_next, stored-all}
use Rattle.capi.specs.Bytes.{state_bytes, packed_state, state_from}

-- a list of bytes
abbrev pub AllBytes : List ℕ → Type 0
AllBytes s = (j : ℕ) → j < length s → get_or s j 0 < 256

-- ---- what the code does

-- the key's bytes are there
pub key-size : (b : List ℕ) → length b ≡ state_bytes → length (take 16 b) ≡ 16
key-size b l = length-take-le 16 b (omega arith)

-- the fields as they are read are the state
pub decoded : (b : List ℕ) {key : Key} {h i s : Block} {n arm last : ℕ} → key.bytes ≡ take 16 b → h ≡ block_at b 1 → i ≡ block_at b 2
    → s ≡ block_at b 3 → n ≡ number b 64 8 → arm ≡ number b 72 4 → last ≡ number b 76 8
    → ◌≡◌ {A = State} (record { key = key; h = h; i = i; s = s; n = n; arm = arm; last = last }) (state_from b)
unfolding state_from
decoded b ek eh ei es en ea el =
    λ j. record { key = record { bytes = ek j }; h = eh j; i = ei j; s = es j; n = en j; arm = ea j; last = el j }

-- the fields stored one behind the other are the state's bytes: a after the first store, and so on to g
pub encoded : (st : State) (out : List ℕ) {a b c d e f g : List ℕ} → length out ≡ state_bytes → length st.key.bytes ≡ 16
    → a ≡ sets out 0 st.key.bytes → b ≡ sets a 16 (bytes_of st.h) → c ≡ sets b 32 (bytes_of st.i) → d ≡ sets c 48 (bytes_of st.s)
    → e ≡ sets d 64 (bytes 8 st.n) → f ≡ sets e 72 (bytes 4 st.arm) → g ≡ sets f 76 (bytes 8 st.last) → g ≡ packed_state st
unfolding packed_state
encoded st out l lk ea eb ec ed ee ef eg =
    let key = stored-list st.key.bytes 16 lk (stored-none out 0) ea in
    let h = stored-list (bytes_of st.h) 16 (length-block_bytes st.h) key eb in
    let i = stored-list (bytes_of st.i) 16 (length-block_bytes st.i) h ec in
    let s = stored-list (bytes_of st.s) 16 (length-block_bytes st.s) i ed in
    stored-all (stored_next 8 st.last (stored_next 4 st.arm (stored_next 8 st.n s ee) ef) eg) l

-- ---- the round trip

-- every field has room in its bytes; the fields of every state that code holds do
pub record HasRoom (st : State) : Type 0 where
  pub key : length st.key.bytes ≡ 16
  pub h : Small st.h
  pub i : Small st.i
  pub s : Small st.s
  pub n : st.n < 2 ^ 64
  pub arm : st.arm < 2 ^ 32
  pub last : st.last < 2 ^ 64

-- and the state then takes `state_bytes` bytes
pub packed-length : (st : State) → HasRoom st → length (packed_state st) ≡ state_bytes
unfolding packed_state
packed-length st room = simp (length-append, length-block_bytes, length-bytes, room.key)

-- a block, and a number of k bytes, that stand behind a list and before another
block-between : (p t : List ℕ) (b : Block) (i : ℕ) → length p ≡ 16 * i → Small b → block_at (p ++ bytes_of b ++ t) i ≡ b
block-between p t b i l small =
    let size : length (p ++ bytes_of b) ≡ 16 * i + 16 = length-append p (bytes_of b) ∙ ap₂ ◌+◌ l (length-block_bytes b) in
    let place : i + 0 ≡ i = omega arith in
    block_at-append_left (p ++ bytes_of b) t i (omega arith)
    ∙ ap (block_at (p ++ bytes_of b)) (sym place)
    ∙ block_at-append_right p (bytes_of b) i 0 l
    ∙ block_at-bytes_of b small

number-between : (p t : List ℕ) (at k v : ℕ) → length p ≡ at → v < 256 ^ k → number (p ++ bytes k v ++ t) at k ≡ v
number-between p t at k v l small =
    let size : length (p ++ bytes k v) ≡ at + k = length-append p (bytes k v) ∙ ap₂ ◌+◌ l (length-bytes k v) in
    let place : at ≡ length p + 0 = omega arith in
    number-append_left (p ++ bytes k v) t at k (omega arith)
    ∙ ap (λ (x : ℕ). number (p ++ bytes k v) x k) place
    ∙ number-append_right p (bytes k v) 0 k
    ∙ number-bytes k v
    ∙ mod-eq_of_lt small

-- what is written of a state is read as that state
pub state-back : (st : State) → HasRoom st → state_from (packed_state st) ≡ st
unfolding packed_state
state-back st room =
    let k = st.key.bytes in
    let h = bytes_of st.h in
    let i = bytes_of st.i in
    let s = bytes_of st.s in
    let n = bytes 8 st.n in
    let arm = bytes 4 st.arm in
    let last = bytes 8 st.last in
    let lh : length (k ++ h) ≡ 32 = length-append k h ∙ ap₂ ◌+◌ room.key (length-block_bytes st.h) in
    let li : length (k ++ h ++ i) ≡ 48 = length-append (k ++ h) i ∙ ap₂ ◌+◌ lh (length-block_bytes st.i) in
    let ls : length (k ++ h ++ i ++ s) ≡ 64 = length-append (k ++ h ++ i) s ∙ ap₂ ◌+◌ li (length-block_bytes st.s) in
    let ln : length (k ++ h ++ i ++ s ++ n) ≡ 72 = length-append (k ++ h ++ i ++ s) n ∙ ap₂ ◌+◌ ls (length-bytes 8 st.n) in
    let la : length (k ++ h ++ i ++ s ++ n ++ arm) ≡ 76 = length-append (k ++ h ++ i ++ s ++ n) arm ∙ ap₂ ◌+◌ ln (length-bytes 4 st.arm) in
    let all = k ++ h ++ i ++ s ++ n ++ arm ++ last in
    let at_key : all ≡ k ++ (h ++ (i ++ (s ++ (n ++ (arm ++ last))))) = simp append_assoc in
    let at-h : all ≡ k ++ h ++ (i ++ (s ++ (n ++ (arm ++ last)))) = simp append_assoc in
    let at_i : all ≡ k ++ h ++ i ++ (s ++ (n ++ (arm ++ last))) = simp append_assoc in
    let at-s : all ≡ k ++ h ++ i ++ s ++ (n ++ (arm ++ last)) = simp append_assoc in
    let at_n : all ≡ k ++ h ++ i ++ s ++ n ++ (arm ++ last) = simp append_assoc in
    sym
    (decoded all
    (sym (ap (take 16) at_key ∙ take_at k _ 16 room.key))
    (sym (ap (λ (x : List ℕ). block_at x 1) at-h ∙ block-between k _ st.h 1 room.key room.h))
    (sym (ap (λ (x : List ℕ). block_at x 2) at_i ∙ block-between (k ++ h) _ st.i 2 lh room.i))
    (sym (ap (λ (x : List ℕ). block_at x 3) at-s ∙ block-between (k ++ h ++ i) _ st.s 3 li room.s))
    (sym (ap (λ (x : List ℕ). number x 64 8) at_n ∙ number-between (k ++ h ++ i ++ s) _ 64 8 st.n ls room.n))
    (sym (number-between (k ++ h ++ i ++ s ++ n) last 72 4 st.arm ln room.arm))
    (sym
    (ap (λ (x : List ℕ). number x 76 8) (sym (append-nil all))
    ∙ number-between (k ++ h ++ i ++ s ++ n ++ arm) [] 76 8 st.last la room.last)))

-- the first n elements of a list, and the next m
join : (l : List ℕ) (n m : ℕ) {p q : List ℕ} → p ≡ take n l → q ≡ take m (drop n l) → p ++ q ≡ take (n + m) l
join l n m e f = ap₂ ◌++◌ e f ∙ sym (take-add n m l)

-- what is read of `state_bytes` bytes is written as those bytes
pub bytes_back : (b : List ℕ) → length b ≡ state_bytes → AllBytes b → packed_state (state_from b) ≡ b
unfolding packed_state state_from
bytes_back b l small =
    let h = join b 16 16 refl (bytes_of-block_at b 1 small (omega arith)) in
    let i = join b 32 16 h (bytes_of-block_at b 2 small (omega arith)) in
    let s = join b 48 16 i (bytes_of-block_at b 3 small (omega arith)) in
    let n = join b 64 8 s (bytes-number b 64 8 small (omega arith)) in
    let arm = join b 72 4 n (bytes-number b 72 4 small (omega arith)) in
    join b 76 8 arm (bytes-number b 76 8 small (omega arith)) ∙ take_all 84 b (omega arith)
