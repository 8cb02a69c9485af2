-- Sixteen states in four sets of planes, one for each row (specs/Clauses, state_in): what a step does in every lane of each row is what FIPS 197's
-- does to each state.
use mathlib.Core.Path.{◌≡◌, refl, sym, ap, ap₂, ◌∙◌}
use mathlib.Core.List.{List, [], ◌∷◌, ◌++◌}
use Prim.Native.Nat.{ℕ, zero, suc, ◌+◌, ◌-◌, ◌*◌, ◌/◌, ◌%◌, ◌≤◌, ◌<◌}
use native.Mathlib.Omega.{arith}
use lib.ListN.{length, take, drop, length-drop}
use lib.Seq.{length-take-le, get_or-take, get_or-drop, ext_get_or}
use Rattle.planes.specs.Tables.{tab, at}
use Rattle.planes.specs.Planes.{xor, sbox, lane, Shows, byte_of}
use Rattle.planes.specs.declared.Planes.{Planes}
use Rattle.planes.proofs.Tables.{length-tab, get_d_tab, tab-ext}
use Rattle.cipher.specs.Rounds.{SubBytes, ShiftRows, mixed, mixed_entry, MixColumns, AddRoundKey}
use Rattle.cipher.specs.Cipher.{Cipher, each_block}
use Rattle.cipher.specs.Clauses.{row_in, state_in}
use Rattle.cipher.proofs.Whole.{tab_at}
use Rattle.cipher.proofs.ManyBlocks.{Replaced, replaced_start, replaced_next, replaced_done}

-- a byte of a state, by its place
at_state : (q : List Planes) (b y r l : ℕ) → y < 16 → y % 4 ≡ r → 16 * (y / 4) + b ≡ l → at (state_in q b) y ≡ lane (row_in q r) l
unfolding state_in
at_state q b y r l h er el = get_d_tab 16 _ y 0 h ∙ ap₂ (λ (r l : ℕ). lane (row_in q r) l) er el

-- r columns on, in the same block
columns_on : (c r b : ℕ) → b < 16 → 16 * ((c + r) % 4) + b ≡ (16 * c + b + 16 * r) % 64
columns_on c r b h = omega arith

-- a list of sixteen bytes from a place on
pub sixteen_at : (s : List ℕ) (place : ℕ) → place + 16 ≤ length s → tab 16 (λ i. at s (place + i)) ≡ take 16 (drop place s)
sixteen_at s place h =
    ext_get_or 0 _ _ (length-tab 16 _ ∙ sym (length-take-le 16 (drop place s) (rw length-drop (omega arith))))
    (λ i l.
    let few : i < 16 = omega (arith, length-tab 16 (λ i. at s (place + i))) in
    get_d_tab 16 _ i 0 few ∙ sym (get_or-take 16 (drop place s) i 0 few ∙ get_or-drop place s i 0))

-- each of the four rows
pub four : (P : ℕ → Type 0) → P 0 → P 1 → P 2 → P 3 → (r : ℕ) → r < 4 → P r
four P a b c d zero h = a
four P a b c d (suc zero) h = b
four P a b c d (suc (suc zero)) h = c
four P a b c d (suc (suc (suc zero))) h = d
four P a b c d (suc (suc (suc (suc r)))) h = absurd (omega arith)

-- what each row holds of the states x, in every lane
abbrev pub Rows : List Planes → (ℕ → ℕ → ℕ) → Type 0
Rows x f = (r : ℕ) → r < 4 → Shows (row_in x r) (f r)

-- block b
module _ (x : List Planes) (b : ℕ) (h : b < 16) where
  -- its state, by what the rows hold
  state_by : (f : ℕ → ℕ → ℕ) → Rows x f → state_in x b ≡ tab 16 (λ i. f (i % 4) (16 * (i / 4) + b))
  unfolding state_in
  state_by f held = tab-ext 16 _ _ (λ i l. held (i % 4) (omega arith) (16 * (i / 4) + b) (omega arith))

  pub state-packed : (s : List ℕ) → length s ≡ 256 → Rows x (λ r l. at s (16 * (l % 16) + (4 * (l / 16) + r))) → state_in x b ≡ take 16 (drop (16 * b) s)
  state-packed s e held =
      state_by _ held ∙ tab-ext 16 _ (λ i. at s (16 * b + i)) (λ i l. ap (at s) (omega arith)) ∙ sixteen_at s (16 * b) (omega arith)

  pub state-sum : (q : List Planes) (k : List ℕ) → Rows x (λ r l. xor (lane (row_in q r) l) (at k (4 * (l / 16) + r)))
      → state_in x b ≡ AddRoundKey (state_in q b) k
  unfolding AddRoundKey
  state-sum q k held =
      state_by _ held ∙ tab-ext 16 _ _ (λ i l. ap₂ xor (sym (at_state q b i (i % 4) (16 * (i / 4) + b) l refl refl)) (ap (at k) (omega arith)))

  pub state-shift : (q : List Planes) → Rows x (λ r l. sbox (lane (row_in q r) ((l + 16 * r) % 64))) → state_in x b ≡ ShiftRows (SubBytes (state_in q b))
  unfolding ShiftRows SubBytes
  state-shift q held =
      state_by _ held
      ∙ tab-ext 16 _ _ (λ i l.
      let from = i % 4 + 4 * ((i / 4 + i % 4) % 4) in
      let column : from / 4 ≡ (i / 4 + i % 4) % 4 = omega arith in
      sym
      (get_d_tab 16 (λ y. sbox (at (state_in q b) y)) from 0 (omega arith)
      ∙ ap sbox (at_state q b from (i % 4) ((16 * (i / 4) + b + 16 * (i % 4)) % 64) (omega arith) (omega arith)
      (rw column (columns_on (i / 4) (i % 4) b h)))))

  pub state-mix : (q : List Planes)
      → Rows x (λ r l. mixed (lane (row_in q r) l) (lane (row_in q ((r + 1) % 4)) l) (lane (row_in q ((r + 2) % 4)) l) (lane (row_in q ((r + 3) % 4)) l))
      → state_in x b ≡ MixColumns (state_in q b)
  unfolding MixColumns mixed_entry
  state-mix q held =
      state_by _ held
      ∙ tab-ext 16 _ _ (λ i l.
      let row : (r : ℕ) → r < 4 → at (state_in q b) (r + 4 * (i / 4)) ≡ lane (row_in q r) (16 * (i / 4) + b) =
      λ r k. at_state q b (r + 4 * (i / 4)) r (16 * (i / 4) + b) (omega arith) (omega arith) (omega arith)
      in
      rw (row (i % 4) (omega arith), row ((i % 4 + 1) % 4) (omega arith), row ((i % 4 + 2) % 4) (omega arith), row ((i % 4 + 3) % 4) (omega arith)))

-- ---- blocks back from planes

-- the planes of row r are words w: byte p of word k is that in lane 8·p + k
abbrev pub Words : List Planes → ℕ → List ℕ → Type 0
Words q r w = (k p : ℕ) → k < 8 → p < 8 → byte_of (at w k) p ≡ lane (row_in q r) (8 * p + k)

-- block i, from a word of each row
unfoldable pub block_in : (a b c d : List ℕ) → ℕ → List ℕ
block_in a b c d i =
    tab 16 (λ j. byte_of (at (at a (i % 8) ∷ at b (i % 8) ∷ at c (i % 8) ∷ at d (i % 8) ∷ []) (j % 4)) (2 * (j / 4) + i / 8))

-- all sixteen, one behind the other
abbrev pub blocks_in : (a b c d : List ℕ) → List ℕ
blocks_in a b c d = tab 256 (λ j. at (block_in a b c d (j / 16)) (j % 16))

-- its byte from the word of row r
row-byte : (q : List Planes) (r : ℕ) (w : List ℕ) → Words q r w → (i l : ℕ) → i < 16 → l < 4
    → byte_of (at w (i % 8)) (2 * l + i / 8) ≡ lane (row_in q r) (16 * l + i)
row-byte q r w held i l h k = held (i % 8) (2 * l + i / 8) (omega arith) (omega arith) ∙ ap (lane (row_in q r)) (omega arith)

module _ (q : List Planes) (a b c d : List ℕ) (ea : Words q 0 a) (eb : Words q 1 b) (ec : Words q 2 c) (ed : Words q 3 d) where
  -- it is the block's state
  state-words : (i : ℕ) → i < 16 → block_in a b c d i ≡ state_in q i
  unfolding block_in state_in
  state-words i h =
      tab-ext 16 _ _ (λ j l.
      let k : j / 4 < 4 = omega arith in
      four
      (λ r. byte_of (at (at a (i % 8) ∷ at b (i % 8) ∷ at c (i % 8) ∷ at d (i % 8) ∷ []) r) (2 * (j / 4) + i / 8) ≡ lane (row_in q r) (16 * (j / 4) + i))
      (row-byte q 0 a ea i (j / 4) h k)
      (row-byte q 1 b eb i (j / 4) h k)
      (row-byte q 2 c ec i (j / 4) h k)
      (row-byte q 3 d ed i (j / 4) h k)
      (j % 4)
      (omega arith))

  pub states_words : blocks_in a b c d ≡ tab 256 (λ j. at (state_in q (j / 16)) (j % 16))
  states_words = tab-ext 256 _ _ (λ j l. ap (λ (t : List ℕ). at t (j % 16)) (state-words (j / 16) (omega arith)))

-- the loop that writes them, begun and one block on
module _ (a b c d : List ℕ) where
  size : length (blocks_in a b c d) ≡ 256
  size = length-tab 256 _

  -- block i stands behind i others
  block_behind : (i : ℕ) → i < 16 → take 16 (drop (16 * i) (blocks_in a b c d)) ≡ block_in a b c d i
  block_behind i h =
      sym (sixteen_at (blocks_in a b c d) (16 * i) (omega (arith, size)))
      ∙ tab-ext 16 _ (at (block_in a b c d i)) (λ j l.
      let block : (16 * i + j) / 16 ≡ i = omega arith in
      let byte : (16 * i + j) % 16 ≡ j = omega arith in
      get_d_tab 256 _ (16 * i + j) 0 (omega arith) ∙ rw (block, byte))
      ∙ tab_at 16 (block_in a b c d i) (unfold block_in in length-tab 16 _)

  pub blocks_start : (s : List ℕ) → length s ≡ 256 → Replaced (blocks_in a b c d) s 0 s
  blocks_start s e = replaced_start (blocks_in a b c d) s (size ∙ sym e)

  pub blocks_next : (i k : ℕ) {s t w : List ℕ} → Replaced (blocks_in a b c d) s (16 * i) t → i < 16 → k ≡ 16 * i + 16 - 16 * i → w ≡ block_in a b c d i
      → Replaced (blocks_in a b c d) s (16 * (i + 1)) (take (16 * i) t ++ (w ++ drop k (drop (16 * i) t)))
  blocks_next i k r h e ew =
      let k-is : k ≡ 16 = omega arith in
      replaced_next r k (16 * (i + 1)) (omega arith) (omega (arith, r.size, size)) (ew ∙ sym (block_behind i h) ∙ ap (λ (n : ℕ). take n (drop (16 * i) (blocks_in a b c d))) (sym k-is))

  pub blocks_done : (i : ℕ) {s t : List ℕ} → Replaced (blocks_in a b c d) s (16 * i) t → 16 ≤ i → t ≡ blocks_in a b c d
  blocks_done i r h = replaced_done r (omega (arith, r.size, size))

-- sixteen blocks are replaced where each state is its block's cipher
pub states_ciphered : (rows : List (List ℕ)) (s : List ℕ) (x : List Planes) → length s ≡ 256
    → ((b : ℕ) → b < 16 → state_in x b ≡ Cipher (length rows - 1) (take 16 (drop (16 * b) s)) rows)
    → tab 256 (λ i. at (state_in x (i / 16)) (i % 16)) ≡ each_block rows s
unfolding each_block
states_ciphered rows s x e held = rw e (tab-ext 256 _ _ (λ i l. ap (λ (t : List ℕ). at t (i % 16)) (held (i / 16) (omega arith))))
