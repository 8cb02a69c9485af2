-- Many blocks under one schedule: a part of them, and one of them; the invariant of loops that replace a list part by part; and what the layers above use of
-- it: each block, and one alone. They rest on the laws of tables (`Tables`) and on lib.Seq.
use mathlib.Core.Path.{◌≡◌, refl, sym, ap, ap₂, ◌∙◌}
use mathlib.Core.List.{List, ◌++◌, append-nil, append_assoc}
use Prim.Native.Nat.{ℕ, ◌+◌, ◌-◌, ◌*◌, ◌/◌, ◌%◌, ◌≤◌, ◌<◌}
use native.Mathlib.Omega.{arith}
use lib.ListN.{length, get_or, take, drop, length-append, length-drop, drop_of_length-le}
use lib.Seq.{length-take-le, take_all, take_at, drop_at, drop-drop, take-add, get_or-take, get_or-drop, ext_get_or}
use Rattle.cipher.specs.Rounds.{AddRoundKey}
use Rattle.cipher.specs.Cipher.{Cipher, rows_of, aes, each_block}
use Rattle.planes.proofs.Tables.{length-tab, get_d_tab}
use Rattle.cipher.proofs.Whole.{aes-rows}

pub length_cipher : (n : ℕ) (s : List ℕ) (rows : List (List ℕ)) → length (Cipher n s rows) ≡ 16
unfolding Cipher AddRoundKey
length_cipher n s rows = length-tab 16 _

pub length_each : (rows : List (List ℕ)) (s : List ℕ) → length (each_block rows s) ≡ length s
unfolding each_block
length_each rows s = length-tab (length s) _

-- a byte is that of the cipher of the block in which it stands
get_d_each : (rows : List (List ℕ)) (s : List ℕ) (k place i : ℕ) → k < length s → 16 * (k / 16) ≡ place → k % 16 ≡ i
    → get_or (each_block rows s) k 0 ≡ get_or (Cipher (length rows - 1) (take 16 (drop place s)) rows) i 0
unfolding each_block
get_d_each rows s k place i h block byte = get_d_tab (length s) _ k 0 h ∙ rw (block, byte)

-- one block alone
each-one : (rows : List (List ℕ)) (s : List ℕ) → length s ≡ 16 → Cipher (length rows - 1) s rows ≡ each_block rows s
each-one rows s e =
    sym
    (ext_get_or 0 _ _ (length_each rows s ∙ e ∙ sym (length_cipher _ _ rows))
    (λ i l.
    let few : i < 16 = omega (arith, length_each rows s) in
    get_d_each rows s i 0 i (omega arith) (omega arith) (omega arith)
    ∙ ap (λ (x : List ℕ). get_or (Cipher (length rows - 1) x rows) i 0) (take_all 16 s (omega arith))))

-- whole blocks of a list, replaced by themselves: place and k are multiples of 16
module _ (rows : List (List ℕ)) (s : List ℕ) (place k : ℕ) (whole : place % 16 ≡ 0) (blocks : k % 16 ≡ 0) (h : place + k ≤ length s) where
  part_length : (l : List ℕ) → length l ≡ length s → length (take k (drop place l)) ≡ k
  part_length l e = length-take-le k (drop place l) (rw length-drop (omega arith))

  -- a block of the part is a block of the list
  part_block : (m : ℕ) → m + 16 ≤ k → take 16 (drop m (take k (drop place s))) ≡ take 16 (drop (place + m) s)
  part_block m l =
      let parts : length (take 16 (drop m (take k (drop place s)))) ≡ 16 =
      length-take-le 16 (drop m (take k (drop place s))) (rw (length-drop, part_length s refl) (omega arith))
      in
      ext_get_or 0 _ _ (parts ∙ sym (length-take-le 16 (drop (place + m) s) (rw length-drop (omega arith))))
      (λ i j.
      let few : i < 16 = omega arith in
      get_or-take 16 (drop m (take k (drop place s))) i 0 few ∙ get_or-drop m (take k (drop place s)) i 0 ∙ get_or-take k (drop place s) (m + i) 0 (omega arith)
      ∙ get_or-drop place s (m + i) 0
      ∙ sym (get_or-take 16 (drop (place + m) s) i 0 few ∙ get_or-drop (place + m) s i 0 ∙ ap (λ (x : ℕ). get_or s x 0) (omega arith)))

  each_part : each_block rows (take k (drop place s)) ≡ take k (drop place (each_block rows s))
  each_part =
      let size : length (take k (drop place s)) ≡ k = part_length s refl in
      ext_get_or 0 _ _ (length_each rows _ ∙ size ∙ sym (part_length (each_block rows s) (length_each rows s)))
      (λ i l.
      let few : i < k = omega (arith, length_each rows (take k (drop place s))) in
      get_d_each rows (take k (drop place s)) i (16 * (i / 16)) (i % 16) (omega arith) refl refl
      ∙ ap (λ (x : List ℕ). get_or (Cipher (length rows - 1) x rows) (i % 16) 0) (part_block (16 * (i / 16)) (omega arith))
      ∙ sym
      (get_or-take k (drop place (each_block rows s)) i 0 few ∙ get_or-drop place (each_block rows s) i 0
      ∙ get_d_each rows s (place + i) (place + 16 * (i / 16)) (i % 16) (omega arith) (omega arith) (omega arith)))

-- ---- loops that replace a list part by part

-- of s the part before a place is replaced by that of a target, and the rest stands as it was
pub record Replaced (target s : List ℕ) (place : ℕ) (t : List ℕ) : Type 0 where
  pub size : length target ≡ length s
  pub within : place ≤ length s
  pub is : t ≡ take place target ++ drop place s

pub replaced_start : (target s : List ℕ) → length target ≡ length s → Replaced target s 0 s
replaced_start target s e = record { size = e; within = omega arith; is = refl }

module _ {target s : List ℕ} {place : ℕ} {t : List ℕ} (r : Replaced target s place t) where
  front : length (take place target) ≡ place
  front = length-take-le place target (omega (arith, r.size, r.within))

  pub replaced-length : length t ≡ length s
  replaced-length = ap length r.is ∙ rw (length-append, length-drop, front) (omega (arith, r.within))

  replaced-rest : drop place t ≡ drop place s
  replaced-rest = ap (drop place) r.is ∙ drop_at (take place target) (drop place s) place front

  -- k bytes more, up to the place next
  pub replaced_next : (k next : ℕ) {c : List ℕ} → next ≡ place + k → next ≤ length s → c ≡ take k (drop place target)
      → Replaced target s next (take place t ++ (c ++ drop k (drop place t)))
  replaced_next k next {c} step h e =
      let ahead : take place t ≡ take place target = ap (take place) r.is ∙ take_at (take place target) (drop place s) place front in
      let behind : drop k (drop place t) ≡ drop (place + k) s = ap (drop k) replaced-rest ∙ drop-drop k place s in
      record {
        size = r.size;
        within = h;
        is =
            sym (append_assoc (take place t) c (drop k (drop place t)))
            ∙ ap₂ ◌++◌ (ap₂ ◌++◌ ahead e ∙ sym (take-add place k target)) behind
            ∙ rw step;
      }

  -- and at the end all is
  pub replaced_done : length s ≤ place → t ≡ target
  replaced_done h = r.is ∙ ap₂ ◌++◌ (take_all place target (omega (arith, r.size))) (drop_of_length-le s h) ∙ append-nil _

-- ---- whole blocks more, k bytes of them, which the code counts as n

module _
    (rows : List (List ℕ)) {s : List ℕ} {place : ℕ} {t : List ℕ} (done : Replaced (each_block rows s) s place t) (k n : ℕ) (count : n ≡ k)
    (whole : place % 16 ≡ 0) (blocks : k % 16 ≡ 0) (room : place + k ≤ length s) where
  pub part_next : (next : ℕ) {c : List ℕ} → next ≡ place + k → c ≡ each_block rows (take n (drop place t))
      → Replaced (each_block rows s) s next (take place t ++ (c ++ drop n (drop place t)))
  part_next next step e =
      let part : place + n ≤ length s = omega arith in
      replaced_next done n next (omega arith) (omega arith)
      (e ∙ ap (λ (x : List ℕ). each_block rows (take n x)) (replaced-rest done) ∙ each_part rows s place n whole (omega arith) part)

  -- one block, which is the cipher of what stood there
  pub block_next : (next : ℕ) {c : List ℕ} → k ≡ 16 → next ≡ place + k → c ≡ Cipher (length rows - 1) (take n (drop place t)) rows
      → Replaced (each_block rows s) s next (take place t ++ (c ++ drop n (drop place t)))
  block_next next one step e =
      part_next next step (e ∙ each-one rows (take n (drop place t)) (length-take-le n (drop place t) (rw length-drop (omega (arith, replaced-length done))) ∙ omega arith))

-- ---- for the layers above, whose rows are those of a key

module _ (key s : List ℕ) {rows : List (List ℕ)} (e : rows ≡ rows_of key) where
  -- each block is replaced by AES of it
  pub block-aes : (i : ℕ) → 16 * i + 16 ≤ length s → take 16 (drop (16 * i) (each_block rows s)) ≡ aes key (take 16 (drop (16 * i) s))
  block-aes i h =
      sym (each_part rows s (16 * i) 16 (omega arith) (omega arith) h)
      ∙ sym (each-one rows _ (part_length rows s (16 * i) 16 (omega arith) (omega arith) h s refl))
      ∙ aes-rows key _ rows e

  -- one block alone
  pub one_block : length s ≡ 16 → each_block rows s ≡ aes key s
  one_block l = sym (each-one rows s l) ∙ aes-rows key s rows e
