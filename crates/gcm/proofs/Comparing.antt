-- Two tags compared: by their words, whose differences, joined and folded, are 0 exactly where the blocks are one number; and by their bytes, which
-- are the same exactly where the blocks are. They rest on lib.Bits and on the field's laws of blocks and bytes.
use mathlib.Core.Path.{◌≡◌, refl, sym, ap, ap₂, ◌∙◌}
use mathlib.Core.Bool.{Bool, true, false, false≢true}
use mathlib.Core.Logic.{◌⊎◌, inl, inr}
use mathlib.Core.List.{List, [], ◌∷◌}
use Prim.Native.Nat.{ℕ, ◌/◌, ◌%◌, ◌<◌}
use native.Mathlib.Omega.{arith}
use lib.Bits.{bit_or, bit_xor, or_add_and, xor_add_and, and_le_l, and_le_r, xor_self}
use lib.Dec.{eqb}
use lib.ListN.{length, get_or}
use borrow.Author.Tests.{eq-eqb, ne_eqb, eqb-true, eqb-false}
use Rattle.std.proofs.lemmas.Bool.{false_from_ne_true, and_parts, cases_Bool}
use Rattle.field.specs.declared.blocks.Block.{Block}
use Rattle.field.specs.Field.{value, block, Small, block_at, bytes_of}
use Rattle.field.proofs.Values.{block-value}
use Rattle.field.proofs.BlockAt.{small-block_at, block_at-bytes_of, bytes_of_whole}
use Rattle.gcm.specs.Authenticated.{equal}

-- ---- by their words

-- two tests that hold at the same time have one flag
eqb-iff : (p q r s : ℕ) → (p ≡ q → r ≡ s) → (r ≡ s → p ≡ q) → eqb p q ≡ eqb r s
eqb-iff p q r s f g = flag (eqb p q) refl
  where
    flag : (t : Bool) → eqb p q ≡ t → t ≡ eqb r s
    flag true e = sym (eq-eqb r s (f (eqb-true p q e)))
    flag false e = sym (ne_eqb r s (λ x. eqb-false p q e (g x)))

xor-none : (p q : ℕ) → bit_xor p q ≡ 0 → p ≡ q
xor-none p q e = omega (arith, xor_add_and p q, and_le_l p q, and_le_r p q)

or-none : (p q : ℕ) → bit_or p q ≡ 0 → (p ≡ 0) × (q ≡ 0)
or-none p q e =
    (omega (arith, or_add_and p q, and_le_l p q, and_le_r p q), omega (arith, or_add_and p q, and_le_l p q, and_le_r p q))

-- the halves of a word, joined, are 0 exactly where the word is
folded-none : (d : ℕ) → eqb (bit_or (d / 4294967296) (d % 4294967296)) 0 ≡ eqb d 0
folded-none d =
    eqb-iff _ 0 d 0
    (λ e.
    let z = or-none (d / 4294967296) (d % 4294967296) e in
    omega (arith, z.0, z.1))
    (λ e. ap (λ x. bit_or (x / 4294967296) (x % 4294967296)) e)

-- the words' differences, joined and folded, are 0 exactly where the blocks are one number
pub same_words : (a b : Block) → Small a → Small b
    → eqb (bit_or (bit_or (bit_xor a.hi b.hi) (bit_xor a.lo b.lo) / 4294967296)
    (bit_or (bit_xor a.hi b.hi) (bit_xor a.lo b.lo) % 4294967296)) 0 ≡ eqb (value a) (value b)
same_words a b p q =
    folded-none (bit_or (bit_xor a.hi b.hi) (bit_xor a.lo b.lo))
    ∙ eqb-iff _ 0 (value a) (value b)
    (λ e.
    let z = or-none _ _ e in
    ap value (λ i. record { hi = xor-none a.hi b.hi z.0 i; lo = xor-none a.lo b.lo z.1 i }))
    (λ e.
    let s : b ≡ a = sym (block-value b q) ∙ ap block (sym e) ∙ block-value a p in
    rw s (simp xor_self))

-- ---- by their bytes

pub equal_true : (s t : List ℕ) → equal s t ≡ true → s ≡ t
unfolding equal
equal_true [] [] e = refl
equal_true [] (b ∷ t) e = absurd (false≢true e)
equal_true (a ∷ s) [] e = absurd (false≢true e)
equal_true (a ∷ s) (b ∷ t) e =
    let p = and_parts (eqb a b) (equal s t) e in
    ap₂ (λ (x : ℕ) (l : List ℕ). x ∷ l) (eqb-true a b p.0) (equal_true s t p.1)

pub equal-same : (s : List ℕ) → equal s s ≡ true
unfolding equal
equal-same [] = refl
equal-same (a ∷ s) = rw (eq-eqb a a refl) (equal-same s)

-- two lists are the same or not
pub same_or_not : (s t : List ℕ) → (s ≡ t) ⊎ (s ≡ t → ⊥)
same_or_not s t = by (cases_Bool (equal s t))
  where
    by : (equal s t ≡ true) ⊎ (equal s t ≡ false) → (s ≡ t) ⊎ (s ≡ t → ⊥)
    by (inl e) = inl (equal_true s t e)
    by (inr e) = inr (λ x. false≢true (sym e ∙ ap (equal s) (sym x) ∙ equal-same s))

-- sixteen bytes and a block's are the same exactly where they are one number
equal-number : (t : List ℕ) (b : Block) → length t ≡ 16 → ((i : ℕ) → i < length t → get_or t i 0 < 256) → Small b
    → eqb (value (block_at t 0)) (value b) ≡ equal t (bytes_of b)
equal-number t b size bytes small = flag (eqb (value (block_at t 0)) (value b)) refl
  where
    same_block : value (block_at t 0) ≡ value b → t ≡ bytes_of b
    same_block e =
        sym (bytes_of_whole t size bytes refl)
        ∙ ap bytes_of (sym (block-value (block_at t 0) (small-block_at t 0)) ∙ ap block e ∙ block-value b small)

    same-value : t ≡ bytes_of b → value (block_at t 0) ≡ value b
    same-value e = ap value (ap (λ (s : List ℕ). block_at s 0) e ∙ block_at-bytes_of b small)

    flag : (x : Bool) → eqb (value (block_at t 0)) (value b) ≡ x → x ≡ equal t (bytes_of b)
    flag true e = sym (ap (equal t) (sym (same_block (eqb-true _ _ e))) ∙ equal-same t)
    flag false e = sym (false_from_ne_true _ (λ x. eqb-false _ _ e (same-value (equal_true t (bytes_of b) x))))

-- so code compares them: g is the given tag as a block, b the right one, whose bytes are u
pub tag-fits_of : (t : List ℕ) (b : Block) {u : List ℕ} {g : Block} {r : Bool} → length t ≡ 16
    → ((i : ℕ) → i < length t → get_or t i 0 < 256) → Small b → g ≡ block_at t 0 → r ≡ eqb (value g) (value b) → bytes_of b ≡ u → r ≡ equal t u
tag-fits_of t b size bytes small eg er eu =
    er ∙ ap (λ (x : Block). eqb (value x) (value b)) eg ∙ equal-number t b size bytes small ∙ ap (equal t) eu
