-- Polynomials over the blocks, as lists of their coefficients, the constant first: their values, sums, and how many places they vanish at. Where one vanishes
-- at as many places as it has coefficients, and the difference of any two places cancels, each coefficient is zero (`vanish`).
-- Rests on Ring alone, so that it serves the proof that the blocks are a field (`Inverses`) as well as what follows from it (`Collisions`).
use mathlib.Core.Path.{◌≡◌, refl, sym, ap, ap₂, ◌∙◌}
use mathlib.Core.List.{List, [], ◌∷◌}
use Prim.Native.Nat.{ℕ, zero, suc, ◌≤◌, ◌<◌, suc-le-suc}
use native.Mathlib.Nat.{not-suc-le-zero, le_of_suc-le-suc, zero-lt-suc}
use lib.ListN.{length, get_or}
use Rattle.field.specs.declared.blocks.Block.{Block}
use Rattle.field.specs.Blocks.{Small, zero_block, ◌⊕◌, ◌•◌}
use Rattle.field.proofs.Values.{small-zero}
use Rattle.field.proofs.Ring.{small-⊕, ⊕-comm, ⊕-assoc, ⊕-swap, ⊕-self, ⊕-zero, zero-⊕, ⊕-cancel_l, ⊕-cancel_r}
use Rattle.field.proofs.Ring.{•_left_comm, •-⊕, ⊕-•, •-zero}

-- the last two terms of a sum change places
⊕_last : (a b c : Block) → a ⊕ b ⊕ c ≡ a ⊕ c ⊕ b
⊕_last a b c = ⊕-assoc a b c ∙ ap (◌⊕◌ a) (⊕-comm b c) ∙ sym (⊕-assoc a c b)

-- ---- values

-- a polynomial's value at h
unfoldable pub at : Block → List Block → Block
at h [] = zero_block
at h (c ∷ p) = c ⊕ h • at h p

pub small_at : (h : Block) (p : List Block) → Small (at h p)
unfolding at
small_at h [] = small-zero
small_at h (c ∷ p) = small-⊕ _ _

-- each coefficient is zero
abbrev pub Nothing : List Block → Type 0
Nothing p = (i : ℕ) → get_or p i zero_block ≡ zero_block

-- each is of two words
abbrev pub SmallAll : List Block → Type 0
SmallAll p = (i : ℕ) → Small (get_or p i zero_block)

-- ---- sums

-- past the end of the shorter one stand zeros
unfoldable pub added : List Block → List Block → List Block
added [] q = q
added (a ∷ p) [] = a ∷ p
added (a ∷ p) (b ∷ q) = (a ⊕ b) ∷ added p q

pub at_added : (h : Block) (p q : List Block) → at h (added p q) ≡ at h p ⊕ at h q
unfolding at added
at_added h [] q = sym (zero-⊕ (at h q) (small_at h q))
at_added h (a ∷ p) [] = sym (⊕-zero _ (small-⊕ _ _))
at_added h (a ∷ p) (b ∷ q) = ap (λ (c : Block). a ⊕ b ⊕ c) (ap (◌•◌ h) (at_added h p q) ∙ •-⊕ h _ _) ∙ ⊕-swap a b _ _

pub get_d_added : (p q : List Block) (i : ℕ) → SmallAll p → SmallAll q → get_or (added p q) i zero_block ≡ get_or p i zero_block ⊕ get_or q i zero_block
unfolding added
get_d_added [] q i s t = sym (zero-⊕ _ (t i))
get_d_added (a ∷ p) [] i s t = sym (⊕-zero _ (s i))
get_d_added (a ∷ p) (b ∷ q) zero s t = refl
get_d_added (a ∷ p) (b ∷ q) (suc i) s t = get_d_added p q i (λ j. s (suc j)) (λ j. t (suc j))

pub small-added : (p q : List Block) → SmallAll p → SmallAll q → SmallAll (added p q)
small-added p q s t i = rw (get_d_added p q i s t) (small-⊕ _ _)

pub length-added : (p q : List Block) (n : ℕ) → length p ≤ n → length q ≤ n → length (added p q) ≤ n
unfolding added
length-added [] q n l m = m
length-added (a ∷ p) [] n l m = l
length-added (a ∷ p) (b ∷ q) zero l m = absurd (not-suc-le-zero l)
length-added (a ∷ p) (b ∷ q) (suc n) l m = suc-le-suc (length-added p q n (le_of_suc-le-suc l) (le_of_suc-le-suc m))

-- ---- division by h + r

-- the quotient of p, less its value at r, by h + r
unfoldable pub divided : Block → List Block → List Block
divided r [] = []
divided r (c ∷ p) = at r (c ∷ p) ∷ divided r p

length_divided : (r : Block) (p : List Block) → length (divided r p) ≡ length p
unfolding divided
length_divided r [] = refl
length_divided r (c ∷ p) = ap suc (length_divided r p)

small_divided : (r : Block) (p : List Block) → SmallAll (divided r p)
unfolding divided
small_divided r [] i = small-zero
small_divided r (c ∷ p) zero = small_at r (c ∷ p)
small_divided r (c ∷ p) (suc i) = small_divided r p i

division : (h r : Block) (p : List Block) → h • at h p ⊕ r • at r p ≡ (h ⊕ r) • at h (divided r p)
unfolding at divided
division h r [] = ap₂ ◌⊕◌ (•-zero h) (•-zero r) ∙ ⊕-self zero_block ∙ sym (•-zero (h ⊕ r))
division h r (c ∷ p) =
    let t = c ⊕ r • at r p in
    let m = h • at h p ⊕ r • at r p in
    ap (λ (b : Block). h • b ⊕ r • t) (sym (⊕-cancel_r c (h • at h p) (r • at r p)))
    ∙ ap (λ (b : Block). b ⊕ r • t) (•-⊕ h t m)
    ∙ ⊕_last (h • t) (h • m) (r • t)
    ∙ ap₂ ◌⊕◌ (sym (⊕-• h r t)) (ap (◌•◌ h) (division h r p) ∙ •_left_comm h (h ⊕ r) _)
    ∙ sym (•-⊕ (h ⊕ r) t _)

-- where the quotient is nothing, so is p's value at r, and p
value_of_nothing : (r : Block) (p : List Block) → Nothing (divided r p) → at r p ≡ zero_block
unfolding at divided
value_of_nothing r [] n = refl
value_of_nothing r (c ∷ p) n = n 0

constant : (r c : Block) (p : List Block) → Small c → at r (c ∷ p) ≡ zero_block → Nothing (divided r p) → c ≡ zero_block
unfolding at
constant r c p s e n =
    sym (ap (λ (b : Block). c ⊕ r • b) (value_of_nothing r p n) ∙ ap (◌⊕◌ c) (•-zero r) ∙ ⊕-zero c s) ∙ e

undivided : (r c : Block) (p : List Block) → SmallAll (c ∷ p) → at r (c ∷ p) ≡ zero_block → Nothing (divided r p) → Nothing (c ∷ p)
unfolding divided
undivided r c p s e n zero = constant r c p (s 0) e n
undivided r c [] s e n (suc i) = refl
undivided r c (d ∷ p) s e n (suc i) = undivided r d p (λ j. s (suc j)) (n 0) (λ j. n (suc j)) i

-- ---- as many places as coefficients

-- g cancels: its product with a block is zero for none but zero
abbrev pub Cancels : Block → Type 0
Cancels g = (x : Block) → Small x → g • x ≡ zero_block → x ≡ zero_block

-- the quotient vanishes where p does, but for r
quotient_vanishes : (h r c : Block) (p : List Block) → Cancels (h ⊕ r) → at h (c ∷ p) ≡ zero_block → at r (c ∷ p) ≡ zero_block
    → at h (divided r p) ≡ zero_block
unfolding at
quotient_vanishes h r c p d e f =
    d (at h (divided r p)) (small_at h (divided r p))
    (sym (division h r p) ∙ sym (⊕-cancel_l _ _ c) ∙ ap₂ ◌⊕◌ e f ∙ ⊕-self zero_block)

pub vanish : (n : ℕ) (place : ℕ → Block) (p : List Block) → length p ≤ n → SmallAll p
    → ((i j : ℕ) → i < j → j < n → Cancels (place j ⊕ place i)) → ((i : ℕ) → i < n → at (place i) p ≡ zero_block) → Nothing p
vanish zero place p l s apart e = none p l
  where
    none : (p : List Block) → length p ≤ 0 → Nothing p
    none [] l i = refl
    none (c ∷ p) l i = absurd (not-suc-le-zero l)
vanish (suc n) place p l s apart e =
    step p l s e
    (λ q k t f. vanish n (λ i. place (suc i)) q k t (λ i j m o. apart (suc i) (suc j) (suc-le-suc m) (suc-le-suc o)) f)
  where
    r : Block
    r = place 0

    step : (p : List Block) → length p ≤ suc n → SmallAll p → ((i : ℕ) → i < suc n → at (place i) p ≡ zero_block)
        → ((q : List Block) → length q ≤ n → SmallAll q → ((i : ℕ) → i < n → at (place (suc i)) q ≡ zero_block) → Nothing q) → Nothing p
    step [] l s e fewer = λ i. refl
    step (c ∷ p) l s e fewer =
        let first = e 0 (zero-lt-suc n) in
        undivided r c p s first
        (fewer (divided r p) (rw length_divided (le_of_suc-le-suc l)) (small_divided r p)
        (λ i k. quotient_vanishes (place (suc i)) r c p (apart 0 (suc i) (zero-lt-suc i) (suc-le-suc k)) (e (suc i) (suc-le-suc k)) first))
