-- Few hash keys collide (`few-collide`): GHASH of a file is a polynomial in H without a constant, whose coefficients are the file's length and its blocks, the
-- last one first (`ghash_at`), so that two files have the same coefficients only where they are the same (`same_file`); and a polynomial that isn't nothing
-- vanishes at fewer places than it has coefficients (`few-roots`).
-- Rests on Polynomials, Inverses, Counting and Hash.
use mathlib.Core.Path.{◌≡◌, refl, sym, ap, ap₂, ◌∙◌}
use mathlib.Core.Bool.{true}
use mathlib.Core.Logic.{◌≢◌}
use mathlib.Core.List.{List, [], ◌∷◌}
use Prim.Native.Nat.{ℕ, zero, suc, ◌+◌, ◌*◌, ◌/◌, ◌%◌, ◌^◌, ◌≤◌, ◌<◌, suc-le-suc}
use native.Mathlib.Nat.{le_trans, le_of_suc-le-suc, not-suc-le-zero, mod-eq_of_lt, lt_of_lt_of_le, lt_trans, lt_of_not-le}
use native.Mathlib.Omega.{arith}
use lib.Arith.{digits_lt}
use lib.Pow.{pow_pos, high}
use lib.ListN.{length, get_or}
use lib.Seq.{ext_get_or}
use borrow.Author.Tests.{eqb-true}
use Rattle.field.specs.declared.blocks.Block.{Block}
use Rattle.field.specs.Blocks.{value, block, Small, zero_block, ◌⊕◌, ◌•◌, block_at}
use Rattle.field.specs.Sums.{blocks}
use Rattle.field.specs.Ghash.{Yᵢ, length_block, ghash}
use Rattle.field.specs.Answers.{max_bytes}
use Rattle.field.specs.Strength.{DifferentKeys, how_many, AtMostKeys, FileOf, differ_by, FewCollide}
use Rattle.field.proofs.Values.{value-lt, block-value, small-block, small-zero}
use Rattle.field.proofs.Ring.{small-⊕, small-•, ⊕-comm, ⊕-self, ⊕_same, zero-⊕, •-comm, •-⊕, •-zero}
use Rattle.field.proofs.ComputedTests.{and_next}
use Rattle.field.proofs.BlockAt.{small-block_at, block_at_same}
use Rattle.field.proofs.BlockCounts.{le-blocks}
use Rattle.field.proofs.Horner.{horner}
use Rattle.field.proofs.Hash.{ghash-empty}
use Rattle.field.proofs.Polynomials.{at, Nothing, SmallAll, added, at_added, get_d_added, small-added, length-added, vanish}
use Rattle.field.proofs.Inverses.{difference_cancels, once}
use Rattle.field.proofs.Counting.{at_most, fewer}

-- a polynomial of at most n + 1 coefficients that isn't nothing vanishes at no more than n hash keys
few-roots : (n : ℕ) (P : Block → Type 0) (p : List Block) → length p ≤ suc n → SmallAll p → (¬ Nothing p)
    → ((h : Block) → Small h → P h → at h p ≡ zero_block) → AtMostKeys n P
few-roots n P p l s not root = at_most n P (λ keys d has. le_of_suc-le-suc (lt_of_not-le (λ k. not (nothing keys d has k))))
  where
    nothing : (keys : List Block) → DifferentKeys keys → ((i : ℕ) → i < length keys → P (get_or keys i zero_block)) → n < length keys → Nothing p
    nothing keys d has k =
        let within : (i : ℕ) → i < suc n → i < length keys = λ i m. lt_of_lt_of_le m k in
        vanish (suc n) (λ i. get_or keys i zero_block) p l s
        (λ i j m o. difference_cancels (d.small i (lt_trans m (within j o))) (d.small j (within j o)) (d.different i j m (within j o)))
        (λ i m. root _ (d.small i (within i m)) (has i (within i m)))

-- ---- a file's polynomial

-- the first i blocks of s, the last one first
unfoldable backwards : List ℕ → ℕ → List Block
backwards s zero = []
backwards s (suc i) = block_at s i ∷ backwards s i

length-backwards : (s : List ℕ) (i : ℕ) → length (backwards s i) ≡ i
unfolding backwards
length-backwards s zero = refl
length-backwards s (suc i) = ap suc (length-backwards s i)

small-backwards : (s : List ℕ) (i : ℕ) → SmallAll (backwards s i)
unfolding backwards
small-backwards s zero j = small-zero
small-backwards s (suc i) zero = small-block_at s i
small-backwards s (suc i) (suc j) = small-backwards s i j

-- one step of Y is one coefficient more
stepped : (h b : Block) (p : List Block) {y : Block} → y ≡ h • at h p → (y ⊕ b) • h ≡ h • at h (b ∷ p)
unfolding at
stepped h b p {y} e = •-comm (y ⊕ b) h ∙ ap (◌•◌ h) (⊕-comm y b ∙ ap (◌⊕◌ b) e)

Yᵢ_at : (h : Block) (s : List ℕ) (i : ℕ) → Yᵢ h zero_block s i ≡ h • at h (backwards s i)
unfolding Yᵢ backwards at
Yᵢ_at h s zero = sym (•-zero h)
Yᵢ_at h s (suc i) = stepped h (block_at s i) (backwards s i) (Yᵢ_at h s i)

unfoldable polynomial : List ℕ → List Block
polynomial s = length_block (length s) 0 ∷ backwards s (blocks (length s))

-- GHASH is H times its value at H
ghash_at : (h : Block) (s : List ℕ) → length s ≤ max_bytes → ghash h s [] ≡ h • at h (polynomial s)
unfolding polynomial
ghash_at h s l = ghash-empty h s l ∙ stepped h (length_block (length s) 0) (backwards s m) (sym (horner h s) ∙ Yᵢ_at h s m)
  where
    m : ℕ
    m = blocks (length s)

pub small-ghash : (h : Block) (s : List ℕ) → length s ≤ max_bytes → Small (ghash h s [])
small-ghash h s l = rw (ghash_at h s l) (small-• _ _)

length_polynomial : (m : ℕ) (s : List ℕ) → FileOf m s → length (polynomial s) ≤ suc m
unfolding polynomial
length_polynomial m s f = rw (length-backwards s (blocks (length s))) (suc-le-suc f.size)

small_polynomial : (m : ℕ) (s : List ℕ) → FileOf m s → SmallAll (polynomial s)
unfolding polynomial length_block
small_polynomial m s f zero = small-block _ (digits_lt {q = 8 * length s} {m = 2 ^ 64} (omega (arith, f.limit)) (pow_pos 64))
small_polynomial m s f (suc i) = small-backwards s (blocks (length s)) i

-- ---- one polynomial, one file

same_length : (m n : ℕ) → length_block m 0 ≡ length_block n 0 → m ≡ n
unfolding length_block block
same_length m n e =
    let f : 8 * m ≡ 8 * n = sym (high (8 * m) 64 (pow_pos 64)) ∙ ap (λ (b : Block). b.hi) e ∙ high (8 * n) 64 (pow_pos 64) in
    omega arith

same_blocks : (s t : List ℕ) (m : ℕ) → ((i : ℕ) → get_or (backwards s m) i zero_block ≡ get_or (backwards t m) i zero_block)
    → (i : ℕ) → i < m → block_at s i ≡ block_at t i
unfolding backwards
same_blocks s t zero e i l = absurd (not-suc-le-zero l)
same_blocks s t (suc m) e i l = and_next (λ (i : ℕ). block_at s i ≡ block_at t i) m (e 0) (same_blocks s t m (λ j. e (suc j))) i l

same_file : (m : ℕ) (s t : List ℕ) → FileOf m s → FileOf m t
    → ((i : ℕ) → get_or (polynomial s) i zero_block ≡ get_or (polynomial t) i zero_block) → s ≡ t
unfolding polynomial
same_file m s t f g e = ext_get_or 0 s t l byte
  where
    l : length s ≡ length t
    l = same_length _ _ (e 0)

    all : (i : ℕ) → i < blocks (length s) → block_at s i ≡ block_at t i
    all = same_blocks s t (blocks (length s)) (λ i. e (suc i) ∙ ap (λ (n : ℕ). get_or (backwards t (blocks n)) i zero_block) (sym l))

    byte : (i : ℕ) → i < length s → get_or s i 0 ≡ get_or t i 0
    byte i k =
        let place : i ≡ 16 * (i / 16) + i % 16 = omega arith in
        sym (mod-eq_of_lt (f.bytes i k)) ∙ ap (λ (n : ℕ). get_or s n 0 % 256) place
        ∙ block_at_same s t (i / 16) (i % 16) (all (i / 16) (omega (arith, le-blocks (length s)))) (omega arith)
        ∙ ap (λ (n : ℕ). get_or t n 0 % 256) (sym place) ∙ mod-eq_of_lt (g.bytes i (rw l at k))

-- ---- two files

module _ (m : ℕ) (a b : List ℕ) (f : FileOf m a) (g : FileOf m b) (n : a ≢ b) where
  -- the polynomial of the difference
  p : List Block
  p = added (polynomial a) (polynomial b)

  small-p : SmallAll p
  unfolding p
  small-p = small-added (polynomial a) (polynomial b) (small_polynomial m a f) (small_polynomial m b g)

  length-p : length p ≤ suc m
  unfolding p
  length-p = length-added (polynomial a) (polynomial b) (suc m) (length_polynomial m a f) (length_polynomial m b g)

  not-p : ¬ Nothing p
  unfolding p
  not-p e =
      let s = small_polynomial m a f in
      let t = small_polynomial m b g in
      n (same_file m a b f g (λ i. ⊕_same (s i) (t i) (sym (get_d_added (polynomial a) (polynomial b) i s t) ∙ e i)))

  difference : (h : Block) → ghash h a [] ⊕ ghash h b [] ≡ h • at h p
  unfolding p
  difference h =
      ap₂ ◌⊕◌ (ghash_at h a (omega (arith, f.limit))) (ghash_at h b (omega (arith, g.limit))) ∙ sym (•-⊕ h _ _)
      ∙ ap (◌•◌ h) (sym (at_added h (polynomial a) (polynomial b)))

  -- at most k hash keys, where k is more than m
  differ : (d : Block) (k : ℕ) → m < k → AtMostKeys k (λ h. ghash h a [] ⊕ ghash h b [] ≡ d)
  unfolding at
  differ d k l =
      few-roots k _ (block (value d) ∷ p) (suc-le-suc (le_trans length-p l)) small (λ e. not-p (λ i. e (suc i)))
      (λ h s e.
      let x = h • at h p in
      ap (λ (b : Block). block (value b) ⊕ x) (sym e ∙ difference h) ∙ ap (λ (b : Block). b ⊕ x) (block-value x (small-• h _)) ∙ ⊕-self x)
    where
      small : (i : ℕ) → Small (get_or (block (value d) ∷ p) i zero_block)
      small zero = small-block (value d) (value-lt d)
      small (suc i) = small-p i

  same : (k : ℕ) → m < k → AtMostKeys k (λ h. ghash h a [] ≡ ghash h b [])
  same k l = fewer (λ h e. ap (λ (x : Block). x ⊕ ghash h b []) e ∙ ⊕-self _) (differ zero_block k l)

  -- what passes the test
  passed : (d h : Block) → differ_by a b d h ≡ true → ghash h a [] ⊕ ghash h b [] ≡ block (value d)
  unfolding differ_by
  passed d h e = sym (block-value _ (small-⊕ _ _)) ∙ ap block (eqb-true _ _ e)

  number : (d : Block) (k : ℕ) → m < k → how_many (differ_by a b d) ≤ k
  number d k l = (differ (block (value d)) k l).number (differ_by a b d) (passed d)

  module _ (l : length a ≡ length b) where
    -- of one length the polynomial has no constant, so that where H times its value is nothing its value is
    no_constant : (h : Block) → Small h → h • at h p ≡ zero_block → at h p ≡ zero_block
    unfolding p polynomial added at
    no_constant h s e = at_p ∙ once h r s (ap (◌•◌ h) (sym at_p) ∙ e)
      where
        r : Block
        r = at h (added (backwards a (blocks (length a))) (backwards b (blocks (length b))))

        at_p : length_block (length a) 0 ⊕ length_block (length b) 0 ⊕ h • r ≡ h • r
        at_p =
            ap (λ (k : ℕ). length_block (length a) 0 ⊕ length_block k 0 ⊕ h • r) (sym l)
            ∙ ap (λ (c : Block). c ⊕ h • r) (⊕-self _) ∙ zero-⊕ (h • r) (small-• h r)

    one_length : (k : ℕ) → m ≤ k → AtMostKeys k (λ h. ghash h a [] ≡ ghash h b [])
    one_length k o =
        few-roots k _ p (le_trans length-p (suc-le-suc o)) small-p not-p
        (λ h s e. no_constant h s (sym (difference h) ∙ ap (λ (x : Block). x ⊕ ghash h b []) e ∙ ⊕-self _))

    one_length_number : (k : ℕ) → m ≤ k → how_many (differ_by a b zero_block) ≤ k
    one_length_number k o =
        (one_length k o).number (differ_by a b zero_block)
        (λ h e. ⊕_same (small-ghash h a f.limit) (small-ghash h b g.limit) (passed zero_block h e ∙ block-value zero_block small-zero))

pub few-collide : FewCollide
few-collide =
    record {
      same = λ m a b f g n. same m a b f g n _ (omega arith);
      differ = λ m a b f g n d. differ m a b f g n d _ (omega arith);
      number = λ m a b f g n d. number m a b f g n d _ (omega arith);
      one_length = λ m a b f g n l. one_length m a b f g n l _ (omega arith);
      one_length_number = λ m a b f g n l. one_length_number m a b f g n l _ (omega arith);
    }
