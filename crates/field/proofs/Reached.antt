-- That the bounds on colliding hash keys are reached for files of one block, and that there is none past the limit of a file's length.
-- Rests on Collisions and Counting.
use mathlib.Core.Path.{◌≡◌, refl, sym, ap, ap₂, ◌∙◌}
use mathlib.Core.Bool.{true}
use mathlib.Core.Logic.{◌≢◌}
use mathlib.Core.List.{List, [], ◌∷◌, ◌++◌}
use Prim.Native.Nat.{ℕ, ◌+◌, ◌-◌, ◌*◌, ◌/◌, ◌^◌, ◌≤◌, ◌<◌}
use native.Mathlib.Nat.{le_antisymm, suc-ne-zero, suc_inj}
use native.Mathlib.Omega.{arith}
use lib.ListN.{length, get_or, replicate, length-replicate, replicate-append-replicate}
use lib.Pow.{pow_pos}
use lib.Dec.{T, eqb, ltb, eqb→eq, lit<, lit≤}
use borrow.Author.Tests.{eq-eqb}
use Rattle.field.specs.declared.blocks.Block.{Block}
use Rattle.clmul.specs.Xor.{xor, only}
use Rattle.field.specs.Elements.{R, shifted}
use Rattle.field.specs.Bytes.{number, bytes}
use Rattle.field.specs.Blocks.{value, block, Small, zero_block, one, ◌⊕◌, ◌•◌, block_at, bytes_of}
use Rattle.field.specs.Sums.{blocks, sum}
use Rattle.field.specs.Ghash.{Yᵢ, padded, ghash_input, length_block, ghash}
use Rattle.field.specs.Answers.{max_bytes}
use Rattle.field.specs.Strength.{how_many, FileOf, differ_by, own_length, first_bit, BoundsReached}
use Rattle.field.proofs.ComputedTests.{every, every_at}
use Rattle.field.proofs.Span.{one-lt}
use Rattle.field.proofs.Recursion.{mul, mul-lt}
use Rattle.field.proofs.Values.{small-block, small_one}
use Rattle.field.proofs.Ring.{small-•, block-mul, ⊕-self, ⊕-zero, zero-⊕, ⊕-cancel_r, ⊕-•, zero-•, •-zero, •-one, one-•}
use Rattle.field.proofs.BlockAt.{length-block_bytes}
use Rattle.field.proofs.Horner.{Yᵢ-zeros, horner}
use Rattle.field.proofs.Sums.{sum_zeros}
use Rattle.field.proofs.Hash.{ghash-empty, ghash-nothing}
use Rattle.field.proofs.FieldBench.{two_products}
use Rattle.field.proofs.Counting.{grows}
use Rattle.field.proofs.Collisions.{few-collide}

-- ---- files

-- a file of at most two blocks, by what is computed of it
file : (m : ℕ) (s : List ℕ) → m ≤ 2 → length s ≤ 16 * m → T (every (λ (i : ℕ). ltb (get_or s i 0) 256) (length s)) → FileOf m s
unfolding blocks
file m s k l t = record { bytes = λ i k. lit< (every_at _ (length s) t i k); limit = omega (arith, k, l); size = omega (arith, l) }

empty : FileOf 1 []
unfolding every
empty = file 1 [] (lit≤ tt) (lit≤ tt) tt

two_bytes : FileOf 1 (1 ∷ []) × FileOf 1 (2 ∷ [])
unfolding every
two_bytes = (file 1 (1 ∷ []) (lit≤ tt) (lit≤ tt) tt, file 1 (2 ∷ []) (lit≤ tt) (lit≤ tt) tt)

two_blocks : FileOf 2 first_bit × FileOf 2 (replicate 32 0)
unfolding every first_bit
two_blocks = (file 2 first_bit (lit≤ tt) (lit≤ tt) tt, file 2 (replicate 32 0) (lit≤ tt) (lit≤ tt) tt)

own-length : FileOf 1 own_length
unfolding own_length bytes_of bytes value length_block block every
own-length = file 1 _ (lit≤ tt) (lit≤ tt) tt

not-empty : own_length ≢ []
unfolding own_length
not-empty e = suc-ne-zero 15 (sym (length-block_bytes _) ∙ ap length e)

-- ---- collisions

-- hashes that are zero are the same
passes : (a b : List ℕ) (h : Block) → ghash h a [] ≡ zero_block → ghash h b [] ≡ zero_block → differ_by a b zero_block h ≡ true
unfolding differ_by
passes a b h e f = eq-eqb _ _ (ap value (ap₂ ◌⊕◌ e f ∙ ⊕-self zero_block))

-- under zero every hash is zero
under-zero : (s : List ℕ) → length s ≤ max_bytes → ghash (block 0) s [] ≡ zero_block
unfolding zero_block
under-zero s l = ghash-empty zero_block s l ∙ •-zero _

under_one : ghash (block (2 ^ 127)) own_length [] ≡ zero_block
unfolding own_length bytes_of value length_block block ghash ghash_input padded blocks bytes Yᵢ block_at number xor zero_block one
under_one =
    two_products one (2 ^ 71) (2 ^ 71) (2 ^ 71) 0 (lit< tt) (lit< tt) (lit< tt)
    (•-one (block (2 ^ 71)) (small-block (2 ^ 71) (lit< tt))) (zero-• one)

-- the two keys under which the file of its own length and the empty one have the same hash
two : how_many (differ_by own_length [] zero_block) ≡ 2
unfolding how_many
two =
    let test = differ_by own_length [] zero_block in
    let first = grows test 0 (2 ^ 127) (lit< tt) (passes own_length [] (block 0) (under-zero own_length own-length.limit) (under-zero [] (lit≤ tt))) in
    let second = grows test (2 ^ 127) (2 ^ 128) one-lt (passes own_length [] (block (2 ^ 127)) under_one (ghash-nothing _)) in
    le_antisymm (few-collide.number 1 own_length [] own-length empty not-empty zero_block) (omega (arith, first, second))

-- the one key under which two files of one byte have the same hash
one_length : how_many (differ_by (1 ∷ []) (2 ∷ []) zero_block) ≡ 1
unfolding how_many
one_length =
    let pass = passes (1 ∷ []) (2 ∷ []) (block 0) (under-zero _ two_bytes.0.limit) (under-zero _ two_bytes.1.limit) in
    let first = grows (differ_by (1 ∷ []) (2 ∷ []) zero_block) 0 (2 ^ 128) (pow_pos 128) pass in
    le_antisymm
    (few-collide.one_length_number 1 (1 ∷ []) (2 ∷ []) two_bytes.0 two_bytes.1
    (λ e. suc-ne-zero 0 (sym (suc_inj (ap (λ (s : List ℕ). get_or s 0 0) e)))) refl)
    (omega (arith, first))

-- ---- H^3

-- a file whose blocks are one and zero
first_block : block_at first_bit 0 ≡ one
unfolding first_bit block_at number one
first_block = refl

second_block : block_at first_bit 1 ≡ zero_block
unfolding first_bit block_at number zero_block
second_block = refl

sum_first : (h : Block) → Small h → sum h first_bit ≡ h • h
sum_first h s = sym (horner h first_bit) ∙ unfold first_bit Yᵢ blocks in two_steps
  where
    two_steps : ((zero_block ⊕ block_at first_bit 0) • h ⊕ block_at first_bit 1) • h ≡ h • h
    two_steps =
        ap₂ (λ (a b : Block). ((zero_block ⊕ a) • h ⊕ b) • h) first_block second_block
        ∙ ap (λ (a : Block). (a • h ⊕ zero_block) • h) (zero-⊕ one small_one)
        ∙ ap (λ (a : Block). a • h) (⊕-zero (one • h) (small-• one h) ∙ one-• h s)

first_differs : first_bit ≢ replicate 32 0
unfolding first_bit
first_differs e = suc-ne-zero 127 (ap (λ (s : List ℕ). get_or s 0 0) e)

-- its hash and that of as many zero bytes differ by H^3
by_cube : (h : Block) → Small h → ghash h first_bit [] ⊕ ghash h (replicate 32 0) [] ≡ h • h • h
unfolding first_bit
by_cube h s =
    let l = length_block 32 0 in
    ap₂ ◌⊕◌ (ghash-empty h first_bit two_blocks.0.limit) (ghash-empty h (replicate 32 0) two_blocks.1.limit)
    ∙ ap₂ (λ (a b : Block). (a ⊕ l) • h ⊕ (b ⊕ l) • h) (sum_first h s) (sum_zeros h 32)
    ∙ sym (⊕-• (h • h ⊕ l) (zero_block ⊕ l) h) ∙ ap (λ (a : Block). a • h) (⊕-cancel_r (h • h) zero_block l ∙ ⊕-zero (h • h) (small-• h h))

-- which is one where it is computed to be
cube_root : (v : ℕ) → v < 2 ^ 128 → T (eqb (mul 128 (mul 128 v v) v) (2 ^ 127)) → differ_by first_bit (replicate 32 0) one (block v) ≡ true
unfolding differ_by
cube_root v h t = eq-eqb _ _ (ap value (by_cube (block v) (small-block v h) ∙ cube))
  where
    cube : block v • block v • block v ≡ one
    cube =
        ap (λ (a : Block). a • block v) (block-mul v v h h) ∙ block-mul (mul 128 v v) v (mul-lt 128 v v h) h
        ∙ ap block (eqb→eq _ _ t) ∙ unfold one in refl

-- the three keys, by their numbers: one stands between the two others
three : how_many (differ_by first_bit (replicate 32 0) one) ≡ 3
unfolding how_many mul shifted only xor R
three =
    let u : ℕ = 0x10d04d25f93556e69f58ce2f8d035a94 in
    let v : ℕ = 0x90d04d25f93556e69f58ce2f8d035a94 in
    let test = differ_by first_bit (replicate 32 0) one in
    let first = grows test u (2 ^ 127) (lit< tt) (cube_root u (lit< tt) tt) in
    let second = grows test (2 ^ 127) v (lit< tt) (cube_root (2 ^ 127) (lit< tt) tt) in
    let third = grows test v (2 ^ 128) (lit< tt) (cube_root v (lit< tt) tt) in
    le_antisymm (few-collide.number 2 first_bit (replicate 32 0) two_blocks.0 two_blocks.1 first_differs one) (omega (arith, first, second, third))

-- ---- past the limit

-- zero bytes joined are zero bytes
zeros-joined : (n r q : ℕ) {s t : List ℕ} → s ≡ replicate 8 0 → t ≡ replicate 8 0
    → (k : ℕ) × (replicate n 0 ++ replicate r 0 ++ replicate q 0 ++ s ++ t ≡ replicate k 0)
zeros-joined n r q e f = (n + r + q + 8 + 8, simp (e, f, replicate-append-replicate))

-- so is GHASH's input where the 64 bits of their length are zeros
input : (n : ℕ) → bytes 8 (8 * n) ≡ replicate 8 0 → bytes 8 0 ≡ replicate 8 0 → (k : ℕ) × (ghash_input (replicate n 0) [] ≡ replicate k 0)
unfolding ghash_input padded
input n e f =
    let z : List ℕ = replicate n 0 in
    let l : bytes 8 (8 * length z) ≡ replicate 8 0 = ap (λ (k : ℕ). bytes 8 (8 * k)) (length-replicate {A = ℕ} n 0) ∙ e in
    zeros-joined n (16 * blocks (length z) - length z) (16 * blocks 0 - 0) l f

past : (h : Block) (n : ℕ) → bytes 8 (8 * n) ≡ replicate 8 0 → bytes 8 0 ≡ replicate 8 0 → ghash h (replicate n 0) [] ≡ zero_block
unfolding ghash
past h n e f =
    let z = input n e f in
    rw z.1 (Yᵢ-zeros h z.0 (length {A = ℕ} (replicate z.0 0) / 16))

pub reached : BoundsReached
reached =
    record {
      files = (own-length, empty, not-empty);
      two = two;
      bytes = two_bytes;
      one_length = one_length;
      two_blocks = two_blocks;
      three = three;
      past_limit = λ h. past h (2 ^ 61) (unfold bytes in refl) (unfold bytes in refl) ∙ sym (ghash-nothing h);
    }
