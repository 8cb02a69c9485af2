-- Document 01's bench cases of this layer, those marked with a star, hold.
-- Each is shown by the laws down to sums and steps of written numbers, which are computed; Algorithm 1 itself is never run.
-- Rests on Ring and Hash.
use mathlib.Core.Path.{◌≡◌, refl, sym, ap, ◌∙◌}
use mathlib.Core.List.{[], ◌∷◌, ◌++◌}
use Prim.Native.Nat.{ℕ, ◌*◌, ◌^◌, ◌<◌}
use lib.ListN.{replicate}
use lib.Count.{ones, ones_in}
use lib.Dec.{lit<}
use Rattle.field.specs.declared.blocks.Block.{Block}
use Rattle.clmul.specs.Xor.{xor, only}
use Rattle.field.specs.Elements.{R, shifted}
use Rattle.field.specs.Bytes.{number, bytes}
use Rattle.field.specs.Blocks.{block, zero_block, one, ◌⊕◌, ◌•◌, block_at}
use Rattle.field.specs.Powers.{digits_within, width, steps}
use Rattle.field.specs.Sums.{blocks}
use Rattle.field.specs.Ghash.{Yᵢ, padded, ghash_input, ghash}
use Rattle.field.specs.FieldBench.{FieldBench}
use Rattle.field.proofs.Values.{small-block}
use Rattle.field.proofs.Ring.{block-xor, •-x, zero-⊕, •-comm, •-one, one-•}
use Rattle.field.proofs.Hash.{ghash-nothing}

-- x times x^127: 40, then zeros, times zeros, then 01, is E1, then zeros
x-top : block (2 ^ 126) • block 1 ≡ block (0xe1 * 2 ^ 120)
x-top = •-x 1 (lit< tt) ∙ unfold shifted only xor R in refl

-- GHASH of one block v and the lengths l, in two products
pub two_products : (h : Block) (v l w z : ℕ) → v < 2 ^ 128 → l < 2 ^ 128 → w < 2 ^ 128 → block v • h ≡ block w → block (xor w l) • h ≡ block z
    → ((zero_block ⊕ block v) • h ⊕ block l) • h ≡ block z
two_products h v l w z p q r e f =
    ap (λ (b : Block). (b • h ⊕ block l) • h) (zero-⊕ (block v) (small-block v p))
    ∙ ap (λ (b : Block). (b ⊕ block l) • h) e ∙ ap (λ (b : Block). b • h) (sym (block-xor w l r q)) ∙ f

-- H one, the file 01
ghash-one : ghash one (1 ∷ []) [] ≡ block 0x01000000000000080000000000000000
unfolding ghash ghash_input padded blocks bytes Yᵢ block_at number xor
ghash-one =
    two_products one (2 ^ 120) (2 ^ 67) (2 ^ 120) _ (lit< tt) (lit< tt) (lit< tt)
    (•-one _ (small-block _ (lit< tt))) (•-one _ (small-block _ (lit< tt)))

-- H x, the file fifteen zeros, then 01
ghash-x : ghash (block (2 ^ 126)) (replicate 15 0 ++ (1 ∷ [])) [] ≡ block 0x70800000000000400000000000000000
unfolding ghash ghash_input padded blocks bytes Yᵢ block_at number shifted only xor R
ghash-x =
    two_products (block (2 ^ 126)) 1 (2 ^ 71) (0xe1 * 2 ^ 120) _ (lit< tt) (lit< tt) (lit< tt)
    (•-comm (block 1) (block (2 ^ 126)) ∙ x-top) (•-comm _ (block (2 ^ 126)) ∙ •-x _ (lit< tt))

-- what a case of n = 40, of three blocks, comes to besides
pub steps-3 : steps 3 ≡ 3
unfolding steps width digits_within ones ones_in
steps-3 = refl

pub cases : FieldBench
unfolding blocks steps width digits_within ones ones_in
cases =
    record {
      one_times = one-•;
      x_times_top = x-top;
      hash_of_nothing = ghash-nothing;
      blocks_of_one = refl;
      hash_under_one = ghash-one;
      hash_under_x = ghash-x;
      steps_0 = refl;
      steps_1 = refl;
      steps_2 = refl;
      steps_5 = refl;
      steps_255 = refl;
      steps_256 = refl;
    }
