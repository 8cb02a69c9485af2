-- How strong the hash is, beyond the demands: the blocks are a field, and of all 2^128 hash keys few give two different files the same hash. No document
-- states it; SEAL.md, "How strong the seal is", says it in plain words.
--
-- What it doesn't say. Hash keys are counted, not AES keys. H is AES(key, zero block): that to anyone without the key it looks like any of the 2^128 blocks
-- is assumed by everyone and proved by no one. So it is of AES(key, J), which hides a file's hash in its tag. And the two files come before the hash
-- key: whoever knows H finds as many as he likes that collide under it.
use Rattle.std.specs.Prelude.{◌≡◌, Bool, true, cond, ◌≢◌, List, [], ◌∷◌, ℕ, zero, suc, ◌+◌, ◌^◌, ◌≤◌, ◌<◌, eqb, length, get_or, replicate}
use Rattle.field.specs.declared.blocks.Block.{Block}
use Rattle.field.specs.Blocks.{value, block, Small, zero_block, one, ◌⊕◌, ◌•◌, bytes_of}
use Rattle.field.specs.Powers.{companion}
use Rattle.field.specs.Sums.{blocks}
use Rattle.field.specs.Ghash.{length_block, ghash}
use Rattle.field.specs.Answers.{max_bytes}

-- ---- the field

-- the blocks of two words are a field of 2^128 elements, as SP 800-38D, 6.3, says of the product. Its proof is `is_field` in proofs/Inverses
pub record IsField : Type 0 where
  -- one for each number below 2^128
  pub elements : (v : ℕ) → v < 2 ^ 128 → Small (block v) × (value (block v) ≡ v)
  pub numbers : (a : Block) → Small a → (value a < 2 ^ 128) × (block (value a) ≡ a)
  -- sums
  pub zero_in : Small zero_block
  pub sum_in : (a b : Block) → Small (a ⊕ b)
  pub sum_commutes : (a b : Block) → a ⊕ b ≡ b ⊕ a
  pub sum_associates : (a b c : Block) → a ⊕ b ⊕ c ≡ a ⊕ (b ⊕ c)
  pub zero : (a : Block) → Small a → a ⊕ zero_block ≡ a
  pub negative : (a : Block) → a ⊕ a ≡ zero_block
  -- products
  pub one_in : Small one
  pub product_in : (a b : Block) → Small (a • b)
  pub product_commutes : (a b : Block) → a • b ≡ b • a
  pub product_associates : (a b c : Block) → a • b • c ≡ a • (b • c)
  pub distributes : (a b c : Block) → a • (b ⊕ c) ≡ a • b ⊕ a • c
  pub unit : (a : Block) → Small a → a • one ≡ a
  pub one_not_zero : one ≢ zero_block
  -- H times I is one, where H isn't zero
  pub inverse_in : (h : Block) → Small (companion h)
  pub inverse : (h : Block) → Small h → h ≢ zero_block → h • companion h ≡ one
  -- so no product of two that aren't zero is zero
  pub no_zero_product : (a b : Block) → Small a → Small b → a ≢ zero_block → b ≢ zero_block → a • b ≢ zero_block

-- ---- counting hash keys

-- a sequence of hash keys, each a block of two words, no two of them the same
pub record DifferentKeys (keys : List Block) : Type 0 where
  pub small : (i : ℕ) → i < length keys → Small (get_or keys i zero_block)
  pub different : (i j : ℕ) → i < j → j < length keys → get_or keys i zero_block ≢ get_or keys j zero_block

-- of the blocks with the numbers 0 .. n − 1 those that pass a test
unfoldable pub passing : (Block → Bool) → ℕ → List Block
passing test zero = []
passing test (suc n) = cond (test (block n)) (block n ∷ passing test n) (passing test n)

-- how many of all 2^128 blocks pass a test
unfoldable pub how_many : (Block → Bool) → ℕ
how_many test = length (passing test (2 ^ 128))

-- at most n hash keys have P
pub record AtMostKeys (n : ℕ) (P : Block → Type 0) : Type 0 where
  -- every sequence of different ones that all have P has at most n terms
  pub sequences : (keys : List Block) → DifferentKeys keys → ((i : ℕ) → i < length keys → P (get_or keys i zero_block)) → length keys ≤ n
  -- and at most n of all 2^128 blocks pass a test that none passes but blocks with P
  pub number : (test : Block → Bool) → ((h : Block) → test h ≡ true → P h) → how_many test ≤ n

-- ---- two files

-- a file of at most m blocks: bytes, at most 2^61 − 1 of them (document 01, "What the controller holds")
pub record FileOf (m : ℕ) (s : List ℕ) : Type 0 where
  pub bytes : (i : ℕ) → i < length s → get_or s i 0 < 256
  pub limit : length s ≤ max_bytes
  pub size : blocks (length s) ≤ m

-- whether the hashes of two files under h differ by d
unfoldable pub differ_by : (a b : List ℕ) (d h : Block) → Bool
differ_by a b d h = eqb (value (ghash h a [] ⊕ ghash h b [])) (value d)

-- of two different files of at most m blocks each. Its proof is `few-collide` in proofs/Collisions
pub record FewCollide : Type 0 where
  -- at most m + 1 hash keys give both the same hash
  pub same : (m : ℕ) (a b : List ℕ) → FileOf m a → FileOf m b → a ≢ b → AtMostKeys (m + 1) (λ h. ghash h a [] ≡ ghash h b [])
  -- for every block d at most m + 1 give hashes that differ by d, which is what GMAC rests on
  pub differ :
      (m : ℕ) (a b : List ℕ) → FileOf m a → FileOf m b → a ≢ b → (d : Block) → AtMostKeys (m + 1) (λ h. ghash h a [] ⊕ ghash h b [] ≡ d)
  pub number : (m : ℕ) (a b : List ℕ) → FileOf m a → FileOf m b → a ≢ b → (d : Block) → how_many (differ_by a b d) ≤ m + 1
  -- where the files have one length, at most m give both the same hash
  pub one_length :
      (m : ℕ) (a b : List ℕ) → FileOf m a → FileOf m b → a ≢ b → length a ≡ length b → AtMostKeys m (λ h. ghash h a [] ≡ ghash h b [])
  pub one_length_number :
      (m : ℕ) (a b : List ℕ) → FileOf m a → FileOf m b → a ≢ b → length a ≡ length b → how_many (differ_by a b zero_block) ≤ m

-- the file whose one block is the block of its own bit length
unfoldable pub own_length : List ℕ
own_length = bytes_of (length_block 16 0)

-- a file of two blocks with its first bit alone a one
unfoldable pub first_bit : List ℕ
first_bit = 0x80 ∷ replicate 31 0

-- how far these bounds go. Its proof is `reached` in proofs/Reached
pub record BoundsReached : Type 0 where
  -- m + 1 is reached for m = 1: under two hash keys the file of its own length and the empty one have the same hash
  pub files : FileOf 1 own_length × FileOf 1 [] × (own_length ≢ [])
  pub two : how_many (differ_by own_length [] zero_block) ≡ 2
  -- so is m for files of one length: under one hash key two files of one byte have
  pub bytes : FileOf 1 (1 ∷ []) × FileOf 1 (2 ∷ [])
  pub one_length : how_many (differ_by (1 ∷ []) (2 ∷ []) zero_block) ≡ 1
  -- that m is of equal hashes alone: those of two blocks with the first bit a one and a zero differ by H^3, which is one under three hash keys
  pub two_blocks : FileOf 2 first_bit × FileOf 2 (replicate 32 0)
  pub three : how_many (differ_by first_bit (replicate 32 0) one) ≡ 3
  -- and past the limit there is no bound: under every hash key 2^61 zero bytes have the hash of none
  pub past_limit : (h : Block) → ghash h (replicate (2 ^ 61) 0) [] ≡ ghash h [] []
