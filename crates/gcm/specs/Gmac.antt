-- GMAC (NIST SP 800-38D, section 7.1 with no plaintext; document 01, "Sum, hash, tag").
use Rattle.std.specs.Prelude.{cond, List, [], ◌++◌, ℕ, eqb, length, replicate}
use Rattle.cipher.specs.Aes.{aes}
use Rattle.field.specs.declared.blocks.Block.{Block}
use Rattle.field.specs.Field.{bytes, ◌⊕◌, ◌•◌, block_at, bytes_of, ghash, length_block}

-- CIPH_K(X): AES of the block X under the key K, as a block (SP 800-38D, 5.1 and 6)
abbrev pub CIPH : List ℕ → List ℕ → Block
CIPH key x = block_at (aes key x) 0

-- H = AES(key, zero block) (SP 800-38D, 7.1, step 1)
unfoldable pub hash_key : List ℕ → Block
hash_key key = CIPH key (replicate 16 0)

-- J (SP 800-38D, 7.1, step 2): for a 12-byte nonce the nonce, then the 32-bit number 1; for any other GHASH(H, nothing, nonce)
unfoldable pub J : Block → List ℕ → List ℕ
J h nonce = cond (eqb (length nonce) 12) (nonce ++ bytes 4 1) (bytes_of (ghash h [] nonce))

-- AES(key, J), what is added to a hash to make the tag (SP 800-38D, 7.1, step 6; document 01, "Sum, hash, tag")
unfoldable pub pad : List ℕ → Block → List ℕ → Block
pad key h nonce = CIPH key (J h nonce)

-- GMAC(key, nonce, A) = GHASH(H, A, nothing) + AES(key, J) (SP 800-38D, 7.1, steps 5 and 6; document 01, "Sum, hash, tag")
unfoldable pub gmac : List ℕ → List ℕ → List ℕ → Block
gmac key nonce a = ghash (hash_key key) a [] ⊕ pad key (hash_key key) nonce

-- the tag under a nonce of n bytes whose sum is S: (S + L) times H, plus AES(key, J), L the block of n's bit length and 64 zero bits
-- (document 01, "Sum, hash, tag")
unfoldable pub tag_of : List ℕ → Block → Block → ℕ → List ℕ → Block
tag_of key h s n nonce = (s ⊕ length_block n 0) • h ⊕ pad key h nonce
