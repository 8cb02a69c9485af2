-- H, J, the tag and GMAC as code gets them, and that the tag of a file's sum is GMAC of the file. They rest on the field's law of GHASH with no C.
use mathlib.Core.Path.{◌≡◌, sym, ap, ap₂, ◌∙◌}
use mathlib.Core.List.{List, [], ◌++◌, append-nil}
use Prim.Native.Nat.{ℕ, ◌+◌, ◌≤◌}
use native.Mathlib.Omega.{arith}
use lib.ListN.{length, replicate, length-append, drop_of_length-le}
use lib.Seq.{sets, sets-eq, take_at}
use borrow.Author.Tests.{eq-eqb, ne_eqb}
use Rattle.cipher.specs.Aes.{aes}
use Rattle.field.specs.declared.blocks.Block.{Block}
use Rattle.field.specs.Field.{Small, bytes, ◌⊕◌, ◌•◌, bytes_of, block_at, sum, length_block, ghash, max_bytes}
use Rattle.field.proofs.Bytes.{length-bytes}
use Rattle.field.proofs.Ring.{small-⊕, ⊕-cancel_r}
use Rattle.field.proofs.Hash.{ghash-empty}
use Rattle.field.proofs.BlockAt.{small-block_at}
use Rattle.gcm.specs.Gmac.{hash_key, J, pad, gmac, tag_of}

-- ---- H and J

pub hash-key_of : (key : List ℕ) {t : List ℕ} {r : Block} → t ≡ aes key (replicate 16 0) → r ≡ block_at t 0 → r ≡ hash_key key
unfolding hash_key
hash-key_of key e f = f ∙ ap (λ (t : List ℕ). block_at t 0) e

-- n are the nonce's bytes as they were copied, before four bytes
pub J_twelve : (h : Block) (nonce : List ℕ) {n t : List ℕ} → length nonce ≡ 12 → n ≡ nonce
    → t ≡ sets (n ++ replicate 4 0) 12 (bytes 4 1) → t ≡ J h nonce
unfolding J
J_twelve h nonce {n} {t} l en et =
    let s = nonce ++ replicate 4 0 in
    let size : length s ≡ 16 = length-append nonce (replicate 4 0) ∙ omega arith in
    let one = length-bytes 4 1 in
    let joined : sets s 12 (bytes 4 1) ≡ nonce ++ bytes 4 1 =
    sets-eq (bytes 4 1) s 12 (omega arith)
    ∙ ap₂ (λ (x y : List ℕ). x ++ bytes 4 1 ++ y) (take_at nonce (replicate 4 0) 12 l) (drop_of_length-le s {i = 12 + length (bytes 4 1)} (omega arith))
    ∙ append-nil (nonce ++ bytes 4 1)
    in
    simp (eq-eqb _ _ l) (et ∙ ap (λ (x : List ℕ). sets (x ++ replicate 4 0) 12 (bytes 4 1)) en ∙ joined)

pub J_other : (h : Block) (nonce : List ℕ) {g : Block} {t : List ℕ} → (length nonce ≡ 12 → ⊥) → g ≡ ghash h [] nonce
    → t ≡ bytes_of g → t ≡ J h nonce
unfolding J
J_other h nonce l e f = simp (ne_eqb _ _ l) (f ∙ ap bytes_of e)

pub pad_of : (key : List ℕ) (h : Block) (nonce : List ℕ) {j t : List ℕ} {r : Block} → j ≡ J h nonce → t ≡ aes key j
    → r ≡ block_at t 0 → r ≡ pad key h nonce
unfolding pad
pad_of key h nonce e f g = g ∙ ap (λ (t : List ℕ). block_at t 0) (f ∙ ap (aes key) e)

-- ---- the tag

-- z is the closed sum and p the pad
pub tag-of : (key : List ℕ) (h s : Block) (n : ℕ) (nonce : List ℕ) {z p r : Block} → z ≡ (s ⊕ length_block n 0) • h → p ≡ pad key h nonce
    → r ≡ z ⊕ p → r ≡ tag_of key h s n nonce
unfolding tag_of
tag-of key h s n nonce ez ep er = er ∙ ap₂ ◌⊕◌ ez ep

-- of a file's sum and length, under the key's own hash key, it is GMAC of the file
pub tag-gmac : (key a nonce : List ℕ) → length a ≤ max_bytes
    → tag_of key (hash_key key) (sum (hash_key key) a) (length a) nonce ≡ gmac key nonce a
unfolding tag_of gmac
tag-gmac key a nonce l = ap (λ (b : Block). b ⊕ pad key (hash_key key) nonce) (sym (ghash-empty (hash_key key) a l))

-- H is of two words, as every block of a byte list
pub small-hash : (key : List ℕ) → Small (hash_key key)
unfolding hash_key
small-hash key = small-block_at _ 0

-- ---- two files under one nonce

pub small-gmac : (key nonce a : List ℕ) → Small (gmac key nonce a)
unfolding gmac
small-gmac key nonce a = small-⊕ _ _

-- what hides the hashes is the same, so that the tags differ as the hashes do
pub gmac-difference : (key nonce a b : List ℕ) → gmac key nonce a ⊕ gmac key nonce b ≡ ghash (hash_key key) a [] ⊕ ghash (hash_key key) b []
unfolding gmac
gmac-difference key nonce a b = ⊕-cancel_r _ _ _
