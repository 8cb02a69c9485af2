-- GHASH of one byte list that comes in chunks: what a stream gives at the end, and what its laws ask of the chunks. What it holds
-- after a chunk is in `Clauses`. They stand in no standard; the laws that tie them to GHASH are in proofs/Stream.
use Rattle.std.specs.Prelude.{◌≡◌, List, [], ◌∷◌, ℕ, ◌*◌, length}
use Rattle.field.specs.declared.blocks.Block.{Block}
use Rattle.field.specs.declared.streaming.Stream.{Stream}
use Rattle.field.specs.Blocks.{◌⊕◌, ◌•◌}
use Rattle.field.specs.Ghash.{length_block}
use Rattle.field.specs.Clauses.{absorbed}

-- a stream that goes on over a list of chunks, one after another; it serves laws alone
unfoldable pub absorbed_all : Stream → List (List ℕ) → Stream
absorbed_all t [] = t
absorbed_all t (s ∷ r) = absorbed_all (absorbed t s) r

-- the block of the bit length added, and times H once more: (S + L) times H (document 01, "Sum, hash, tag")
unfoldable pub finished : Stream → Block
finished t = (t.y ⊕ length_block t.n 0) • t.h

-- of chunks, and of parts (document 02, Q-6): every one but the last is whole blocks, the last may have any length; it serves laws alone
pub data Whole : List (List ℕ) → Type 0 where
  none : Whole []
  last : (t : List ℕ) → Whole (t ∷ [])
  more : (j : ℕ) {t : List ℕ} {r : List (List ℕ)} → length t ≡ 16 * j → Whole r → Whole (t ∷ r)
