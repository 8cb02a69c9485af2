-- A file read piece by piece: a stream that takes its chunks one after another, all but the last of whole blocks, holds the sum of
-- the bytes taken, and finished it gives the hash of the whole. It rests on the sum of joined lists (`Sums`) and on GHASH with no
-- C (`Hash`).
use mathlib.Core.Path.{◌≡◌, refl, sym, ap, ◌∙◌}
use mathlib.Core.List.{List, [], ◌++◌, flatten, append-nil, append_assoc}
use Prim.Native.Nat.{ℕ, ◌+◌, ◌*◌, ◌≤◌}
use native.Mathlib.Omega.{arith}
use lib.ListN.{length, length-append}
use Rattle.field.specs.declared.blocks.Block.{Block}
use Rattle.field.specs.declared.streaming.Stream.{Stream}
use Rattle.field.specs.Blocks.{zero_block}
use Rattle.field.specs.Ghash.{ghash}
use Rattle.field.specs.Answers.{max_bytes}
use Rattle.field.specs.Clauses.{streamed, absorbed}
use Rattle.field.specs.Streams.{absorbed_all, finished, Whole, none, last, more}
use Rattle.field.proofs.Sums.{sum-append, sum_zeros}
use Rattle.field.proofs.Hash.{ghash-empty}

-- code's start: the zero block is the sum of nothing
pub streamed_start : (h : Block) → ◌≡◌ {A = Stream} (record { h = h; y = zero_block; n = 0 }) (streamed h [])
unfolding streamed
streamed_start h = λ i. record { h = h; y = sym (sum_zeros h 0) i; n = 0 }

-- one chunk more, after whole blocks: what a loop over chunks keeps
pub streamed_more : (h : Block) (s t : List ℕ) (j : ℕ) → length s ≡ 16 * j → absorbed (streamed h s) t ≡ streamed h (s ++ t)
unfolding streamed absorbed
streamed_more h s t j e = λ i. record { h = h; y = sym (sum-append h s t j e) i; n = sym (length-append s t) i }

-- the end gives the hash of all the bytes
pub streamed-ghash : (h : Block) (s : List ℕ) → length s ≤ max_bytes → finished (streamed h s) ≡ ghash h s []
unfolding streamed finished
streamed-ghash h s l = sym (ghash-empty h s l)

-- chunks taken one after another: the sum and the length of all the bytes
pub streamed-all : (h : Block) (s : List ℕ) (j : ℕ) {r : List (List ℕ)} → length s ≡ 16 * j → Whole r
    → absorbed_all (streamed h s) r ≡ streamed h (s ++ flatten r)
unfolding absorbed_all flatten
streamed-all h s j e none = ap (streamed h) (sym (append-nil s))
streamed-all h s j e (last t) = streamed_more h s t j e ∙ ap (λ (l : List ℕ). streamed h (s ++ l)) (sym (append-nil t))
streamed-all h s j e (more k {t} {r} f w) =
    ap (λ (x : Stream). absorbed_all x r) (streamed_more h s t j e)
    ∙ streamed-all h (s ++ t) (j + k) (rw (length-append, e, f) (omega arith)) w
    ∙ ap (streamed h) (append_assoc s t (flatten r))

-- from nothing, and then the end: the hash of the whole
pub stream_ghash : (h : Block) {r : List (List ℕ)} → Whole r → length (flatten r) ≤ max_bytes
    → finished (absorbed_all (streamed h []) r) ≡ ghash h (flatten r) []
stream_ghash h {r} w l = ap finished (streamed-all h [] 0 refl w) ∙ streamed-ghash h (flatten r) l

-- how many bytes a stream has taken
pub streamed-count : (h : Block) (s : List ℕ) → (streamed h s).n ≡ length s
unfolding streamed
streamed-count h s = refl
