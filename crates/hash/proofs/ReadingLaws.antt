-- What the loop over the file keeps, and what the lines that are printed at its end say. They rest on the field's laws of a stream.
use mathlib.Core.Path.{◌≡◌, refl, sym, ap, ap₂, ◌∙◌}
use mathlib.Core.Bool.{Bool, true, false, false≢true}
use mathlib.Core.List.{List, [], ◌++◌}
use Prim.Native.Nat.{ℕ, ◌+◌, ◌*◌, ◌≤◌, ◌<◌}
use native.Mathlib.Decide.{dec_lt}
use native.Mathlib.Omega.{arith}
use lib.ListN.{length, take, length-append}
use lib.Seq.{length-take-le}
use Rattle.field.specs.declared.blocks.Block.{Block}
use Rattle.field.specs.declared.streaming.Stream.{Stream}
use Rattle.field.specs.Field.{max_bytes, streamed, absorbed, finished, ghash}
use Rattle.field.proofs.Stream.{streamed_more, streamed-ghash, streamed-count}
use Rattle.hash.specs.declared.input.Input.{Input}
use Rattle.hash.specs.Lines.{file_lines}
use Rattle.hash.specs.Reading.{Took, ReadWhole}

-- the stream's count is the file's length
pub took-count : {input : Input} {h : Block} {s : Stream} (t : Took input h s) → s.n ≡ length t.file
took-count {h = h} t = ap (λ (x : Stream). x.n) t.taken ∙ streamed-count h t.file

-- and so it is within the limit
pub took-fits : {input : Input} {h : Block} {s : Stream} → Took input h s → s.n ≤ max_bytes
took-fits t = omega (arith, took-count t, t.fits)

-- after whole blocks, the first n bytes of a buffer more
pub took_more : {input : Input} {h : Block} {s : Stream} (t : Took input h s) (j : ℕ) → length t.file ≡ 16 * j
    → (input' : Input) (s' : Stream) (n : ℕ) (buf : List ℕ) → n ≤ length buf → input'.n ≡ input.n + n → s.n + n ≤ max_bytes
    → s' ≡ absorbed s (take n buf) → Took input' h s'
took_more {h = h} t j whole input' s' n buf l e f a =
    let chunk = length-take-le n buf l in
    let size : length (t.file ++ take n buf) ≡ length t.file + n = length-append t.file (take n buf) ∙ ap (λ (x : ℕ). length t.file + x) chunk in
    record {
      file = t.file ++ take n buf;
      taken = a ∙ ap (λ (x : Stream). absorbed x (take n buf)) t.taken ∙ streamed_more h t.file (take n buf) j whole;
      all = omega (arith, t.all);
      fits = omega (arith, took-count t);
    }

-- where there may be more, a buffer that else is the last is full
pub full : {n size : ℕ} {more : Bool} → n ≤ size → (n < size → more ≡ false) → more ≡ true → n ≡ size
full {n} {size} l f e = elim (dec_lt n size) [ yes h ↦ absurd (false≢true (sym (f h) ∙ e)) | no h ↦ omega arith ]

-- what the loop keeps: it took whole blocks, and its buffer keeps its length
pub record Between (input : Input) (h : Block) (s : Stream) (buf : List ℕ) : Type 0 where
  pub took : Took input h s
  pub count : ℕ
  pub whole : length took.file ≡ 16 * count
  pub size : length buf ≡ 65536

-- before the first chunk, the key taken
pub between_none : (input : Input) (h : Block) (s : Stream) (buf : List ℕ) → input.n ≡ 16 → s ≡ streamed h [] → length buf ≡ 65536
    → Between input h s buf
between_none input h s buf e f size =
    record { took = record { file = []; taken = f; all = e; fits = omega arith }; count = 0; whole = refl; size = size }

-- and it keeps that over a full buffer
pub between_more : {input : Input} {h : Block} {s : Stream} {buf : List ℕ} → Between input h s buf → (input' : Input) (s' : Stream) (n : ℕ)
    (buf' : List ℕ) → n ≡ length buf' → length buf' ≡ length buf → input'.n ≡ input.n + n → s.n + n ≤ max_bytes
    → s' ≡ absorbed s (take n buf') → Between input' h s' buf'
unfolding took_more
between_more b input' s' n buf' full same e f a =
    let t = b.took in
    record {
      took = took_more t b.count b.whole input' s' n buf' (omega arith) e f a;
      count = b.count + 4096;
      whole = length-append t.file (take n buf') ∙ omega (arith, b.whole, b.size, length-take-le n buf' (omega arith));
      size = same ∙ b.size;
    }

-- what is printed at the end: the lines of the file that the stream took, with GHASH of the whole of it
pub printed : {input : Input} {h : Block} {s : Stream} (r : ReadWhole input h s) {hash : Block} → hash ≡ finished s
    → file_lines s.n hash ≡ file_lines (length r.took.file) (ghash h r.took.file [])
printed {h = h} r e =
    let t = r.took in
    ap₂ file_lines (took-count t) (e ∙ ap finished t.taken ∙ streamed-ghash h t.file t.fits)
