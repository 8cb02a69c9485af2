-- What the hash program prints, with its cause: what its reading owes to its printing (document 01, "The hash program").
use Rattle.std.specs.Prelude.{◌≡◌, false, List, [], ℕ, ◌+◌, ◌≤◌, ◌<◌, length}
use Rattle.field.specs.declared.blocks.Block.{Block}
use Rattle.field.specs.declared.streaming.Stream.{Stream}
use Rattle.field.specs.Field.{streamed, max_bytes, ghash}
use Rattle.hash.specs.declared.input.Input.{Input}
use Rattle.hash.specs.Lines.{ascii, file_lines}

-- the stream under H took as many bytes as the input gave after the key
pub record Took (input : Input) (h : Block) (s : Stream) : Type 0 where
  pub file : List ℕ
  pub taken : s ≡ streamed h file
  pub all : input.n ≡ 16 + length file
  pub fits : length file ≤ max_bytes

-- the input has ended; a read that failed ends nothing
pub record Ended (input : Input) : Type 0 where
  pub no_more : input.more ≡ false

-- the stream took the whole file
pub record ReadWhole (input : Input) (h : Block) (s : Stream) : Type 0 where
  pub took : Took input h s
  pub ended : Ended input

-- the input has ended under 16 bytes
pub record TooShort (input : Input) : Type 0 where
  pub short : input.n < 16
  pub ended : Ended input

-- the file, which is what the input gives after the key, passes 2^61 − 1 bytes
pub record TooLong (input : Input) : Type 0 where
  pub long : 16 + max_bytes < input.n

-- the text is what is to be printed for the input: the lines of the whole file, or a refusal alone
pub data Due (input : Input) (text : List ℕ) : Type 0 where
  lines : (h : Block) (s : Stream) (r : ReadWhole input h s)
      → text ≡ file_lines (length r.took.file) (ghash h r.took.file []) → Due input text
  refused_1 : TooShort input → text ≡ ascii "refused 1\n" → Due input text
  refused_2 : TooLong input → text ≡ ascii "refused 2\n" → Due input text
