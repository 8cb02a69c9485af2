-- A block written over sixteen lent bytes: where it goes straight to them, no copy of it is left on the stack.
use mathlib.Core.Path.{◌≡◌, ap, ◌∙◌}
use mathlib.Core.List.{List}
use Prim.Native.Nat.{ℕ}
use lib.ListN.{length}
use lib.Seq.{sets}
use Rattle.field.specs.declared.blocks.Block.{Block}
use Rattle.field.specs.Field.{bytes_of}
use Rattle.field.proofs.Packed.{bytes_of_whole}

pub block_written : (b : Block) (out : List ℕ) {a : Block} {t : List ℕ} → length out ≡ 16 → a ≡ b → t ≡ sets out 0 (bytes_of a) → t ≡ bytes_of b
block_written b out l e f = f ∙ ap (λ (x : Block). sets out 0 (bytes_of x)) e ∙ bytes_of_whole b out l
