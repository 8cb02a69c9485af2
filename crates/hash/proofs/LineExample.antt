-- Document 01's example of the three lines, computed. It rests on the field's bench case of the same file.
use mathlib.Core.Path.{◌≡◌, ap, ap₂, ◌∙◌}
use mathlib.Core.List.{[], ◌∷◌, ◌++◌}
use Prim.Native.Nat.{ℕ}
use lib.Dec.{lit<}
use Rattle.field.specs.Field.{value, one, ghash}
use Rattle.field.proofs.Values.{value-block}
use Rattle.field.proofs.FieldBench.{cases}
use Rattle.hash.specs.Lines.{ascii, decimal_within, decimal, hexadecimal, file_lines, Example}

pub example : Example
unfolding Example file_lines ascii decimal decimal_within hexadecimal
example =
    let hash : value (ghash one (1 ∷ []) []) ≡ 0x01000000000000080000000000000000 =
    ap value cases.hash_under_one ∙ value-block 0x01000000000000080000000000000000 (lit< tt) in
    ap₂
    (λ (m v : ℕ). ascii "bytes " ++ decimal 1 ++ ascii "\nblocks " ++ decimal m ++ ascii "\nghash " ++ hexadecimal 32 v ++ ascii "\n")
    cases.blocks_of_one hash
