-- Document 01's table of edits, a law for each row: what the sum of the bytes afterwards is made of. The file is written as the parts that the
-- edit tells apart, so that no law speaks of places. A row's W is the sum of the given bytes behind lead zero bytes, and its k a
-- difference of block counts.
-- Rests on field's laws of the ring, of added byte lists and of the sum (Ring, XorBytes, Sums), and on Placed.
use mathlib.Core.Path.{◌≡◌, sym, ap, ap₂, ◌∙◌}
use mathlib.Core.List.{List, ◌++◌}
use Prim.Native.Nat.{ℕ, ◌+◌, ◌-◌, ◌/◌, ◌%◌}
use native.Mathlib.Nat.{le_refl}
use native.Mathlib.Omega.{arith}
use lib.ListN.{length, replicate, length-append, length-replicate}
use Rattle.field.specs.declared.blocks.Block.{Block}
use Rattle.field.specs.Field.{Small, ◌⊕◌, ◌•◌, power, companion, sum, blocks, xor_bytes}
use Rattle.field.proofs.Ring.{⊕-comm, ⊕-cancel, small-•}
use Rattle.field.proofs.XorBytes.{length-xor, xor_bytes-zeros, xor_bytes-cancel, xor_bytes-append, append-xor_bytes}
use Rattle.field.proofs.Sums.{small-sum, sum_linear, sum_trailing, sum-append-power, sum_divided}
use Rattle.file.proofs.Placed.{sum_at, sum_amid}

-- new bytes in the place of old ones are what old and new come to, added there
replaced-xor : (a old new c : List ℕ) → length old ≡ length new
    → a ++ new ++ c ≡ xor_bytes (a ++ old ++ c) (replicate (length a) 0 ++ xor_bytes old new ++ replicate (length c) 0)
replaced-xor a old new c e =
    let z : List ℕ = replicate (length a) 0 in
    let lead : length a ≡ length z = sym (length-replicate (length a) 0) in
    let front : length (a ++ old) ≡ length (z ++ xor_bytes old new) =
    simp (length-append, length-replicate, length-xor old new e) in
    sym
    (xor_bytes-append (a ++ old) c (z ++ xor_bytes old new) (replicate (length c) 0) front
    ∙ ap₂ ◌++◌
    (xor_bytes-append a old z (xor_bytes old new) lead
    ∙ ap₂ ◌++◌ (xor_bytes-zeros a (length a) (le_refl (length a))) (xor_bytes-cancel old new (omega arith)))
    (xor_bytes-zeros c (length c) (le_refl (length c))))

-- change, S + W·H^k: new in the place of old, between a and c
pub change-sum : (h : Block) (a old new c : List ℕ) → length old ≡ length new
    → sum h (a ++ old ++ c)
    ⊕ sum h (replicate (length a % 16) 0 ++ xor_bytes old new)
    • power h (blocks (length a + length old + length c) - blocks (length a + length old))
    ≡ sum h (a ++ new ++ c)
change-sum h a old new c e =
    let w = xor_bytes old new in
    let placed : List ℕ = replicate (length a) 0 ++ w ++ replicate (length c) 0 in
    let l : length w ≡ length old = length-xor old new e in
    let whole : length (a ++ old ++ c) ≡ length placed = simp (length-append, length-replicate, l) in
    sym
    (ap (sum h) (replaced-xor a old new c e)
    ∙ sum_linear h (a ++ old ++ c) placed whole
    ∙ ap (◌⊕◌ (sum h (a ++ old ++ c)))
    (sum_amid h (length a) (length c) w
    ∙ ap (λ (n : ℕ). sum h (replicate (length a % 16) 0 ++ w) • power h (blocks (length a + n + length c) - blocks (length a + n))) l))

-- append, S·H^k + W: s behind f, inside f's last block too
pub append-sum : (h : Block) (f s : List ℕ)
    → sum h f • power h (blocks (length f + length s) - blocks (length f)) ⊕ sum h (replicate (length f % 16) 0 ++ s) ≡ sum h (f ++ s)
append-sum h f s =
    let l : length (f ++ replicate (length s) 0) ≡ length (replicate (length f) 0 ++ s) = simp (length-append, length-replicate) in
    sym
    (ap (sum h) (append-xor_bytes f s)
    ∙ sum_linear h (f ++ replicate (length s) 0) (replicate (length f) 0 ++ s) l
    ∙ ap₂ ◌⊕◌ (sum_trailing h f (length s)) (sum_at h (length f) s))

-- prepend, S + W·H^k: whole blocks s before f
pub prepend-sum : (h : Block) (s f : List ℕ) → length s % 16 ≡ 0 → sum h f ⊕ sum h s • power h (blocks (length f)) ≡ sum h (s ++ f)
prepend-sum h s f w = ⊕-comm (sum h f) _ ∙ sym (sum-append-power h s f (length s / 16) (omega arith))

-- drop-front, S + W·H^k: whole blocks s leave, and rest stays
pub drop-sum : (h : Block) (s rest : List ℕ) → length s % 16 ≡ 0
    → sum h (s ++ rest) ⊕ sum h s • power h (blocks (length rest)) ≡ sum h rest
drop-sum h s rest w =
    let x = sum h s • power h (blocks (length rest)) in
    ⊕-comm (sum h (s ++ rest)) x
    ∙ ap (◌⊕◌ x) (sum-append-power h s rest (length s / 16) (omega arith))
    ∙ ⊕-cancel x (sum h rest) (small-sum h rest)

-- cut-tail, (S + W)·I^k: s leaves, and kept stays. What is left of S, once W is gone, is the sum of kept times H^k, and I^k undoes H^k.
pub cut_sum : (h : Block) (kept s : List ℕ) → Small h
    → (sum h (kept ++ s) ⊕ sum h (replicate (length kept % 16) 0 ++ s))
    • power (companion h) (blocks (length kept + length s) - blocks (length kept))
    ≡ sum h kept
cut_sum h kept s small =
    let k = blocks (length kept + length s) - blocks (length kept) in
    let x = sum h kept • power h k in
    let w = sum h (replicate (length kept % 16) 0 ++ s) in
    ap (λ (y : Block). (y ⊕ w) • power (companion h) k) (sym (append-sum h kept s))
    ∙ ap (λ (y : Block). y • power (companion h) k) (⊕-comm (x ⊕ w) w ∙ ap (◌⊕◌ w) (⊕-comm x w) ∙ ⊕-cancel w x (small-• (sum h kept) (power h k)))
    ∙ sum_divided h kept k small
