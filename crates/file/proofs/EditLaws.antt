-- What an accepted edit does to the machine's bytes, their count and their sum, and the bound on its count: the laws of the five edits by which
-- the editor's run and the plain machine's are compared.
-- Rests on Accepted, Placed, ShapeLaws and EditSums, and on field's bound on seek's steps (Steps).
use mathlib.Core.Path.{◌≡◌, sym, ap, ap₂, ◌∙◌}
use mathlib.Core.Logic.{◌≢◌, ◌⊎◌, inl, inr}
use mathlib.Core.List.{List, [], ◌++◌, append-nil, append_assoc}
use Prim.Native.Nat.{ℕ, ◌+◌, ◌-◌, ◌*◌, ◌%◌, ◌≤◌, ◌<◌, zero-le, max}
use native.Mathlib.Nat.{eq-zero-or-pos}
use native.Mathlib.Omega.{arith}
use lib.ListN.{length, take, drop, replicate, length-append, length-take, length-drop, take-append-drop, drop_of_length-le}
use lib.Seq.{drop-drop, take_all, length-take-le}
use borrow.Author.Tests.{ne_eqb}
use Rattle.field.specs.declared.blocks.Block.{Block}
use Rattle.field.specs.Field.{Small, ◌⊕◌, ◌•◌, power, sum, companion, max_bytes, blocks, steps, width}
use Rattle.field.proofs.XorBytes.{xor_bytes-zeros}
use Rattle.field.proofs.Steps.{steps-bound}
use Rattle.file.specs.declared.geometry.Kind.{Kind}
use Rattle.file.specs.declared.geometry.Kind.TheVariants.{Change, DropFront, CutTail}
use Rattle.file.specs.Edits.{Edit, change, append, prepend, drop_front, cut_tail, kind_of, place_of, given, replacing}
use Rattle.file.specs.Edits.{kind_refusal, stands_on, length_after, touched, exponent, Geometry, untouched, geometry_at, edit_refusal, count_of, count_limit}
use Rattle.file.specs.Table.{placed_sum, new_sum}
use Rattle.file.specs.Machine.{bytes_after, NamesHeld}
use Rattle.file.proofs.Accepted.{Accepted, accepted}
use Rattle.file.proofs.Placed.{exponent-change, exponent-drop, exponent-le, some_block}
use Rattle.file.proofs.ShapeLaws.{touched-some, geometry-refusal, geometry-fits, geometry-nothing, geometry-none}
use Rattle.file.proofs.EditSums.{change-sum, append-sum, prepend-sum, drop-sum, cut_sum}

-- ---- what an edit with its bytes does to lengths

refusal-kind : (n : ℕ) (e : Edit) → edit_refusal n e ≡ kind_refusal (kind_of e) (place_of e) (length (given e)) (length (replacing e)) n
unfolding edit_refusal geometry_at
refusal-kind n e = geometry-refusal _ _ _ _ n

-- of an accepted edit of at least one byte
pub geometry-some : (n : ℕ) (e : Edit) → edit_refusal n e ≡ 0 → length (given e) ≢ 0
    → geometry_at n e ≡ record {
      refusal = 0;
      lead = stands_on (kind_of e) (place_of e) (length (given e)) n % 16;
      q = touched (stands_on (kind_of e) (place_of e) (length (given e)) n) (length (given e));
      k = exponent (kind_of e) (place_of e) (length (given e)) n;
      n = length_after (kind_of e) (length (given e)) n;
    }
unfolding geometry_at
geometry-some n e a z = geometry-fits _ _ _ _ n (sym (refusal-kind n e) ∙ a) (omega arith)

-- which touches a block, as no other edit does
pub some-touched : (n : ℕ) (e : Edit) → edit_refusal n e ≡ 0 → length (given e) ≢ 0 → (geometry_at n e).q ≢ 0
some-touched n e a z q = touched-some _ _ (omega arith) (sym (ap (λ (g : Geometry). g.q) (geometry-some n e a z)) ∙ q)

pub refused-geometry : (n : ℕ) (e : Edit) → edit_refusal n e ≢ 0 → geometry_at n e ≡ untouched (edit_refusal n e) n
refused-geometry n e a = rw (refusal-kind n e) (unfold geometry_at in geometry-none _ _ _ _ n (λ z. a (refusal-kind n e ∙ z)))

pub refused-untouched : (n : ℕ) (e : Edit) → edit_refusal n e ≢ 0 → (geometry_at n e).q ≡ 0
refused-untouched n e a = ap (λ (g : Geometry). g.q) (refused-geometry n e a)

pub none-untouched : (n : ℕ) (e : Edit) → edit_refusal n e ≡ 0 → length (given e) ≡ 0 → (geometry_at n e).q ≡ 0
unfolding geometry_at
none-untouched n e a z = sym (ap (λ (g : Geometry). g.q) (geometry-nothing _ _ _ _ n (sym (refusal-kind n e) ∙ a) z))

-- what holds of an accepted edit
pub allowed : (n : ℕ) (e : Edit) → edit_refusal n e ≡ 0 → Accepted (kind_of e) (place_of e) (length (given e)) (length (replacing e)) n
allowed n e a = accepted (kind_of e) (place_of e) (length (given e)) (length (replacing e)) n (sym (refusal-kind n e) ∙ a)

-- ---- the bytes and their count

-- the length afterwards is the count of the bytes afterwards
pub bytes_count : (f : List ℕ) (e : Edit) → edit_refusal (length f) e ≡ 0 → length (bytes_after f e) ≡ length_after (kind_of e) (length (given e)) (length f)
unfolding bytes_after length_after kind_of place_of given replacing
bytes_count f (change p old new) a =
    let k = allowed (length f) (change p old new) a in
    simp (length-append, length-take, length-drop) (omega arith)
bytes_count f (append s) a = length-append f s
bytes_count f (prepend s) a = simp length-append (omega arith)
bytes_count f (drop_front s) a = length-drop (length s) f
bytes_count f (cut_tail s) a = simp length-take (omega arith)

-- no accepted edit passes the limit
pub limit_kept : (n : ℕ) (e : Edit) → edit_refusal n e ≡ 0 → length_after (kind_of e) (length (given e)) n ≤ max_bytes
unfolding length_after kind_of place_of given replacing
limit_kept n (change p old new) a = (allowed n (change p old new) a).bounded
limit_kept n (append s) a = (allowed n (append s) a).fits
limit_kept n (prepend s) a = (allowed n (prepend s) a).fits.1
limit_kept n (drop_front s) a =
    let k = allowed n (drop_front s) a in
    omega arith
limit_kept n (cut_tail s) a =
    let k = allowed n (cut_tail s) a in
    omega arith

-- an edit of no bytes leaves the bytes as they are
pub nothing_kept : (f : List ℕ) (e : Edit) → edit_refusal (length f) e ≡ 0 → length (given e) ≡ 0 → bytes_after f e ≡ f
unfolding bytes_after kind_of place_of given replacing
nothing_kept f (change p old new) a n =
    let k = allowed (length f) (change p old new) a in
    let none : new ≡ [] = drop_of_length-le new {i = 0} (omega arith) in
    let at : p + 0 ≡ p = omega arith in
    rw (none, at, append-nil) (take-append-drop p f)
nothing_kept f (append s) a n =
    let none : s ≡ [] = drop_of_length-le s {i = 0} (omega arith) in
    rw none (append-nil f)
nothing_kept f (prepend s) a n =
    let none : s ≡ [] = drop_of_length-le s {i = 0} (omega arith) in
    rw none
nothing_kept f (drop_front s) a n = rw n
nothing_kept f (cut_tail s) a n = rw n (take_all (length f - 0) f (omega arith))

-- ---- the sum

-- the given bytes stand alone where there are no new ones
placed-alone : (h : Block) (lead : ℕ) (s : List ℕ) → placed_sum h lead s [] ≡ sum h (replicate lead 0 ++ s)
unfolding placed_sum
placed-alone h lead s = ap (λ (t : List ℕ). sum h (replicate lead 0 ++ t)) (xor_bytes-zeros s 0 zero-le)

-- the parts of a file that a change tells apart
change-parts : (f old : List ℕ) (p : ℕ) → take (length old) (drop p f) ≡ old → take p f ++ old ++ drop (p + length old) f ≡ f
change-parts f old p t =
    append_assoc (take p f) old (drop (p + length old) f)
    ∙ ap (◌++◌ (take p f)) (ap₂ ◌++◌ (sym t) (sym (drop-drop (length old) p f)) ∙ take-append-drop (length old) (drop p f))
    ∙ take-append-drop p f

-- the rows of the table whose bytes stand at a place of the file, at their places

change_kept : (h : Block) (f old new : List ℕ) (p : ℕ) → 1 ≤ length old → length old ≡ length new → p + length old ≤ length f
    → take (length old) (drop p f) ≡ old
    → sum h f ⊕ placed_sum h (p % 16) old new • power h (exponent Change p (length old) (length f))
    ≡ sum h (take p f ++ new ++ drop (p + length new) f)
unfolding placed_sum
change_kept h f old new p l e b t =
    let front : length (take p f) ≡ p = length-take-le p f (omega arith) in
    let all : p + length old + length (drop (p + length old) f) ≡ length f = simp length-drop (omega arith) in
    rw (exponent-change p (length old) (length f) l, ← e)
    (rw (change-parts f old p t, front, all) at (change-sum h (take p f) old new (drop (p + length old) f) e))

drop_kept : (h : Block) (f s : List ℕ) → 1 ≤ length s → length s % 16 ≡ 0 → length s ≤ length f → take (length s) f ≡ s
    → sum h f ⊕ placed_sum h 0 s [] • power h (exponent DropFront 0 (length s) (length f)) ≡ sum h (drop (length s) f)
drop_kept h f s l w b t =
    let parts : s ++ drop (length s) f ≡ f = ap (λ (x : List ℕ). x ++ drop (length s) f) (sym t) ∙ take-append-drop (length s) f in
    rw (exponent-drop 0 (length s) (length f) l w b, placed-alone h 0 s)
    (rw (parts, length-drop (length s) f) at (drop-sum h s (drop (length s) f) w))

cut_kept : (h : Block) (f s : List ℕ) → Small h → length s ≤ length f → drop (length f - length s) f ≡ s
    → (sum h f ⊕ placed_sum h ((length f - length s) % 16) s []) • power (companion h) (exponent CutTail 0 (length s) (length f))
    ≡ sum h (take (length f - length s) f)
unfolding exponent
cut_kept h f s small b t =
    let n = length f - length s in
    let parts : take n f ++ s ≡ f = ap (◌++◌ (take n f)) (sym t) ∙ take-append-drop n f in
    let front : length (take n f) ≡ n = length-take-le n f (omega arith) in
    let all : n + length s ≡ length f = omega arith in
    rw (placed-alone h (n % 16) s) (rw (parts, front, all) at (cut_sum h (take n f) s small))

-- document 01's table gives the sum of the bytes afterwards, where the bytes named are there
pub sum_kept :
    (h : Block) (f : List ℕ) (e : Edit) → Small h → edit_refusal (length f) e ≡ 0 → length (given e) ≢ 0 → NamesHeld f e
    → new_sum (kind_of e) h (companion h) (sum h f)
    (placed_sum h (stands_on (kind_of e) (place_of e) (length (given e)) (length f) % 16) (given e) (replacing e))
    (exponent (kind_of e) (place_of e) (length (given e)) (length f))
    ≡ sum h (bytes_after f e)
unfolding new_sum stands_on exponent bytes_after NamesHeld kind_of place_of given replacing
sum_kept h f (change p old new) small a n t =
    let k = allowed (length f) (change p old new) a in
    change_kept h f old new p (omega arith) k.fits.0 k.fits.1 t
sum_kept h f (append s) small a n t = rw (placed-alone h (length f % 16) s) (append-sum h f s)
sum_kept h f (prepend s) small a n t = rw (placed-alone h 0 s) (prepend-sum h s f (allowed (length f) (prepend s) a).fits.0)
sum_kept h f (drop_front s) small a n t =
    let k = allowed (length f) (drop_front s) a in
    drop_kept h f s (omega arith) k.fits.0 k.fits.1 t
sum_kept h f (cut_tail s) small a n t = cut_kept h f s small (allowed (length f) (cut_tail s) a).fits t

-- ---- the count

-- q + seek(k) + 1 of an accepted edit of at least one byte is at most q + 2b, since k is at most the larger block count
some-within : (kind : Kind) {p l r n : ℕ} → Accepted kind p l r n → 0 < l
    → (q : ℕ) → q + steps (exponent kind p l n) + 1 ≤ q + 2 * width (max (blocks n) (blocks (length_after kind l n)))
some-within kind {p} {l} {r} {n} a some q = omega (arith, steps-bound _ _ (exponent-le kind p l n) (some_block kind a some))

-- the count is at most q + 2b
within_by : (n : ℕ) (e : Edit) → (edit_refusal n e ≡ 0) ⊎ (0 < edit_refusal n e) → (length (given e) ≡ 0) ⊎ (0 < length (given e))
    → count_of (geometry_at n e) ≤ count_limit n (geometry_at n e)
unfolding count_of count_limit
within_by n e (inr a) l = rw (refused-untouched n e (λ z. omega arith)) zero-le
within_by n e (inl a) (inl z) = rw (none-untouched n e a z) zero-le
within_by n e (inl a) (inr z) =
    rw (ne_eqb _ 0 (some-touched n e a (λ y. omega arith)), geometry-some n e a (λ y. omega arith)) (some-within (kind_of e) (allowed n e a) z _)

pub count-within : (n : ℕ) (e : Edit) → count_of (geometry_at n e) ≤ count_limit n (geometry_at n e)
count-within n e = within_by n e (eq-zero-or-pos (edit_refusal n e)) (eq-zero-or-pos (length (given e)))
