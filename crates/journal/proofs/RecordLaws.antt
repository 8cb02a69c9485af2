-- A record's head, a law for each return: as two words, its refusal by its kind, and what stands behind it, kind by kind.
-- They rest on the field's laws of numbers as bytes and on the laws of a list of causes.
use mathlib.Core.Path.{◌≡◌, refl, sym, ap, ap₂, subst, ◌∙◌}
use mathlib.Core.Bool.{Bool, true, false, cond, not, ◌&&◌}
use mathlib.Core.Logic.{inl, inr}
use mathlib.Core.List.{List, [], ◌∷◌}
use Prim.Native.Nat.{ℕ, ◌+◌, ◌*◌, ◌/◌, ◌%◌, ◌^◌, ◌≤◌, ◌<◌}
use native.Mathlib.Omega.{arith}
use lib.Dec.{eqb, ltb}
use borrow.Author.Tests.{eq-eqb, ne_eqb, lt-ltb, le-ltb, ltb-false}
use Rattle.std.specs.Prelude.{Option, Some, None}
use Rattle.refusals.specs.Refusals.{first}
use Rattle.refusals.proofs.Laws.{first_none, first_here, first_later, first_passed}
use Rattle.field.specs.Field.{number}
use Rattle.field.proofs.Bytes.{number_lt, number-split}
use Rattle.file.specs.declared.geometry.Kind.{Kind}
use Rattle.file.specs.declared.geometry.Kind.TheVariants as kind
use Rattle.file.proofs.ShapeLaws as shape
use Rattle.journal.specs.declared.causes.Cause.{Cause}
use Rattle.journal.specs.declared.causes.Cause.TheVariants.{JournalLength, UnknownKind, PlaceOutsideChange, File}
use Rattle.journal.specs.Records.{kind_number, record_kind, record_place, record_length, body_bytes, by_kind}
use Rattle.journal.specs.Records.{head_causes}
use Rattle.journal.specs.Clauses.{cause_number, KindOf, HeadAt, body_of}

-- no cause has the number 0
pub cause_pos : (c : Cause) → 0 < cause_number c
cause_pos JournalLength = omega arith
cause_pos UnknownKind = omega arith
cause_pos PlaceOutsideChange = omega arith
cause_pos (File c) = shape.cause_pos c

-- ---- the head

-- the size of a record's bytes has room in 32 bits
pub size_fits : (j : List ℕ) (at : ℕ) {size : ℕ} → size ≡ number j at 4 → size < 2 ^ 32
size_fits j at e = omega (arith, e, number_lt j at 4)

-- its first word is kind and place, and the next four bytes are the size
pub head_read : (j : List ℕ) (at : ℕ) {word size : ℕ} {o : Option Kind} → word ≡ number j at 8 → size ≡ number j (at + 8) 4
    → KindOf (word / 2 ^ 61) o → HeadAt j at (record { kind = o; p = word % 2 ^ 61; size = size })
unfolding record_kind record_place record_length
head_read j at {word} {size} {o} ew es k =
    let whole : number j at 12 ≡ word * 2 ^ 32 + size =
    number-split j at 8 4 ∙ ap₂ (λ (a b : ℕ). a * 2 ^ 32 + b) (sym ew) (sym es)
    in
    let fits = size_fits j (at + 8) es in
    let kind : word / 2 ^ 61 ≡ number j at 12 / 2 ^ 93 = omega (arith, whole, fits) in
    record { kind = subst (λ (n : ℕ). KindOf n o) kind k; p = omega (arith, whole, fits); size = omega (arith, whole, fits) }

-- what stands behind a head of no change
pub body_other : (kind l : ℕ) → (kind ≡ 1 → ⊥) → l ≡ body_bytes kind l
unfolding body_bytes
body_other kind l e = rw (ne_eqb _ _ e)

-- behind a head, by its kind
pub body-named : (o : Option Kind) (n l : ℕ) → KindOf n o → body_of o l ≡ body_bytes n l
unfolding body_bytes kind_number
body-named None n l (inl z) = body_other n l (λ e. omega arith)
body-named None n l (inr m) = body_other n l (λ e. omega arith)
body-named (Some kind.Change) n l e = rw e
body-named (Some kind.Append) n l e = rw e
body-named (Some kind.Prepend) n l e = rw e
body-named (Some kind.DropFront) n l e = rw e
body-named (Some kind.CutTail) n l e = rw e

-- ---- its refusal

module _ (kind p l left : ℕ) {body : ℕ} (e : body ≡ body_bytes kind l) where
  pub head_short : left < body → 10 ≡ first (head_causes kind p l left)
  unfolding head_causes
  head_short h = first_here _ _ _ (lt-ltb left (body_bytes kind l) (omega (arith, e)))

  module _ (h : body ≤ left) where
    enough : ltb left (body_bytes kind l) ≡ false
    enough = le-ltb left (body_bytes kind l) (omega (arith, e))

    pub head_none : kind ≡ 0 → 11 ≡ first (head_causes kind p l left)
    unfolding head_causes
    head_none k = first_later _ _ _ enough (first_here _ _ _ (eq-eqb _ _ k))

    module _ (k : kind ≡ 0 → ⊥) where
      pub head_high : 5 < kind → 11 ≡ first (head_causes kind p l left)
      unfolding head_causes
      head_high m = first_later _ _ _ enough (first_later _ _ _ (ne_eqb _ _ k) (first_here _ _ _ (lt-ltb _ _ m)))

      module _ (m : kind ≤ 5) where
        -- one of the five
        named : {x : ℕ} → x ≡ first ((not (eqb kind 1) && not (eqb p 0), 12) ∷ []) → x ≡ first (head_causes kind p l left)
        unfolding head_causes
        named f = first_later _ _ _ enough (first_later _ _ _ (ne_eqb _ _ k) (first_later _ _ _ (le-ltb _ _ m) f))

        pub head_change : kind ≡ 1 → 0 ≡ first (head_causes kind p l left)
        head_change c = named (first_later _ _ _ (rw (eq-eqb _ _ c)) first_none)

        module _ (c : kind ≡ 1 → ⊥) where
          pub head_place : (p ≡ 0 → ⊥) → 12 ≡ first (head_causes kind p l left)
          head_place z = named (first_here _ _ _ (rw (ne_eqb _ _ c, ne_eqb _ _ z)))

          pub head_fits : p ≡ 0 → 0 ≡ first (head_causes kind p l left)
          head_fits z = named (first_later _ _ _ (rw (ne_eqb _ _ c, eq-eqb _ _ z)) first_none)

-- the number of a kind, and of one that is no change
known : (k : Kind) {n : ℕ} → n ≡ kind_number k → (0 < n) × (n ≤ 5)
unfolding kind_number
known kind.Change e = (omega arith, omega arith)
known kind.Append e = (omega arith, omega arith)
known kind.Prepend e = (omega arith, omega arith)
known kind.DropFront e = (omega arith, omega arith)
known kind.CutTail e = (omega arith, omega arith)

alone : (k : Kind) {n : ℕ} → (k ≡ kind.Change → ⊥) → n ≡ kind_number k → n ≡ 1 → ⊥
unfolding kind_number
alone kind.Change c e z = c refl
alone kind.Append c e z = omega arith
alone kind.Prepend c e z = omega arith
alone kind.DropFront c e z = omega arith
alone kind.CutTail c e z = omega arith

-- the refusal by a kind, or by none
module _ (n p l left : ℕ) {body : ℕ} (e : body ≡ body_bytes n l) (h : body ≤ left) where
  pub head_unnamed : KindOf n None → 11 ≡ first (head_causes n p l left)
  head_unnamed (inl z) = head_none n p l left e h z
  head_unnamed (inr m) = head_high n p l left e h (λ z. omega arith) m

  pub head_of_change : KindOf n (Some kind.Change) → 0 ≡ first (head_causes n p l left)
  unfolding kind_number
  head_of_change k = head_change n p l left e h (λ z. omega arith) (omega arith) k

  module _ (k : Kind) (c : k ≡ kind.Change → ⊥) (named : KindOf n (Some k)) where
    pub head_misplaced : (p ≡ 0 → ⊥) → 12 ≡ first (head_causes n p l left)
    head_misplaced z = head_place n p l left e h (λ y. omega (arith, known k named)) (known k named).1 (alone k c named) z

    pub head_of_other : p ≡ 0 → 0 ≡ first (head_causes n p l left)
    head_of_other z = head_fits n p l left e h (λ y. omega (arith, known k named)) (known k named).1 (alone k c named) z

-- backwards: the bytes of a record that opens are there
pub head_enough : (kind p l left : ℕ) → first (head_causes kind p l left) ≡ 0 → body_bytes kind l ≤ left
unfolding head_causes
head_enough kind p l left e = ltb-false left (body_bytes kind l) (first_passed _ _ _ e (omega arith)).0

-- ---- what stands behind it, kind by kind

-- what holds of both entries of every kind holds of both entries of one
pub by_kinds : {A B : Type 0} (P : A → B → Type 0) (kind : ℕ) {a b c d e : A} {a' b' c' d' e' : B} → P a a' → P b b' → P c c' → P d d'
    → P e e' → P (by_kind kind a b c d e) (by_kind kind a' b' c' d' e')
unfolding by_kind
by_kinds P kind {a} {b} {c} {d} {e} {a'} {b'} {c'} {d'} {e'} pa pb pc pd pe = flags (eqb kind 1) (eqb kind 2) (eqb kind 3) (eqb kind 4)
  where
    flags : (t u v w : Bool) → P (cond t a (cond u b (cond v c (cond w d e)))) (cond t a' (cond u b' (cond v c' (cond w d' e'))))
    flags true u v w = pa
    flags false true v w = pb
    flags false false true w = pc
    flags false false false true = pd
    flags false false false false = pe

-- the bytes behind a head, kind by kind
pub body-kinds : (kind l : ℕ) → body_bytes kind l ≡ by_kind kind (2 * l) l l l l
unfolding body_bytes by_kind
body-kinds kind l = ap (cond (eqb kind 1) (2 * l)) (sym (ap (cond (eqb kind 2) l) (ap (cond (eqb kind 3) l) (same (eqb kind 4)) ∙ same (eqb kind 3)) ∙ same (eqb kind 2)))
  where
    same : (t : Bool) → cond t l l ≡ l
    same true = refl
    same false = refl
