-- Document 01's refusals read backwards: what holds of an edit's place and lengths where it is accepted (`accepted`), the law of the editor
-- and of the code that measures an edit alike.
-- Rests on the definitions of specs/Edits.
use mathlib.Core.Path.{◌≡◌}
use Prim.Native.Nat.{ℕ, ◌+◌, ◌%◌, ◌≤◌}
use native.Mathlib.Omega.{arith}
use borrow.Author.Tests.{ltb-false}
use Rattle.refusals.specs.Refusals.{first}
use Rattle.refusals.proofs.Laws.{first_passed, agreed}
use Rattle.field.specs.Field.{max_bytes}
use Rattle.file.specs.declared.geometry.Kind.{Kind}
use Rattle.file.specs.declared.geometry.Kind.TheVariants.{Change, Append, Prepend, DropFront, CutTail}
use Rattle.file.specs.Edits.{kind_causes, kind_refusal}

-- what the checks of a kind leave where none of them refuses
abbrev pub Fitting : Kind → (p l r n : ℕ) → Type 0
Fitting Change p l r n = (l ≡ r) × (p + l ≤ n)
Fitting Append p l r n = n + l ≤ max_bytes
Fitting Prepend p l r n = (l % 16 ≡ 0) × (n + l ≤ max_bytes)
Fitting DropFront p l r n = (l % 16 ≡ 0) × (l ≤ n)
Fitting CutTail p l r n = l ≤ n

-- the same with the limit on the length before the edit, which is looked at first
pub record Accepted (kind : Kind) (p l r n : ℕ) : Type 0 where
  pub bounded : n ≤ max_bytes
  pub fits : Fitting kind p l r n

fitting : (kind : Kind) (p l r n : ℕ) → first (kind_causes kind p l r n) ≡ 0 → Fitting kind p l r n
unfolding kind_causes
fitting Change p l r n e =
    let a = first_passed _ _ _ e (omega arith) in
    (agreed l r a.0, ltb-false n (p + l) (first_passed _ _ _ a.1 (omega arith)).0)
fitting Append p l r n e = ltb-false max_bytes (n + l) (first_passed _ _ _ e (omega arith)).0
fitting Prepend p l r n e =
    let a = first_passed _ _ _ e (omega arith) in
    (agreed (l % 16) 0 a.0, ltb-false max_bytes (n + l) (first_passed _ _ _ a.1 (omega arith)).0)
fitting DropFront p l r n e =
    let a = first_passed _ _ _ e (omega arith) in
    (agreed (l % 16) 0 a.0, ltb-false n l (first_passed _ _ _ a.1 (omega arith)).0)
fitting CutTail p l r n e = ltb-false n l (first_passed _ _ _ e (omega arith)).0

pub accepted : (kind : Kind) (p l r n : ℕ) → kind_refusal kind p l r n ≡ 0 → Accepted kind p l r n
unfolding kind_refusal
accepted kind p l r n e =
    let a = first_passed _ _ _ e (omega arith) in
    record { bounded = ltb-false max_bytes n a.0; fits = fitting kind p l r n a.1 }

-- the same of an edit that is of a kind
pub accepted_as : {kind : Kind} (k : Kind) (p l r n : ℕ) → kind ≡ k → kind_refusal kind p l r n ≡ 0 → Accepted k p l r n
accepted_as k p l r n q e = accepted k p l r n (rw q at e)
