-- Start and read: what holds where they are not refused.
use mathlib.Core.Path.{◌≡◌}
use mathlib.Core.Bool.{true}
use mathlib.Core.List.{List}
use Prim.Native.Nat.{ℕ, ◌≤◌}
use native.Mathlib.Omega.{arith}
use borrow.Author.Tests.{ltb-false, not-false}
use Rattle.refusals.proofs.Laws.{first_passed}
use Rattle.cipher.specs.Aes.{key_fits}
use Rattle.field.specs.Field.{max_bytes}
use Rattle.file.specs.States.{begin_refusal}

-- a start or read that is not refused has a key that fits and is not too long
pub record Begins (key : List ℕ) (n : ℕ) : Type 0 where
  pub fits : key_fits key ≡ true
  pub short : n ≤ max_bytes

pub begins : (key : List ℕ) (n : ℕ) → begin_refusal key n ≡ 0 → Begins key n
unfolding begin_refusal
begins key n e =
    let k = first_passed _ _ _ e (omega arith) in
    record { fits = not-false _ k.0; short = ltb-false _ _ (first_passed _ _ _ k.1 (omega arith)).0 }
