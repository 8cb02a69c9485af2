-- The tag of a state, and what holds where a seal is not refused.
use mathlib.Core.Path.{◌≡◌, refl, ap, ◌∙◌}
use mathlib.Core.List.{List}
use Prim.Native.Nat.{ℕ, ◌-◌, ◌^◌, ◌≤◌}
use native.Mathlib.Omega.{arith}
use lib.ListN.{length, replicate}
use lib.Seq.{sets}
use borrow.Author.Tests.{ltb-false, eqb-false}
use Rattle.field.specs.declared.blocks.Block.{Block}
use Rattle.field.specs.Field.{bytes, max_bytes}
use Rattle.refusals.proofs.Laws.{first_passed, agreed}
use Rattle.gcm.specs.Gcm.{tag_of}
use Rattle.file.specs.declared.states.State.{State}
use Rattle.file.specs.States.{key_of}
use Rattle.file.specs.Slips.{slip_bytes, nonce_of, state_tag}
use Rattle.file.specs.Slips.{seal_refusal}
use Rattle.field.proofs.Stores.{stored-none, stored_next, stored-all}

-- ---- the tag of a state

-- a and b are the nonce after each store
pub state-tag : (st : State) (arm number : ℕ) {a b : List ℕ} {r : Block} → a ≡ sets (replicate 12 0) 0 (bytes 4 arm)
    → b ≡ sets a 4 (bytes 8 number) → r ≡ tag_of st.key.bytes st.h st.s st.n b → r ≡ state_tag st arm number
unfolding state_tag nonce_of key_of
state-tag st arm number ea eb er =
    er
    ∙ ap (tag_of st.key.bytes st.h st.s st.n)
    (stored-all (stored_next 8 number (stored_next 4 arm (stored-none (replicate 12 0) 0) ea) eb) refl)

-- ---- seal

-- what holds of a seal that is not refused
pub record Seals (n last : ℕ) (out : List ℕ) : Type 0 where
  pub short : n ≤ max_bytes
  pub size : length out ≡ slip_bytes
  pub room : last ≡ 2 ^ 64 - 1 → ⊥

pub seal-accepted : (n last : ℕ) (out : List ℕ) → seal_refusal n last out ≡ 0 → Seals n last out
unfolding seal_refusal
seal-accepted n last out e =
    let l = first_passed _ _ _ e (omega arith) in
    let s = first_passed _ _ _ l.1 (omega arith) in
    record {
      short = ltb-false _ _ l.0;
      size = agreed _ _ s.0;
      room = eqb-false _ _ (first_passed _ _ _ s.1 (omega arith)).0;
    }
