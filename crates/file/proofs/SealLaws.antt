-- Seal and check at a state: what a genuine slip is (`Checked`), both ways, and that an accepted seal writes one, with the next number.
-- It rests on the slip's fields (`SlipLaws`) and on what an accepted seal passed (`SealReturns`).
use mathlib.Core.Path.{◌≡◌, refl, sym, ap₂, ◌∙◌}
use mathlib.Core.Bool.{Bool, true, false, cond, ◌&&◌, false≢true}
use mathlib.Core.List.{List}
use Prim.Native.Nat.{ℕ, ◌+◌, ◌≤◌, ◌<◌, ◌^◌}
use native.Mathlib.Omega.{arith}
use lib.Dec.{eqb}
use lib.ListN.{length}
use borrow.Author.Tests.{eqb-true, eq-eqb, le-ltb}
use Rattle.refusals.proofs.Laws.{first_none, first_later, first_passed, agree, agreed}
use Rattle.field.specs.Field.{value, max_bytes}
use Rattle.field.proofs.Values.{value-lt}
use Rattle.file.specs.declared.states.State.{State}
use Rattle.file.specs.Slips.{slip_bytes, slip_version, slip_length, slip_arm, slip_number, slip_tag, state_tag}
use Rattle.file.specs.Slips.{open_causes, seal_refusal, sealed_next, check_refusal, fitting, genuine}
use Rattle.file.proofs.SlipLaws.{ReadBack, slip-back}
use Rattle.file.proofs.SealReturns.{seal-accepted}

-- a byte list is genuine where it has 36 bytes and version 1, and the state's length, arm and tag under its own nonce
pub record Checked (st : State) (slip : List ℕ) : Type 0 where
  pub size : length slip ≡ slip_bytes
  pub version : slip_version slip ≡ 1
  pub same_length : slip_length slip ≡ st.n
  pub same_arm : slip_arm slip ≡ st.arm
  pub tag : slip_tag slip ≡ value (state_tag st (slip_arm slip) (slip_number slip))

-- ---- an accepted seal

-- leaves room for its number
pub seal-room : (n last : ℕ) (out : List ℕ) → seal_refusal n last out ≡ 0 → last < 2 ^ 64 → last + 1 < 2 ^ 64
seal-room n last out a l =
    let z = (seal-accepted n last out a).room in
    omega arith

module _ (st : State) (out : List ℕ) (a : seal_refusal st.n st.last out ≡ 0) (w : st.arm < 2 ^ 32) (l : st.last < 2 ^ 64) where
  read_back :
      ReadBack (sealed_next st).slip st.n st.arm (st.last + 1) (value (state_tag st st.arm (st.last + 1)))
  unfolding sealed_next
  read_back =
      let n = (seal-accepted st.n st.last out a).short in
      slip-back st.n st.arm (st.last + 1) _ (omega arith) w (seal-room st.n st.last out a l) (value-lt _)

  -- its slip carries the next number
  pub next_number : slip_number (sealed_next st).slip ≡ st.last + 1
  next_number = read_back.number_is

  -- and is genuine
  pub next_checked : Checked st (sealed_next st).slip
  next_checked =
      let b = read_back in
      record {
        size = b.size;
        version = b.version;
        same_length = b.length_is;
        same_arm = b.arm_is;
        tag = b.tag_is ∙ ap₂ (λ (x y : ℕ). value (state_tag st x y)) (sym b.arm_is) (sym b.number_is);
      }

-- ---- check

-- the tests of check: every one holds of a genuine slip
all_true : (a b c d : Bool) → cond a (b && c && d) false ≡ true → (a ≡ true) × (b ≡ true) × (c ≡ true) × (d ≡ true)
all_true true true true d e = (refl, refl, refl, e)
all_true true true false d e = absurd (false≢true e)
all_true true false c d e = absurd (false≢true e)
all_true false b c d e = absurd (false≢true e)

pub check-opens : (n : ℕ) (slip : List ℕ) → check_refusal n slip ≡ 0 → (length slip ≡ slip_bytes) × (slip_version slip ≡ 1)
unfolding check_refusal open_causes
check-opens n slip e =
    let s = first_passed _ _ _ (first_passed _ _ _ e (omega arith)).1 (omega arith) in
    (agreed _ _ s.0, agreed _ _ (first_passed _ _ _ s.1 (omega arith)).0)

module _ (st : State) (slip : List ℕ) (e : genuine st slip ≡ true) where
  passed :
      (eqb (check_refusal st.n slip) 0 ≡ true) × (eqb (slip_length slip) st.n ≡ true) × (eqb (slip_arm slip) st.arm ≡ true)
      × (eqb (slip_tag slip) (value (state_tag st (slip_arm slip) (slip_number slip))) ≡ true)
  unfolding genuine fitting
  passed = all_true _ _ _ _ e

  -- a genuine slip is not refused
  pub genuine-opens : check_refusal st.n slip ≡ 0
  genuine-opens = eqb-true _ 0 passed.0

  pub genuine-checked : Checked st slip
  genuine-checked =
      let t = passed in
      let o = check-opens st.n slip genuine-opens in
      record {
        size = o.0;
        version = o.1;
        same_length = eqb-true _ _ t.1;
        same_arm = eqb-true _ _ t.2;
        tag = eqb-true _ _ t.3;
      }

pub opens-check : (n : ℕ) (slip : List ℕ) → n ≤ max_bytes → length slip ≡ slip_bytes → slip_version slip ≡ 1 → check_refusal n slip ≡ 0
unfolding check_refusal open_causes
opens-check n slip l s v =
    sym (first_later _ _ _ (le-ltb _ _ l) (first_later _ _ _ (agree s) (first_later _ _ _ (agree v) first_none)))

pub checked-genuine : (st : State) (slip : List ℕ) → st.n ≤ max_bytes → Checked st slip → genuine st slip ≡ true
unfolding genuine fitting
checked-genuine st slip l k =
    rw (opens-check st.n slip l k.size k.version, eq-eqb _ _ k.same_length, eq-eqb _ _ k.same_arm, eq-eqb _ _ k.tag)
