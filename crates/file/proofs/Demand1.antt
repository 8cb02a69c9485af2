-- Demand 1: every call answers its refusal, and a refused one leaves state and slip as they were; a refused start or read gives zeros. And what
-- follows of an edit and a seal by themselves, which the boundary takes over.
-- It rests on what one call answers (`Calls`).
use mathlib.Core.Path.{◌≡◌, refl, sym, ap, ◌∙◌}
use mathlib.Core.Logic.{◌≢◌, ◌⊎◌, inl, inr}
use mathlib.Core.List.{List}
use Prim.Native.Nat.{ℕ, ◌<◌}
use native.Mathlib.Nat.{eq-zero-or-pos}
use native.Mathlib.Omega.{arith}
use Rattle.file.specs.declared.states.State.{State}
use Rattle.file.specs.Edits.{Edit}
use Rattle.file.specs.States.{StateAnswer, edited, started, read_file}
use Rattle.file.specs.Slips.{sealed}
use Rattle.file.specs.Calls.{Call, edit, seal, check, call_refusal, lent_slip, CallAnswer, call_answer}
use Rattle.file.specs.Demands.{Demand1}
use Rattle.file.proofs.Calls.{refused_call, accepted_call, call-refused, call-accepted, begun-refusal, begun-zeros}

-- an accepted call answers 0
accepted-none : (st : State) (c : Call) → (accepted_call st c).refusal ≡ 0
accepted-none st (edit e) = refl
accepted-none st (seal out) = refl
accepted-none st (check slip) = refl

causes_by : (st : State) (c : Call) → (call_refusal st.n st.last c ≡ 0) ⊎ (0 < call_refusal st.n st.last c)
    → (call_answer st c).refusal ≡ call_refusal st.n st.last c
causes_by st c (inl z) = ap (λ (a : CallAnswer). a.refusal) (call-accepted st c z) ∙ accepted-none st c ∙ sym z
causes_by st c (inr z) = ap (λ (a : CallAnswer). a.refusal) (call-refused st c (λ y. omega arith))

causes : (st : State) (c : Call) → (call_answer st c).refusal ≡ call_refusal st.n st.last c
causes st c = causes_by st c (eq-zero-or-pos (call_refusal st.n st.last c))

-- a refused call's whole answer
whole : (st : State) (c : Call) → (call_answer st c).refusal ≢ 0 → call_answer st c ≡ refused_call st c
whole st c z = call-refused st c (λ y. z (causes st c ∙ y))

pub demand_1 : Demand1
unfolding started read_file
demand_1 =
    record {
      causes = causes;
      kept = λ st c z. (ap (λ (a : CallAnswer). a.state) (whole st c z), ap (λ (a : CallAnswer). a.slip) (whole st c z));
      uncounted = λ st c z. (ap (λ (a : CallAnswer). a.count) (whole st c z), ap (λ (a : CallAnswer). a.issued) (whole st c z));
      start_causes = λ s. begun-refusal _ _ _;
      start_zeros = λ s z. (ap (λ (a : StateAnswer). a.state) (begun-zeros _ _ _ z), ap (λ (a : StateAnswer). a.count) (begun-zeros _ _ _ z));
      read_causes = λ r. begun-refusal _ _ _;
      read_zeros = λ r z. ap (λ (a : StateAnswer). a.state) (begun-zeros _ _ _ z);
    }

-- ---- an edit and a seal by themselves

-- a refused edit keeps the state and counts nothing
pub edited_kept : (st : State) (e : Edit) → (edited st e).refusal ≢ 0 → ((edited st e).state ≡ st) × ((edited st e).count ≡ 0)
unfolding call_answer
edited_kept st e z = ((demand_1.kept st (edit e) z).0, (demand_1.uncounted st (edit e) z).0)

-- a refused seal keeps the state and the slip that it was lent
pub sealed_kept : (st : State) (out : List ℕ) → (sealed st out).refusal ≢ 0 → ((sealed st out).state ≡ st) × ((sealed st out).slip ≡ out)
unfolding call_answer lent_slip
sealed_kept st out z = demand_1.kept st (seal out) z
