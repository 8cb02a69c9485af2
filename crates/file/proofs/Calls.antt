-- What one call answers, by cases on its refusal: of the editor (`call-refused`, `call-accepted`), of the plain machine (`machine-refused`,
-- `machine-accepted`), and of start and read. A new call costs one clause of each law of the editor.
-- It rests on the definitions of specs/States, Slips, Calls and Machine alone, and on what an accepted start or read passed (`StateReturns`).
use mathlib.Core.Path.{◌≡◌, refl, sym, ap, ◌∙◌}
use mathlib.Core.Bool.{true, not}
use mathlib.Core.Logic.{◌≢◌, ◌⊎◌, inl, inr}
use mathlib.Core.List.{List, [], ◌∷◌}
use Prim.Native.Nat.{ℕ, ◌+◌, ◌<◌, ◌≤◌}
use native.Mathlib.Nat.{eq-zero-or-pos}
use native.Mathlib.Omega.{arith}
use lib.ListN.{length}
use borrow.Author.Tests.{eq-eqb, ne_eqb, le-ltb}
use Rattle.refusals.proofs.Laws.{first_none, first_later}
use Rattle.cipher.specs.Aes.{key_fits}
use Rattle.field.specs.Field.{sum, blank_sum, blank_count, max_bytes}
use Rattle.gcm.specs.Gcm.{hash_key}
use Rattle.file.specs.declared.states.State.{State}
use Rattle.file.specs.Edits.{Edit, kind_of, given, replacing, geometry_at, edit_refusal, count_of}
use Rattle.file.specs.States.{StateAnswer, accepted_with, refused_with, zero_state, state_of, sum_after, asked_by, asked, put, put_with, edited}
use Rattle.file.specs.States.{Start, Reading, begin_refusal, begun_with, started, read_file}
use Rattle.file.specs.Slips.{slip_number, seal_refusal, numbered, sealed_next, sealed, checked}
use Rattle.file.specs.Calls.{Call, edit, seal, check, call_refusal, lent_slip, CallAnswer, call_answer}
use Rattle.file.specs.Machine.{Machine, accepted_by, refused_by, machine_refusal, machine_answer}
use Rattle.file.proofs.StateReturns.{begins}

-- ---- an edit and a seal

module _ (st : State) (e : Edit) where
  edit-refused : edit_refusal st.n e ≢ 0 → edited st e ≡ refused_with st (edit_refusal st.n e)
  unfolding edited put_with asked asked_by edit_refusal
  edit-refused z = simp (ne_eqb _ _ z)

  -- the sum and the length asked for are put
  pub edit-accepted : edit_refusal st.n e ≡ 0
      → let g = geometry_at st.n e in
      edited st e ≡ accepted_with (put st (sum_after st (kind_of e) g (given e) (replacing e)) g.n) (count_of g)
  unfolding edited put_with asked asked_by edit_refusal
  edit-accepted z = simp (eq-eqb _ _ z)

module _ (st : State) (out : List ℕ) where
  seal-refused : seal_refusal st.n st.last out ≢ 0
      → sealed st out ≡ record { state = st; refusal = seal_refusal st.n st.last out; slip = out }
  unfolding sealed
  seal-refused z = simp (ne_eqb _ _ z)

  pub seal_next : seal_refusal st.n st.last out ≡ 0 → sealed st out ≡ sealed_next st
  unfolding sealed
  seal_next z = simp (eq-eqb _ _ z)

-- ---- any call of the editor

-- what it answers where it refuses
abbrev pub refused_call : State → Call → CallAnswer
refused_call st c = record { state = st; refusal = call_refusal st.n st.last c; count = 0; issued = []; slip = lent_slip c }

-- and where it accepts
abbrev pub accepted_call : State → Call → CallAnswer
accepted_call st (edit e) =
    let g = geometry_at st.n e in
    record {
      state = put st (sum_after st (kind_of e) g (given e) (replacing e)) g.n;
      refusal = 0;
      count = count_of g;
      issued = [];
      slip = [];
    }
accepted_call st (seal out) =
    record {
      state = numbered st (st.last + 1);
      refusal = 0;
      count = 0;
      issued = slip_number (sealed_next st).slip ∷ [];
      slip = (sealed_next st).slip;
    }
accepted_call st (check slip) = record { state = st; refusal = 0; count = 0; issued = []; slip = slip }

pub call-refused : (st : State) (c : Call) → call_refusal st.n st.last c ≢ 0 → call_answer st c ≡ refused_call st c
unfolding call_answer call_refusal lent_slip checked
call-refused st (edit e) z = rw (edit-refused st e z)
call-refused st (seal out) z = rw (seal-refused st out z) (simp (ne_eqb _ _ z))
call-refused st (check slip) z = refl

pub call-accepted : (st : State) (c : Call) → call_refusal st.n st.last c ≡ 0 → call_answer st c ≡ accepted_call st c
unfolding call_answer call_refusal checked sealed_next
call-accepted st (edit e) z = rw (edit-accepted st e z)
call-accepted st (seal out) z = rw (seal_next st out z)
call-accepted st (check slip) z = rw z

-- ---- any call of the machine

pub machine-refused : (m : Machine) (c : Call) → machine_refusal m c ≢ 0 → machine_answer m c ≡ refused_by m (machine_refusal m c)
unfolding machine_answer
machine-refused m c z = simp (ne_eqb _ _ z)

pub machine-accepted : (m : Machine) (c : Call) → machine_refusal m c ≡ 0 → machine_answer m c ≡ accepted_by m c
unfolding machine_answer
machine-accepted m c z = simp (eq-eqb _ _ z)

-- ---- start and read

begun-refused : (r : ℕ) (st : State) (count : ℕ) → r ≢ 0 → begun_with r st count ≡ refused_with zero_state r
unfolding begun_with
begun-refused r st count z = simp (ne_eqb _ _ z)

begun-accepted : (r : ℕ) (st : State) (count : ℕ) → r ≡ 0 → begun_with r st count ≡ accepted_with st count
unfolding begun_with
begun-accepted r st count z = simp (eq-eqb _ _ z)

begun-tells : (r : ℕ) (st : State) (count : ℕ) → (r ≡ 0) ⊎ (0 < r) → (begun_with r st count).refusal ≡ r
begun-tells r st count (inl z) = ap (λ (a : StateAnswer). a.refusal) (begun-accepted r st count z) ∙ sym z
begun-tells r st count (inr z) = ap (λ (a : StateAnswer). a.refusal) (begun-refused r st count (λ y. omega arith))

-- they answer their refusal
pub begun-refusal : (r : ℕ) (st : State) (count : ℕ) → (begun_with r st count).refusal ≡ r
begun-refusal r st count = begun-tells r st count (eq-zero-or-pos r)

-- and the state of all zeros, with no count, where they refuse
pub begun-zeros : (r : ℕ) (st : State) (count : ℕ) → (begun_with r st count).refusal ≢ 0 → begun_with r st count ≡ refused_with zero_state r
begun-zeros r st count z = begun-refused r st count (λ y. z (begun-refusal r st count ∙ y))

-- an accepted start or read has the state for its key, and its count
pub record Begun (key : List ℕ) (n : ℕ) (st : State) (count : ℕ) (made : StateAnswer) : Type 0 where
  pub fits : key_fits key ≡ true
  pub short : n ≤ max_bytes
  pub state : made.state ≡ st
  pub counts : made.count ≡ count

begun_by : (key : List ℕ) (n : ℕ) (st : State) (count : ℕ) → (begun_with (begin_refusal key n) st count).refusal ≡ 0
    → Begun key n st count (begun_with (begin_refusal key n) st count)
begun_by key n st count e =
    let z : begin_refusal key n ≡ 0 = sym (begun-refusal _ st count) ∙ e in
    let b = begins key n z in
    let all = begun-accepted _ st count z in
    record {
      fits = b.fits;
      short = b.short;
      state = ap (λ (a : StateAnswer). a.state) all;
      counts = ap (λ (a : StateAnswer). a.count) all;
    }

pub begun_start : (s : Start) → (started s).refusal ≡ 0
    → Begun s.key s.n (state_of s.key (blank_sum (hash_key s.key) s.fill s.n) s.n s.arm s.last) (blank_count s.fill s.n)
    (started s)
unfolding started
begun_start s e = begun_by s.key s.n _ _ e

pub begun-read : (r : Reading) → (read_file r).refusal ≡ 0
    → Begun r.key (length r.file) (state_of r.key (sum (hash_key r.key) r.file) (length r.file) r.arm r.last) 0 (read_file r)
unfolding read_file
begun-read r e = begun_by r.key (length r.file) _ _ e

-- a start or read is accepted where the key fits and the file is not too long
begin_accepts : (key : List ℕ) (n : ℕ) → key_fits key ≡ true → n ≤ max_bytes → begin_refusal key n ≡ 0
unfolding begin_refusal
begin_accepts key n k l = sym (first_later _ _ _ (ap not k) (first_later _ _ _ (le-ltb _ _ l) first_none))

pub start_accepts : (s : Start) → key_fits s.key ≡ true → s.n ≤ max_bytes → (started s).refusal ≡ 0
unfolding started
start_accepts s k l = begun-refusal _ _ _ ∙ begin_accepts s.key s.n k l

pub read-accepts : (r : Reading) → key_fits r.key ≡ true → length r.file ≤ max_bytes → (read_file r).refusal ≡ 0
unfolding read_file
read-accepts r k l = begun-refusal _ _ _ ∙ begin_accepts r.key (length r.file) k l
