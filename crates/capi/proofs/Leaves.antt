-- What each call leaves, field by field: of start and read whatever was lent, and of the others in the bytes of a state whose fields have room.
-- It rests on the state's round trip (`StateBytes`), on demand 1 and on the file keeper's invariant.
use mathlib.Core.Path.{◌≡◌, refl, sym, ap, ap₂, subst, ◌∙◌}
use mathlib.Core.Bool.{Bool, true, cond}
use mathlib.Core.Logic.{◌↔◌, ◌≢◌, ◌⊎◌, inl, inr}
use mathlib.Core.List.{List}
use Prim.Native.Nat.{ℕ, ◌<◌, ◌^◌}
use native.Mathlib.Nat.{eq-zero-or-pos}
use native.Mathlib.Omega.{arith}
use lib.Dec.{eqb}
use lib.ListN.{length}
use borrow.Author.Tests.{eq-eqb, ne_eqb}
use Rattle.cipher.specs.Aes.{key_fits}
use Rattle.cipher.proofs.AesLaws.{fits-length}
use Rattle.field.specs.Field.{Small}
use Rattle.field.proofs.Powers.{small-companion}
use Rattle.gcm.specs.Gcm.{hash_key}
use Rattle.gcm.proofs.TagLaws.{small-hash}
use Rattle.file.specs.declared.states.State.{State}
use Rattle.file.specs.declared.sealing.Verdict.{Verdict}
use Rattle.file.specs.declared.sealing.Verdict.TheVariants.{NotGenuine, Current, Stale, Ahead}
use Rattle.file.specs.Edits.{Edit}
use Rattle.file.specs.States.{key_of, StateAnswer, Start, Reading, edited, started, read_file}
use Rattle.file.specs.Slips.{SealAnswer, sealed, CheckAnswer, checked, Finds}
use Rattle.file.specs.Machine.{Machine}
use Rattle.file.proofs.Calls.{begun_start, begun-read}
use Rattle.file.proofs.Demand1.{edited_kept, sealed_kept}
use Rattle.file.proofs.BlankStart.{blank_start}
use Rattle.file.proofs.Invariant.{Holds, holds_start, holds_read}
use Rattle.journal.specs.Journals.{replayed}
use Rattle.capi.specs.Bytes.{packed_state, state_from}
use Rattle.capi.specs.Calls.{EditCall, kept, edit_call, start_call, read_call, stamped, seal_call}
use Rattle.capi.specs.Calls.{CheckCall, verdict_byte, judged, check_call, written, replay_call}
use Rattle.capi.specs.Clauses.{edit_result, check_result}
use Rattle.capi.specs.Leaves.{StartLeaves, ReadLeaves, EditLeaves, SealLeaves, CheckLeaves, ReplayLeaves}
use Rattle.capi.proofs.StateBytes.{HasRoom, state-back}

-- every field of an editor's state has room in its bytes
pub has_room : (key : List ℕ) (arm : ℕ) → key_fits key ≡ true → arm < 2 ^ 32 → (st : State) (m : Machine) → Holds key arm st m → HasRoom st
unfolding key_of
has_room key arm k w st m h =
    record {
      key = ap length h.same_key ∙ fits-length key k;
      h = subst Small (sym h.same_h) (small-hash key);
      i = subst Small (sym h.same_i) (small-companion (hash_key key));
      s = h.small-s;
      n = omega arith;
      arm = subst (λ (x : ℕ). x < 2 ^ 32) (sym h.same_arm) w;
      last = omega arith;
    }

-- ---- a call on a state, kept where it is accepted

module _ (a : StateAnswer) (lent : List ℕ) (count : ℕ) where
  pub kept_accepted : a.refusal ≡ 0 → kept a lent count ≡ edit_result 0 (packed_state a.state) a.count
  unfolding kept
  kept_accepted z = simp (eq-eqb _ _ z)

  kept_otherwise : a.refusal ≢ 0 → kept a lent count ≡ edit_result a.refusal lent count
  unfolding kept
  kept_otherwise z = simp (ne_eqb _ _ z)

  kept_tells : (a.refusal ≡ 0) ⊎ (0 < a.refusal) → (kept a lent count).refusal ≡ a.refusal
  kept_tells (inl z) = ap (λ (x : EditCall). x.refusal) (kept_accepted z) ∙ sym z
  kept_tells (inr z) = ap (λ (x : EditCall). x.refusal) (kept_otherwise (λ y. omega arith))

  kept_refusal : (kept a lent count).refusal ≡ a.refusal
  kept_refusal = kept_tells (eq-zero-or-pos a.refusal)

-- it leaves the bytes of the state after it, refused or not, where a refusal keeps the state
kept_state : (a : StateAnswer) (st : State) (count : ℕ) → (a.refusal ≢ 0 → a.state ≡ st)
    → (kept a (packed_state st) count).state ≡ packed_state a.state
kept_state a st count same = by (eq-zero-or-pos a.refusal)
  where
    by : (a.refusal ≡ 0) ⊎ (0 < a.refusal) → (kept a (packed_state st) count).state ≡ packed_state a.state
    by (inl z) = ap (λ (x : EditCall). x.state) (kept_accepted a (packed_state st) count z)
    by (inr z) =
        let refused : a.refusal ≢ 0 = λ y. omega arith in
        ap (λ (x : EditCall). x.state) (kept_otherwise a (packed_state st) count refused) ∙ ap packed_state (sym (same refused))

-- and the count, where what was lent is 0 and a refusal counts nothing
pub kept_same : (a : StateAnswer) (st : State) → (a.refusal ≢ 0 → (a.state ≡ st) × (a.count ≡ 0))
    → kept a (packed_state st) 0 ≡ edit_result a.refusal (packed_state a.state) a.count
kept_same a st same = by (eq-zero-or-pos a.refusal)
  where
    by : (a.refusal ≡ 0) ⊎ (0 < a.refusal) → kept a (packed_state st) 0 ≡ edit_result a.refusal (packed_state a.state) a.count
    by (inl z) = kept_accepted a (packed_state st) 0 z ∙ ap (λ (n : ℕ). edit_result n (packed_state a.state) a.count) (sym z)
    by (inr z) =
        let refused : a.refusal ≢ 0 = λ y. omega arith in
        let p = same refused in
        kept_otherwise a (packed_state st) 0 refused
        ∙ ap₂ (λ (x : State) (n : ℕ). edit_result a.refusal (packed_state x) n) (sym p.0) (sym p.1)

-- ---- start and read

pub start_leaves : (s : Start) (lent : List ℕ) (count : ℕ) → StartLeaves s lent count
unfolding start_call
start_leaves s lent count =
    let a = started s in
    record {
      refusal = kept_refusal a lent count;
      state = λ x.
          ap (λ (y : EditCall). state_from y.state) (kept_accepted a lent count x.accepted)
          ∙ state-back a.state
          (has_room s.key s.arm (begun_start s x.accepted).fits x.arm _ _ (holds_start s x.accepted x.last));
      counts = λ z. ap (λ (y : EditCall). y.count) (kept_accepted a lent count z) ∙ blank_start.counts s z;
      kept = λ z.
          let y = kept_otherwise a lent count z in
          (ap (λ (x : EditCall). x.state) y, ap (λ (x : EditCall). x.count) y);
    }

pub read-leaves : (r : Reading) (lent : List ℕ) → ReadLeaves r lent
unfolding read_call
read-leaves r lent =
    let a = read_file r in
    record {
      refusal = kept_refusal a lent 0;
      state = λ x.
          ap (λ (y : EditCall). state_from y.state) (kept_accepted a lent 0 x.accepted)
          ∙ state-back a.state
          (has_room r.key r.arm (begun-read r x.accepted).fits x.arm _ _ (holds_read r x.accepted x.last));
      kept = λ z. ap (λ (x : EditCall). x.state) (kept_otherwise a lent 0 z);
    }

-- ---- a verdict's byte

-- the verdict of a byte, made of the bytes of verdicts
verdict_of : ℕ → Verdict
verdict_of byte =
    cond (eqb byte (verdict_byte NotGenuine)) NotGenuine
    (cond (eqb byte (verdict_byte Current)) Current (cond (eqb byte (verdict_byte Stale)) Stale Ahead))

byte-back : (v : Verdict) → verdict_of (verdict_byte v) ≡ v
unfolding verdict_of verdict_byte
byte-back NotGenuine = refl
byte-back Current = refl
byte-back Stale = refl
byte-back Ahead = refl

-- a check tells a verdict's byte exactly where it finds that verdict
judged-tells : (a : CheckAnswer) (held byte : ℕ) (v : Verdict) → verdict_byte v ≡ byte
    → (judged a held ≡ check_result 0 byte) ↔ (a ≡ record { refusal = 0; verdict = v })
unfolding judged
judged-tells a held byte v e = (
  λ f.
      let z : a.refusal ≡ 0 = ap (λ (x : CheckCall). x.refusal) f in
      let told : verdict_byte a.verdict ≡ byte =
      sym (ap (λ (t : Bool). cond t (verdict_byte a.verdict) held) (eq-eqb a.refusal 0 z)) ∙ ap (λ (x : CheckCall). x.verdict) f in
      let found : a.verdict ≡ v = sym (byte-back a.verdict) ∙ ap verdict_of (told ∙ sym e) ∙ byte-back v in
      λ i. record { refusal = z i; verdict = found i },
  λ f. ap (λ (x : CheckAnswer). judged x held) f ∙ ap (check_result 0) e,
)

-- ---- the calls on a state, in its bytes

stamped_otherwise : (a : SealAnswer) (lent : List ℕ) → a.refusal ≢ 0 → (stamped a lent).state ≡ lent
unfolding stamped
stamped_otherwise a lent z = simp (ne_eqb _ _ z)

stamped_by : (a : SealAnswer) (st : State) → (a.refusal ≢ 0 → a.state ≡ st) → (a.refusal ≡ 0) ⊎ (0 < a.refusal)
    → (stamped a (packed_state st)).state ≡ packed_state a.state
unfolding stamped
stamped_by a st same (inl z) = simp (eq-eqb _ _ z)
stamped_by a st same (inr z) =
    let refused : a.refusal ≢ 0 = λ y. omega arith in
    stamped_otherwise a (packed_state st) refused ∙ ap packed_state (sym (same refused))

pub stamped-state : (a : SealAnswer) (st : State) → (a.refusal ≢ 0 → a.state ≡ st) → (stamped a (packed_state st)).state ≡ packed_state a.state
stamped-state a st same = stamped_by a st same (eq-zero-or-pos a.refusal)

judged_otherwise : (a : CheckAnswer) (held : ℕ) → a.refusal ≢ 0 → judged a held ≡ check_result a.refusal held
unfolding judged
judged_otherwise a held z = simp (ne_eqb _ _ z)

module _ (st : State) (room : HasRoom st) where
  pub edit-leaves : (e : Edit) (count : ℕ) → HasRoom (edited st e).state → EditLeaves (packed_state st) st e count
  unfolding edit_call
  edit-leaves e count later =
      let a = edited st e in
      let same : edit_call (packed_state st) e count ≡ kept a (packed_state st) count =
      ap (λ (x : State). kept (edited x e) (packed_state st) count) (state-back st room) in
      record {
        refusal = ap (λ (x : EditCall). x.refusal) same ∙ kept_refusal a (packed_state st) count;
        state = ap (λ (x : EditCall). state_from x.state) same
            ∙ ap state_from (kept_state a st count (λ z. (edited_kept st e z).0))
            ∙ state-back a.state later;
        counts = λ z. ap (λ (x : EditCall). x.count) (same ∙ kept_accepted a (packed_state st) count z);
        kept = λ z.
            let y = same ∙ kept_otherwise a (packed_state st) count z in
            (ap (λ (x : EditCall). x.state) y, ap (λ (x : EditCall). x.count) y);
      }

  pub seal-leaves : (out : List ℕ) → HasRoom (sealed st out).state → SealLeaves (packed_state st) st out
  unfolding seal_call
  seal-leaves out later =
      let a = sealed st out in
      let back = state-back st room in
      let bytes : (seal_call (packed_state st) out).state ≡ (stamped a (packed_state st)).state =
      ap (λ (x : State). (stamped (sealed x out) (packed_state st)).state) back in
      record {
        refusal = unfold stamped in ap (λ (x : State). (sealed x out).refusal) back;
        state = ap state_from (bytes ∙ stamped-state a st (λ z. (sealed_kept st out z).0)) ∙ state-back a.state later;
        slip = unfold stamped in ap (λ (x : State). (sealed x out).slip) back;
        kept = λ z. (
          bytes ∙ stamped_otherwise a (packed_state st) z,
          unfold stamped in ap (λ (x : State). (sealed x out).slip) back ∙ (sealed_kept st out z).1,
        );
      }

  check-tells : (slip : List ℕ) (verdict byte : ℕ) (v : Verdict) → verdict_byte v ≡ byte
      → (check_call (packed_state st) slip verdict ≡ check_result 0 byte) ↔ Finds st slip v
  unfolding check_call Finds
  check-tells slip verdict byte v e = rw (state-back st room) (judged-tells (checked st slip) verdict byte v e)

  pub check-leaves : (slip : List ℕ) (verdict : ℕ) → CheckLeaves (packed_state st) st slip verdict
  unfolding check_call checked verdict_byte
  check-leaves slip verdict =
      record {
        not_genuine = check-tells slip verdict 0 NotGenuine refl;
        current = check-tells slip verdict 1 Current refl;
        stale = check-tells slip verdict 2 Stale refl;
        ahead = check-tells slip verdict 3 Ahead refl;
        kept = λ z. ap (λ (x : State). judged (checked x slip) verdict) (state-back st room) ∙ judged_otherwise (checked st slip) verdict z;
      }

  pub replay-leaves : (j : List ℕ) → HasRoom (replayed st j).state → ReplayLeaves (packed_state st) st j
  unfolding replay_call written
  replay-leaves j later =
      let back = state-back st room in
      record {
        refusal = ap (λ (x : State). (replayed x j).refusal) back;
        state = ap (λ (x : State). state_from (packed_state (replayed x j).state)) back ∙ state-back (replayed st j).state later;
        count = ap (λ (x : State). (replayed x j).count) back;
        offset = ap (λ (x : State). (replayed x j).offset) back;
      }
