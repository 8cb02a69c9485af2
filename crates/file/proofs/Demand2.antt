-- Demand 2: after any true list of calls from an accepted start or read, an accepted seal's slip carries GMAC of the bytes held and the next
-- number, check finds genuine exactly the byte lists that are slips of those bytes, and each verdict comes exactly on its condition.
-- It rests on what the two runs have in common (`Agreement`), on seal and check at a state (`SealLaws`, `Verdicts`) and on gcm's tag formula
-- (`TagLaws`).
use mathlib.Core.Path.{◌≡◌, sym, ap, subst, ◌∙◌}
use mathlib.Core.Bool.{true}
use mathlib.Core.Logic.Iff
use mathlib.Core.Logic.{◌↔◌}
use mathlib.Core.List.{List}
use Prim.Native.Nat.{ℕ, ◌+◌, ◌≤◌, ◌<◌, ◌^◌}
use Rattle.field.specs.Field.{value, max_bytes}
use Rattle.gcm.specs.Gcm.{gmac}
use Rattle.gcm.proofs.TagLaws.{tag-gmac}
use Rattle.file.specs.declared.states.State.{State}
use Rattle.file.specs.declared.sealing.Verdict.{Verdict}
use Rattle.file.specs.Slips.{slip_arm, slip_number, nonce_of, state_tag, SealAnswer, seal_refusal, sealed, check_refusal, genuine, Finds, Condition}
use Rattle.file.specs.Calls.{seal, call_refusal}
use Rattle.file.specs.Machine.{Machine, machine_refusal}
use Rattle.file.specs.Runs.{Run}
use Rattle.file.specs.Demands.{Opens, SlipOf, Sealing, Demand2}
use Rattle.file.proofs.Calls.{seal_next}
use Rattle.file.proofs.SealLaws.{Checked, next_number, next_checked, check-opens, opens-check, genuine-checked, checked-genuine}
use Rattle.file.proofs.Verdicts.{condition_iff, split}
use Rattle.file.proofs.Invariant.{Holds, Summed, same_refusal}
use Rattle.file.proofs.Agreement.{Agrees, agrees_start, agrees-read}

module _ (key : List ℕ) (arm : ℕ) (st : State) (m : Machine) (h : Holds key arm st m) (s : Summed key st m) where
  -- the state's tag is GMAC of the bytes held
  tag-held : (arm' number : ℕ) → state_tag st arm' number ≡ gmac key (nonce_of arm' number) m.bytes
  unfolding state_tag
  tag-held arm' number = cc (tag-gmac key m.bytes (nonce_of arm' number) h.short)

  short : st.n ≤ max_bytes
  short = subst (λ (x : ℕ). x ≤ max_bytes) (sym h.same_n) h.short

  -- so a byte list is genuine exactly where it is a slip of them
  checked-fits : (slip : List ℕ) → Checked st slip → SlipOf key arm m.bytes slip
  checked-fits slip k =
      record {
        size = k.size;
        version = k.version;
        same_length = k.same_length ∙ h.same_n;
        same_arm = k.same_arm ∙ h.same_arm;
        tag = k.tag ∙ ap value (tag-held (slip_arm slip) (slip_number slip));
      }

  fits-checked : (slip : List ℕ) → SlipOf key arm m.bytes slip → Checked st slip
  fits-checked slip f =
      record {
        size = f.size;
        version = f.version;
        same_length = f.same_length ∙ sym h.same_n;
        same_arm = f.same_arm ∙ sym h.same_arm;
        tag = f.tag ∙ ap value (sym (tag-held (slip_arm slip) (slip_number slip)));
      }

  genuine-fits : (slip : List ℕ) → (genuine st slip ≡ true) ↔ SlipOf key arm m.bytes slip
  genuine-fits slip = (
    λ e. checked-fits slip (genuine-checked st slip e),
    λ f. checked-genuine st slip short (fits-checked slip f),
  )

  opens-iff : (slip : List ℕ) → (check_refusal st.n slip ≡ 0) ↔ Opens slip
  unfolding Opens
  opens-iff slip = (check-opens st.n slip, λ o. opens-check st.n slip short o.0 o.1)

  verdicts : (slip : List ℕ) (v : Verdict)
      → Finds st slip v ↔ Condition (Opens slip) (SlipOf key arm m.bytes slip) m.last (slip_number slip) v
  verdicts slip v =
      subst (λ (x : ℕ). Finds st slip v ↔ Condition (Opens slip) (SlipOf key arm m.bytes slip) x (slip_number slip) v) h.same_last
      (Iff.trans (split.verdicts st slip v) (condition_iff st.last (slip_number slip) (opens-iff slip) (genuine-fits slip) v))

  -- and an accepted seal writes one, with the next number
  module _ (w : arm < 2 ^ 32) (out : List ℕ) (a : machine_refusal m (seal out) ≡ 0) where
    accepts : seal_refusal st.n st.last out ≡ 0
    unfolding call_refusal
    accepts = same_refusal key arm st m h (seal out) ∙ a

    small-arm : st.arm < 2 ^ 32
    small-arm = rw h.same_arm w

    small_last : st.last < 2 ^ 64
    small_last = rw h.same_last h.room

    seals-fit : SlipOf key arm m.bytes (sealed st out).slip
    seals-fit =
        subst (λ (x : SealAnswer). SlipOf key arm m.bytes x.slip) (sym (seal_next st out accepts))
        (checked-fits _ (next_checked st out accepts small-arm small_last))

    seals_next : slip_number (sealed st out).slip ≡ m.last + 1
    seals_next =
        ap (λ (x : SealAnswer). slip_number x.slip) (seal_next st out accepts)
        ∙ next_number st out accepts small-arm small_last
        ∙ ap (λ (x : ℕ). x + 1) h.same_last

-- demand 2 of a run whose state holds what its machine does, with the sum of its bytes
pub sealing : (key : List ℕ) (arm last : ℕ) (r : Run) → arm < 2 ^ 32 → Agrees key arm last r → r.truth → Sealing key arm r
sealing key arm last r w g t =
    let st = r.state in
    let m = r.machine in
    let h = g.holds in
    let s = g.summed t in
    record {
      seals = seals-fit key arm st m h s w;
      numbers = seals_next key arm st m h s w;
      checks = λ slip. Iff.trans (split.together st slip) (genuine-fits key arm st m h s slip);
      verdicts = verdicts key arm st m h s;
    }

pub demand_2 : Demand2
demand_2 =
    record {
      start = λ s a calls t. sealing s.key s.arm s.last _ a.arm (agrees_start s a calls) t;
      read = λ r a calls t. sealing r.key r.arm r.last _ a.arm (agrees-read r a calls) t;
    }
