-- The slip, seal and check for all inputs (document 01, "Slip, seal, check"; document 02, Q-5).
use Rattle.std.specs.Prelude.{◌≡◌, Bool, true, false, cond, not, ◌&&◌, ◌↔◌, ◌⊎◌, List, [], ◌∷◌, ◌++◌, ℕ, ◌+◌, ◌-◌, ◌*◌, ◌/◌, ◌%◌, ◌^◌, ◌<◌, eqb, ltb, length}
use Rattle.refusals.specs.Refusals.{first}
use Rattle.field.specs.declared.blocks.Block.{Block}
use Rattle.field.specs.Field.{number, bytes, value, max_bytes}
use Rattle.gcm.specs.Gcm.{tag_of}
use Rattle.file.specs.declared.states.State.{State}
use Rattle.file.specs.declared.sealing.Verdict.{Verdict}
use Rattle.file.specs.declared.sealing.Verdict.TheVariants.{NotGenuine, Current, Stale, Ahead}
use Rattle.file.specs.States.{key_of}

-- ---- the slip

-- the bytes of a slip (document 01, "Slip, seal, check")
abbrev pub slip_bytes : ℕ
slip_bytes = 36

-- a slip as one number, highest bits first (document 01, "Slip, seal, check"): version 3, byte length 61, arm 32, seal number 64, tag 128
unfoldable pub slip_value : (version n arm number tag : ℕ) → ℕ
slip_value version n arm number tag = (((version * 2 ^ 61 + n) * 2 ^ 32 + arm) * 2 ^ 64 + number) * 2 ^ 128 + tag

-- the bytes of a slip of version 1 (document 01, "Slip, seal, check")
unfoldable pub packed_slip : (n arm number tag : ℕ) → List ℕ
packed_slip n arm number tag = bytes slip_bytes (slip_value 1 n arm number tag)

-- the version on a slip: the first 3 bits of its 36 bytes (document 01, "Slip, seal, check")
unfoldable pub slip_version : List ℕ → ℕ
slip_version slip = number slip 0 slip_bytes / 2 ^ 285

-- the byte length on a slip: the next 61 bits (document 01, "Slip, seal, check")
unfoldable pub slip_length : List ℕ → ℕ
slip_length slip = number slip 0 slip_bytes / 2 ^ 224 % 2 ^ 61

-- the arm on a slip: the next 32 bits (document 01, "Slip, seal, check")
unfoldable pub slip_arm : List ℕ → ℕ
slip_arm slip = number slip 0 slip_bytes / 2 ^ 192 % 2 ^ 32

-- the seal number on a slip: the next 64 bits (document 01, "Slip, seal, check")
unfoldable pub slip_number : List ℕ → ℕ
slip_number slip = number slip 0 slip_bytes / 2 ^ 128 % 2 ^ 64

-- the tag on a slip: the last 128 bits (document 01, "Slip, seal, check")
unfoldable pub slip_tag : List ℕ → ℕ
slip_tag slip = number slip 0 slip_bytes % 2 ^ 128

-- arm and seal number are the 12-byte nonce (document 01, "Slip, seal, check")
unfoldable pub nonce_of : (arm number : ℕ) → List ℕ
nonce_of arm number = bytes 4 arm ++ bytes 8 number

-- a state's tag under the nonce of an arm and a seal number (document 01, "Slip, seal, check")
unfoldable pub state_tag : State → (arm number : ℕ) → Block
state_tag st arm number = tag_of (key_of st) st.h st.s st.n (nonce_of arm number)

-- ---- a slip opened

-- the causes for which a slip does not open: 7, 8 (document 01, "Causes and their numbers")
unfoldable pub open_causes : List ℕ → List (Bool × ℕ)
open_causes slip = (not (eqb (length slip) slip_bytes), 7) ∷ (not (eqb (slip_version slip) 1), 8) ∷ []

-- a slip's fields beside the refusal or 0; zeros where it is refused (document 01, "Slip, seal, check")
pub record SlipFields : Type 0 where
  pub refusal : ℕ
  pub n : ℕ
  pub arm : ℕ
  pub number : ℕ
  pub tag : ℕ

-- a slip that is refused has no fields (document 01, "Slip, seal, check")
abbrev pub unopened : ℕ → SlipFields
unopened refusal = record { refusal = refusal; n = 0; arm = 0; number = 0; tag = 0 }

-- a slip opened into its fields or refused (document 01, "Slip, seal, check")
unfoldable pub opened_with : ℕ → List ℕ → SlipFields
opened_with refusal slip =
    cond (eqb refusal 0)
    (record { refusal = 0; n = slip_length slip; arm = slip_arm slip; number = slip_number slip; tag = slip_tag slip }) (unopened refusal)

-- opening a slip (document 01, "Slip, seal, check")
unfoldable pub opening : List ℕ → SlipFields
opening slip = opened_with (first (open_causes slip)) slip

-- ---- seal

-- its refusal: 2 for the state's length first (document 01, "The file and its five edits"), then 7, 6 ("Causes and their numbers")
unfoldable pub seal_refusal : (n last : ℕ) → List ℕ → ℕ
seal_refusal n last out = first ((ltb max_bytes n, 2) ∷ (not (eqb (length out) slip_bytes), 7) ∷ (eqb last (2 ^ 64 - 1), 6) ∷ [])

-- what seal answers (document 01, "Slip, seal, check"): the state, the refusal or 0, and what the lent slip holds afterwards
pub record SealAnswer : Type 0 where
  pub state : State
  pub refusal : ℕ
  pub slip : List ℕ

-- a state with its last used number replaced, as an accepted seal leaves it (document 01, "Slip, seal, check")
unfoldable pub numbered : State → ℕ → State
numbered st last = record { key = st.key; h = st.h; i = st.i; s = st.s; n = st.n; arm = st.arm; last = last }

-- an accepted seal (document 01, "Slip, seal, check"): the last used number rises by one, and the slip carries the new one and the state's
-- tag under it
unfoldable pub sealed_next : State → SealAnswer
sealed_next st =
    record {
      state = numbered st (st.last + 1);
      refusal = 0;
      slip = packed_slip st.n st.arm (st.last + 1) (value (state_tag st st.arm (st.last + 1)));
    }

-- seal, for all byte lists as what the slip held (document 01, "Slip, seal, check" and "Causes and their numbers")
unfoldable pub sealed : State → List ℕ → SealAnswer
sealed st out =
    cond (eqb (seal_refusal st.n st.last out) 0) (sealed_next st)
    (record { state = st; refusal = seal_refusal st.n st.last out; slip = out })

-- ---- check

-- its refusal: 2 for the state's length before all else (document 01, "The file and its five edits"), then those of opening
unfoldable pub check_refusal : ℕ → List ℕ → ℕ
check_refusal n slip = first ((ltb max_bytes n, 2) ∷ open_causes slip)

-- what makes a slip that opened genuine (document 01, "Slip, seal, check"): its length is n, its arm the state's, its tag the state's under
-- its own nonce
unfoldable pub fitting : State → List ℕ → Bool
fitting st slip =
    eqb (slip_length slip) st.n && eqb (slip_arm slip) st.arm
    && eqb (slip_tag slip) (value (state_tag st (slip_arm slip) (slip_number slip)))

-- whether a byte list is genuine (document 01, "Slip, seal, check"); a slip that is refused is not
unfoldable pub genuine : State → List ℕ → Bool
genuine st slip = cond (eqb (check_refusal st.n slip) 0) (fitting st slip) false

-- the verdict on a genuine slip (document 02, Q-5): current where its number is the last used, stale where it is smaller, ahead where it is larger
unfoldable pub by_its_number : (last number : ℕ) → Verdict
by_its_number last number = cond (eqb number last) Current (cond (ltb number last) Stale Ahead)

-- what check answers (document 01, "Slip, seal, check"; document 02, Q-5): the refusal or 0, and its verdict
pub record CheckAnswer : Type 0 where
  pub refusal : ℕ
  pub verdict : Verdict

-- check, for all byte lists as slips (document 01, "Slip, seal, check"; document 02, Q-5); a slip that is refused is not genuine
unfoldable pub checked : State → List ℕ → CheckAnswer
checked st slip =
    record {
      refusal = check_refusal st.n slip;
      verdict = cond (genuine st slip) (by_its_number st.last (slip_number slip)) NotGenuine;
    }

-- ---- the verdicts of a check

-- check finds a verdict: it refuses nothing, and answers that one (document 02, Q-5)
unfoldable pub Finds : State → List ℕ → Verdict → Type 0
Finds st slip v = checked st slip ≡ record { refusal = 0; verdict = v }

-- check finds a slip genuine: current, stale or ahead (document 02, Q-5)
unfoldable pub FindsGenuine : State → List ℕ → Type 0
FindsGenuine st slip = Finds st slip Current ⊎ Finds st slip Stale ⊎ Finds st slip Ahead

-- the condition of each verdict (document 02, Q-5), where `opens` says that the slip is not refused and `fits` that it is genuine
unfoldable pub Condition : (opens fits : Type 0) (last number : ℕ) → Verdict → Type 0
Condition opens fits last number NotGenuine = opens × (¬ fits)
Condition opens fits last number Current = fits × (number ≡ last)
Condition opens fits last number Stale = fits × (number < last)
Condition opens fits last number Ahead = fits × (last < number)

-- of any state and any byte list: the three are together what genuine was, and the number splits them; not genuine keeps its meaning (document
-- 02, Q-5). Its proof is `split` in proofs/Verdicts
pub record Split : Type 0 where
  pub together : (st : State) (slip : List ℕ) → FindsGenuine st slip ↔ (genuine st slip ≡ true)
  pub verdicts :
      (st : State) (slip : List ℕ) (v : Verdict)
      → Finds st slip v ↔ Condition (check_refusal st.n slip ≡ 0) (genuine st slip ≡ true) st.last (slip_number slip) v
