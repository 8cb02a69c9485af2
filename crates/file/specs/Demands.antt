-- The three demands, whole, what a start begins with, and how the slips of a list age. Their proofs are `demand_1`, `demand_2` and `demand_3` in
-- proofs/Demand1, Demand2 and Demand3, `blank_start` in proofs/BlankStart and `slip-ages` in proofs/SlipAges.
use Rattle.std.specs.Prelude.{◌≡◌, ◌↔◌, ◌≢◌, ◌⊎◌, List, [], ◌∷◌, ◌++◌, map, ℕ, zero, suc, ◌+◌, ◌≤◌, ◌<◌, ◌^◌, length, get_or, replicate}
use Rattle.field.specs.Field.{value, zero_block, sum, blank_count, max_bytes}
use Rattle.gcm.specs.Gcm.{hash_key, gmac, tag_of}
use Rattle.file.specs.declared.states.State.{State}
use Rattle.file.specs.States.{key_of, zero_state, Start, Reading, begin_refusal, started, read_file}
use Rattle.file.specs.declared.sealing.Verdict.{Verdict}
use Rattle.file.specs.declared.sealing.Verdict.TheVariants.{Current, Stale, Ahead}
use Rattle.file.specs.Slips.{slip_bytes, slip_version, slip_length, slip_arm, slip_number, slip_tag, nonce_of, sealed}
use Rattle.file.specs.Slips.{Finds, FindsGenuine, Condition}
use Rattle.file.specs.Calls.{Call, seal, call_refusal, lent_slip, call_answer}
use Rattle.file.specs.Machine.{machine_refusal}
use Rattle.file.specs.Runs.{Run, begun_from, from_read, Written, written_in}

-- ---- demand 1

-- every call answers the first of its listed causes or 0; a refused call on a state leaves it and a lent slip as they were, and a refused
-- start or read gives the state of all zeros; a refused call counts nothing (document 01, "Causes and their numbers" and "The file and its five
-- edits")
pub record Demand1 : Type 0 where
  pub causes : (st : State) (c : Call) → (call_answer st c).refusal ≡ call_refusal st.n st.last c
  pub kept : (st : State) (c : Call) → (call_answer st c).refusal ≢ 0 → ((call_answer st c).state ≡ st) × ((call_answer st c).slip ≡ lent_slip c)
  pub uncounted : (st : State) (c : Call) → (call_answer st c).refusal ≢ 0 → ((call_answer st c).count ≡ 0) × ((call_answer st c).issued ≡ [])
  pub start_causes : (s : Start) → (started s).refusal ≡ begin_refusal s.key s.n
  pub start_zeros : (s : Start) → (started s).refusal ≢ 0 → ((started s).state ≡ zero_state) × ((started s).count ≡ 0)
  pub read_causes : (r : Reading) → (read_file r).refusal ≡ begin_refusal r.key (length r.file)
  pub read_zeros : (r : Reading) → (read_file r).refusal ≢ 0 → (read_file r).state ≡ zero_state

-- ---- a start

-- an accepted start has the sum of n fill bytes and reports the multiplications that it took, for n = 0 and for fill 0 a zero sum and 0 (document
-- 02, Q-4); that count is start's own and stands in no run's total
pub record BlankStart : Type 0 where
  pub sums : (s : Start) → (started s).refusal ≡ 0 → (started s).state.s ≡ sum (hash_key s.key) (replicate s.n s.fill)
  pub counts : (s : Start) → (started s).refusal ≡ 0 → (started s).count ≡ blank_count s.fill s.n
  pub nothing :
      (s : Start) → (started s).refusal ≡ 0 → (s.n ≡ 0) ⊎ (s.fill ≡ 0) → ((started s).state.s ≡ zero_block) × ((started s).count ≡ 0)
  pub apart : (s : Start) → (begun_from s []).total ≡ 0

-- ---- what demands 2 and 3 begin with

-- an accepted start, of an arm and a last used number that have room on a slip (document 01, "What the controller holds")
pub record AcceptedStart (s : Start) : Type 0 where
  pub accepted : (started s).refusal ≡ 0
  pub arm : s.arm < 2 ^ 32
  pub last : s.last < 2 ^ 64

-- an accepted read, of the same
pub record AcceptedRead (r : Reading) : Type 0 where
  pub accepted : (read_file r).refusal ≡ 0
  pub arm : r.arm < 2 ^ 32
  pub last : r.last < 2 ^ 64

-- ---- demand 2

-- a byte list opens as a slip: 36 bytes, version 1 (document 01, "Slip, seal, check")
unfoldable pub Opens : List ℕ → Type 0
Opens slip = (length slip ≡ slip_bytes) × (slip_version slip ≡ 1)

-- a byte list is a slip of an arm's file (document 01, "Slip, seal, check"): 36 bytes, version 1, that length, that arm, and GMAC of the
-- bytes under the slip's own nonce
pub record SlipOf (key : List ℕ) (arm : ℕ) (bytes slip : List ℕ) : Type 0 where
  pub size : length slip ≡ slip_bytes
  pub version : slip_version slip ≡ 1
  pub same_length : slip_length slip ≡ length bytes
  pub same_arm : slip_arm slip ≡ arm
  pub tag : slip_tag slip ≡ value (gmac key (nonce_of (slip_arm slip) (slip_number slip)) bytes)

-- of a run (document 01, "Slip, seal, check"): what an accepted seal writes is a slip of the bytes held and carries the next number, and a byte
-- list is genuine exactly where it is a slip of them; each of the four verdicts comes exactly on its condition (document 02, Q-5)
pub record Sealing (key : List ℕ) (arm : ℕ) (r : Run) : Type 0 where
  pub seals : (out : List ℕ) → machine_refusal r.machine (seal out) ≡ 0 → SlipOf key arm r.machine.bytes (sealed r.state out).slip
  pub numbers : (out : List ℕ) → machine_refusal r.machine (seal out) ≡ 0 → slip_number (sealed r.state out).slip ≡ r.machine.last + 1
  pub checks : (slip : List ℕ) → FindsGenuine r.state slip ↔ SlipOf key arm r.machine.bytes slip
  pub verdicts :
      (slip : List ℕ) (v : Verdict)
      → Finds r.state slip v ↔ Condition (Opens slip) (SlipOf key arm r.machine.bytes slip) r.machine.last (slip_number slip) v

-- after any list of calls that were true as they arrived, from an accepted start and from an accepted read (document 01, "Slip, seal, check")
pub record Demand2 : Type 0 where
  pub start : (s : Start) → AcceptedStart s → (calls : List Call) → (begun_from s calls).truth → Sealing s.key s.arm (begun_from s calls)
  pub read : (r : Reading) → AcceptedRead r → (calls : List Call) → (from_read r calls).truth → Sealing r.key r.arm (from_read r calls)

-- ---- the slips of a list

-- of the slips that a list wrote, and its run (document 02, Q-5)
pub record Ages (slips : List Written) (r : Run) : Type 0 where
  -- each number that the list issued stands on one of them, in the same order
  pub numbers : map (λ (w : Written). slip_number w.slip) slips ≡ r.numbers
  -- the last one is current where the bytes are those it sealed
  pub newest :
      (before : List Written) (w : Written) → slips ≡ before ++ (w ∷ []) → r.truth → r.machine.bytes ≡ w.bytes
      → Finds r.state w.slip Current
  -- an earlier one is never current and never ahead, whatever the bytes
  pub earlier :
      (before after : List Written) (w next : Written) → slips ≡ before ++ (w ∷ next ∷ after)
      → (¬ Finds r.state w.slip Current) × (¬ Finds r.state w.slip Ahead)
  -- and it is stale where the bytes are again those it sealed
  pub put_back :
      (before after : List Written) (w next : Written) → slips ≡ before ++ (w ∷ next ∷ after) → r.truth → r.machine.bytes ≡ w.bytes
      → Finds r.state w.slip Stale
  -- no byte list is ahead whose number this list issued
  pub issued :
      (slip : List ℕ) (i : ℕ) → i < length r.numbers → slip_number slip ≡ get_or r.numbers i 0 → ¬ Finds r.state slip Ahead

-- after any list of calls from an accepted start and from an accepted read (document 02, Q-5)
pub record SlipAges : Type 0 where
  pub start : (s : Start) → AcceptedStart s → (calls : List Call) → Ages (written_in (begun_from s []) calls) (begun_from s calls)
  pub read : (r : Reading) → AcceptedRead r → (calls : List Call) → Ages (written_in (from_read r []) calls) (from_read r calls)

-- ---- demand 3

-- one read of bytes agrees with an editor's state (document 01, "The file and its five edits"): it is accepted and has the state's sum,
-- length and tag under every nonce
pub record ReaderAgrees (r : Reading) (st : State) : Type 0 where
  pub accepted : (read_file r).refusal ≡ 0
  pub sum : st.s ≡ (read_file r).state.s
  pub same_length : st.n ≡ (read_file r).state.n
  pub tag :
      (nonce : List ℕ) → 1 ≤ length nonce → length nonce ≤ max_bytes
      → let reader = (read_file r).state in
      tag_of (key_of st) st.h st.s st.n nonce ≡ tag_of (key_of reader) reader.h reader.s reader.n nonce

-- a, a + 1, .., of which there are k; it serves the next statement alone
unfoldable pub up_from : ℕ → ℕ → List ℕ
up_from a zero = []
up_from a (suc k) = a ∷ up_from (a + 1) k

-- of a run from a start, a field for each clause (document 01, "The file and its five edits")
pub record TwoRuns (s : Start) (r : Run) : Type 0 where
  -- the controller refuses exactly what the plain machine refuses, with the same numbers
  pub refusals : r.refusals ≡ r.machine_refusals
  -- lengths and last used numbers agree
  pub lengths : r.state.n ≡ length r.machine.bytes
  pub lasts : r.state.last ≡ r.machine.last
  -- the reported total is the machine's sum of q + seek(k) + 1, and no edit reports more than q + 2b
  pub total : r.total ≡ r.machine_total
  pub within : r.within
  -- the accepted seals' numbers are last + 1, last + 2, .., as many as the last used number rose, and none stands twice
  pub numbers : r.numbers ≡ up_from (s.last + 1) (length r.numbers)
  pub issues : r.machine.last ≡ s.last + length r.numbers
  pub distinct : (i j : ℕ) → i < j → j < length r.numbers → get_or r.numbers i 0 ≢ get_or r.numbers j 0
  -- where every old or removed byte named in an accepted edit was the byte there, one read of the final bytes agrees
  pub reader :
      r.truth → (arm last : ℕ) → ReaderAgrees (record { key = s.key; arm = arm; last = last; file = r.machine.bytes }) r.state

-- after any list of calls from any accepted start (document 01, "The file and its five edits")
unfoldable pub Demand3 : Type 0
Demand3 = (s : Start) → AcceptedStart s → (calls : List Call) → TwoRuns s (begun_from s calls)
