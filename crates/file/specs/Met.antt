-- The demands' hypotheses can be met, and what the demands then say of lists that are known to the end: lists of appends and of seals, however
-- long. A hypothesis that were added to a theorem, such as a bound on its list, would break what is said here. The proof is in proofs/HypothesesMet.
use Rattle.std.specs.Prelude.{◌≡◌, ◌↔◌, ◌≢◌, true, ℕ, ◌+◌, ◌-◌, ◌≤◌, ◌<◌, ◌^◌, length, take, drop, get_or, replicate}
use mathlib.Core.List.{List, [], ◌∷◌, ◌++◌, map, flatten}
use Rattle.cipher.specs.Aes.{key_fits}
use Rattle.field.specs.Field.{sum, max_bytes}
use Rattle.gcm.specs.Gcm.{hash_key}
use Rattle.file.specs.Edits.{change, append, prepend, drop_front, cut_tail, geometry_at, count_of}
use Rattle.file.specs.declared.sealing.Verdict.{Verdict}
use Rattle.file.specs.declared.sealing.Verdict.TheVariants.{Current, Stale, Ahead}
use Rattle.file.specs.States.{Start, Reading}
use Rattle.file.specs.Slips.{slip_bytes, slip_number, sealed, Finds, FindsGenuine, Condition}
use Rattle.file.specs.Calls.{Call, edit, seal, check}
use Rattle.file.specs.Machine.{Machine, TrueCall}
use Rattle.file.specs.Runs.{Run, begun_from, from_read, Written, written_in}
use Rattle.file.specs.Demands.{AcceptedStart, AcceptedRead, Opens, SlipOf, up_from}

-- ---- lists of appends

-- an append of each part (document 01, "The file and its five edits")
abbrev pub appends : List (List ℕ) → List Call
appends parts = map (λ (part : List ℕ). edit (append part)) parts

-- what they count from n bytes on: q + seek(k) + 1 of each part that has bytes (document 01, "The file and its five edits")
unfoldable pub append_counts : (n : ℕ) → List (List ℕ) → ℕ
append_counts n [] = 0
append_counts n (part ∷ parts) = count_of (geometry_at n (append part)) + append_counts (n + length part) parts

-- the bytes of a blank file with every part behind them (document 01, "The file and its five edits")
abbrev pub grown : Start → List (List ℕ) → List ℕ
grown s parts = replicate s.n s.fill ++ flatten parts

-- what demand 3 says of a run of appends (document 01, "The file and its five edits"): none is refused, sum and length are those of the bytes
-- with every part, the total is the formula's, no seal number is used
pub record Grown (s : Start) (parts : List (List ℕ)) (r : Run) : Type 0 where
  pub refusals : r.refusals ≡ replicate (length parts) 0
  pub sums : r.state.s ≡ sum (hash_key s.key) (grown s parts)
  pub lengths : r.state.n ≡ s.n + length (flatten parts)
  pub lasts : r.state.last ≡ s.last
  pub total : r.total ≡ append_counts s.n parts
  pub within : r.within

-- what demand 2 says of bytes that a list left (document 01, "Slip, seal, check"): a seal then writes a slip of them, which is found current; and of
-- every byte list, genuine exactly where it is a slip of them, and each verdict exactly on its condition (document 02, Q-5)
pub record Sealable (key : List ℕ) (arm : ℕ) (bytes out : List ℕ) (before after : Run) : Type 0 where
  pub slip_of : SlipOf key arm bytes (sealed before.state out).slip
  pub found : Finds after.state (sealed before.state out).slip Current
  pub checks : (slip : List ℕ) → FindsGenuine after.state slip ↔ SlipOf key arm bytes slip
  pub verdicts :
      (slip : List ℕ) (v : Verdict)
      → Finds after.state slip v ↔ Condition (Opens slip) (SlipOf key arm bytes slip) after.machine.last (slip_number slip) v

-- ---- lists of seals

-- what demand 3 and the theorem on slips say of k seals in a row (document 02, Q-5): none is refused, their numbers are the next ones, the last slip
-- is current, every other one stale, and none is ahead
pub record Numbered (s : Start) (k : ℕ) (slips : List Written) (r : Run) : Type 0 where
  pub refusals : r.refusals ≡ replicate k 0
  pub total : r.total ≡ 0
  pub numbers : r.numbers ≡ up_from (s.last + 1) k
  pub distinct : (i j : ℕ) → i < j → j < k → get_or r.numbers i 0 ≢ get_or r.numbers j 0
  pub on_slips : map (λ (w : Written). slip_number w.slip) slips ≡ up_from (s.last + 1) k
  pub newest : (before : List Written) (w : Written) → slips ≡ before ++ (w ∷ []) → Finds r.state w.slip Current
  pub older :
      (before after : List Written) (w next : Written) → slips ≡ before ++ (w ∷ next ∷ after) → Finds r.state w.slip Stale
  pub none_ahead : (slip : List ℕ) (i : ℕ) → i < k → slip_number slip ≡ get_or r.numbers i 0 → ¬ Finds r.state slip Ahead

-- ---- the whole

-- what the demands assume holds of every start and read within the limits, and of every edit that names the machine's own bytes (document 01,
-- "The file and its five edits")
pub record Met : Type 0 where
  -- a start and a read are accepted where the key fits and the file is not too long
  pub start : (s : Start) → key_fits s.key ≡ true → s.n ≤ max_bytes → s.arm < 2 ^ 32 → s.last < 2 ^ 64 → AcceptedStart s
  pub read : (r : Reading) → key_fits r.key ≡ true → length r.file ≤ max_bytes → r.arm < 2 ^ 32 → r.last < 2 ^ 64 → AcceptedRead r
  -- an edit that names the machine's own bytes is true, and so is one that names none, a seal and a check
  pub change_true : (m : Machine) (p l : ℕ) (new : List ℕ) → TrueCall m (edit (change p (take l (drop p m.bytes)) new))
  pub append_true : (m : Machine) (s : List ℕ) → TrueCall m (edit (append s))
  pub prepend_true : (m : Machine) (s : List ℕ) → TrueCall m (edit (prepend s))
  pub drop_true : (m : Machine) (l : ℕ) → TrueCall m (edit (drop_front (take l m.bytes)))
  pub cut_true : (m : Machine) (l : ℕ) → TrueCall m (edit (cut_tail (drop (length m.bytes - l) m.bytes)))
  pub seal_true : (m : Machine) (out : List ℕ) → TrueCall m (seal out)
  pub check_true : (m : Machine) (slip : List ℕ) → TrueCall m (check slip)
  -- so demand 3 says of every list of appends, from a start, what it leaves
  pub appends_grow :
      (s : Start) → AcceptedStart s → (parts : List (List ℕ)) → s.n + length (flatten parts) ≤ max_bytes
      → Grown s parts (begun_from s (appends parts))
  -- and demand 2 what a seal after it writes, from a start and from a read
  pub start_sealable :
      (s : Start) → AcceptedStart s → (parts : List (List ℕ)) → s.n + length (flatten parts) ≤ max_bytes → s.last + 1 < 2 ^ 64 → (out : List ℕ)
      → length out ≡ slip_bytes
      → Sealable s.key s.arm (grown s parts) out (begun_from s (appends parts)) (begun_from s (appends parts ++ (seal out ∷ [])))
  pub read_sealable :
      (r : Reading) → AcceptedRead r → (parts : List (List ℕ)) → length r.file + length (flatten parts) ≤ max_bytes → r.last + 1 < 2 ^ 64
      → (out : List ℕ) → length out ≡ slip_bytes
      → Sealable r.key r.arm (r.file ++ flatten parts) out (from_read r (appends parts)) (from_read r (appends parts ++ (seal out ∷ [])))
  -- and of every list of seals what they issue, and how their slips age
  pub seals_numbered :
      (s : Start) → AcceptedStart s → (k : ℕ) → s.last + k < 2 ^ 64 → (out : List ℕ) → length out ≡ slip_bytes
      → let calls = replicate k (seal out) in
      Numbered s k (written_in (begun_from s []) calls) (begun_from s calls)
  -- and an earlier slip is never current, after any list from a start or from a read
  pub start_outdated :
      (s : Start) → AcceptedStart s → (calls : List Call) (before after : List Written) (w next : Written)
      → written_in (begun_from s []) calls ≡ before ++ (w ∷ next ∷ after) → ¬ Finds (begun_from s calls).state w.slip Current
  pub read_outdated :
      (r : Reading) → AcceptedRead r → (calls : List Call) (before after : List Written) (w next : Written)
      → written_in (from_read r []) calls ≡ before ++ (w ∷ next ∷ after) → ¬ Finds (from_read r calls).state w.slip Current
