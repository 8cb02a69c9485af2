-- What the boundary's theorem says of lists that are known to the end: appends of any parts, and what comes behind them; of what is refused
-- whatever was lent; and of lists in which journals stand, beside the editor that replays them. A hypothesis added to the theorem, such as a bound
-- on its list, would break what is said here. The proof is `boundary_met` in proofs/BoundaryMet.
use Rattle.std.specs.Prelude.{◌≡◌, true, false, ◌≢◌, ℕ, ◌+◌, ◌*◌, ◌%◌, ◌≤◌, ◌<◌, ◌^◌, length, get_or, replicate}
use mathlib.Core.List.{List, [], ◌∷◌, ◌++◌, map, flatten}
use Rattle.cipher.specs.Aes.{key_fits}
use Rattle.field.specs.Field.{bytes_of, sum, blank_count, max_bytes, Whole, joined}
use Rattle.gcm.specs.Gcm.{hash_key}
use Rattle.file.specs.Edits.{append}
use Rattle.file.specs.States.{Start, Reading, started, read_file}
use Rattle.file.specs.Slips.{slip_bytes, slip_number}
use Rattle.file.specs.Demands.{AcceptedStart, AcceptedRead, SlipOf}
use Rattle.file.specs.Met.{appends, append_counts, grown}
use Rattle.journal.specs.Journals.{max_journal}
use Rattle.journal.specs.Singly.{Task, Editor, idle, worked_all}
use Rattle.journal.specs.Forecasts.{forecasted}
use Rattle.journal.specs.Met.{append_journal, Replayable}
use Rattle.capi.specs.Bytes.{state_bytes, state_from}
use Rattle.capi.specs.Calls.{EditCall, edit_call, start_call, read_call, seal_call, check_call, replay_call, join_call}
use Rattle.capi.specs.LentRuns.{LentRun, lent_begun, lent_run, lent_tasks, states_joined}

-- a start that left x, and appends behind it that left l: none is refused, the start's count is a blank file's and the total the appends', and the
-- bytes hold sum and length of the file with every part (document 01, "The file and its five edits"; document 02, Q-4)
pub record GrownInBytes (s : Start) (parts : List (List ℕ)) (x : EditCall) (l : LentRun) : Type 0 where
  pub begins : (x.refusal ≡ 0) × (x.count ≡ blank_count s.fill s.n)
  pub refusals : l.refusals ≡ replicate (length parts) 0
  pub total : l.total ≡ append_counts s.n parts
  pub sums : (state_from l.state).s ≡ sum (hash_key s.key) (grown s parts)
  pub lengths : (state_from l.state).n ≡ s.n + length (flatten parts)
  -- an append past the limit is then answered 2 and leaves what was lent
  pub past :
      (given : List ℕ) (count : ℕ) → max_bytes < s.n + length (flatten parts) + length given
      → edit_call l.state (append given) count ≡ record { refusal = 2; state = l.state; count = count }
  -- and a journal of appends that fit is replayed to its end
  pub replays :
      (more : List (List ℕ)) → Replayable more → s.n + length (flatten parts) + length (flatten more) ≤ max_bytes
      → let a = replay_call l.state (append_journal more) in
      (a.refusal ≡ 0) × (a.offset ≡ length (append_journal more))
  -- as is forecast of every journal, and it leaves no more bytes and counts no more (document 02, Q-7)
  pub forecasts :
      (j : List ℕ)
      → let f = forecasted (s.n + length (flatten parts)) j in
      let a = replay_call l.state j in
      (a.refusal ≡ f.refusal) × (a.offset ≡ f.offset) × (a.count ≤ f.bound) × ((state_from a.state).n ≤ f.greatest)

-- a seal in lent bytes that hold a file (document 01, "Slip, seal, check"): it is accepted and writes a slip of the file with the next number, and
-- a check of that slip leaves 1, which is current, whatever stood there (document 02, Q-5)
pub record SealedInBytes (key : List ℕ) (arm last : ℕ) (file lent out : List ℕ) : Type 0 where
  pub refusal : (seal_call lent out).refusal ≡ 0
  pub slip_of : SlipOf key arm file (seal_call lent out).slip
  pub number : slip_number (seal_call lent out).slip ≡ last + 1
  pub found : (verdict : ℕ) → check_call (seal_call lent out).state (seal_call lent out).slip verdict ≡ record { refusal = 0; verdict = 1 }

-- lent bytes hold the state of an editor that replays journals, and counts and numbers are its own; ours
pub record WorkedInBytes (l : LentRun) (w : Editor) : Type 0 where
  pub state : state_from l.state ≡ w.state
  pub total : l.total ≡ w.total
  pub refusals : l.refusals ≡ w.refusals

-- so after every list of appends within the limit, and after every list of tasks, whatever was lent. A start or a read with a key of the wrong
-- length is answered 1 and leaves what was lent, and a journal with more bytes than it may have leaves the lent state. Files that are each read join to the
-- sum and the length of all their bytes, and a join with a part behind a broken block is answered 5 and leaves what was lent; ours
pub record BoundaryMet : Type 0 where
  pub start_grows :
      (s : Start) → AcceptedStart s → (lent : List ℕ) (count : ℕ) (parts : List (List ℕ)) → s.n + length (flatten parts) ≤ max_bytes
      → let x = start_call s lent count in
      GrownInBytes s parts x (lent_run (lent_begun x.state) (appends parts))
  pub start_seals :
      (s : Start) → AcceptedStart s → (lent : List ℕ) (count : ℕ) (parts : List (List ℕ)) → s.n + length (flatten parts) ≤ max_bytes
      → s.last + 1 < 2 ^ 64 → (out : List ℕ) → length out ≡ slip_bytes
      → let l = lent_run (lent_begun (start_call s lent count).state) (appends parts) in
      SealedInBytes s.key s.arm s.last (grown s parts) l.state out
  pub read_seals :
      (r : Reading) → AcceptedRead r → (lent : List ℕ) (parts : List (List ℕ)) → length r.file + length (flatten parts) ≤ max_bytes
      → r.last + 1 < 2 ^ 64 → (out : List ℕ) → length out ≡ slip_bytes
      → let l = lent_run (lent_begun (read_call r lent).state) (appends parts) in
      SealedInBytes r.key r.arm r.last (r.file ++ flatten parts) l.state out
  pub start_refused :
      (s : Start) → key_fits s.key ≡ false → (lent : List ℕ) (count : ℕ)
      → start_call s lent count ≡ record { refusal = 1; state = lent; count = count }
  pub read_refused : (r : Reading) → key_fits r.key ≡ false → (lent : List ℕ) → read_call r lent ≡ record { refusal = 1; state = lent }
  pub journal_refused :
      (lent : List ℕ) → length lent ≡ state_bytes → ((i : ℕ) → i < state_bytes → get_or lent i 0 < 256) → (k : ℕ) → max_journal < k
      → (replay_call lent (replicate k 0)).state ≡ lent
  pub start_works :
      (s : Start) → AcceptedStart s → (lent : List ℕ) (count : ℕ) (ts : List Task)
      → WorkedInBytes (lent_tasks (lent_begun (start_call s lent count).state) ts) (worked_all (idle (started s).state) ts)
  pub read_works :
      (r : Reading) → AcceptedRead r → (lent : List ℕ) (ts : List Task)
      → WorkedInBytes (lent_tasks (lent_begun (read_call r lent).state) ts) (worked_all (idle (read_file r).state) ts)
  pub reads_join :
      (key : List ℕ) (arm last : ℕ) (files : List (List ℕ)) → key_fits key ≡ true → arm < 2 ^ 32 → last < 2 ^ 64 → Whole files
      → length (flatten files) ≤ max_bytes → (state lent : List ℕ) (n : ℕ)
      → let reads : List ℕ → List ℕ = λ file. (read_call (record { key = key; arm = arm; last = last; file = file }) state).state in
      states_joined (reads []) (map reads files) lent n
      ≡ record { refusal = 0; sum = bytes_of (sum (hash_key key) (flatten files)); n = length (flatten files) }
  pub join_refused :
      (h s₂ s₃ l₂ l₃ : List ℕ) (n : ℕ) → (joined h s₂ l₂).refusal ≡ 0 → l₂ ≢ [] → (joined h s₂ l₂).n % 16 ≢ 0 → length s₃ ≡ 16 * length (n ∷ l₃)
      → (lent : List ℕ) (m : ℕ) → join_call h (s₂ ++ s₃) (l₂ ++ (n ∷ l₃)) lent m ≡ record { refusal = 5; sum = lent; n = m }
