-- What the journal's theorems say of journals that are known to the end: records of any edits, and journals of appends, however many and however
-- long. A hypothesis that were added to a theorem, such as a bound on a list or on an edit's bytes, would break what is said here. The proofs are
-- `format_met`, `replay-met`, `forecast_met` and `journal_demands_met` in proofs/KnownJournals, KnownForecasts and KnownTasks.
use Rattle.std.specs.Prelude.{◌≡◌, ◌≢◌, ℕ, ◌+◌, ◌≤◌, ◌<◌, ◌^◌, length, replicate}
use mathlib.Core.List.{List, [], ◌∷◌, ◌++◌, map, flatten}
use Rattle.field.specs.Field.{sum, max_bytes}
use Rattle.gcm.specs.Gcm.{hash_key}
use Rattle.file.specs.declared.states.State.{State}
use Rattle.file.specs.Edits.{Edit, change, append, prepend, drop_front, cut_tail, geometry_at, count_limit}
use Rattle.file.specs.States.{Start, Reading, started, read_file}
use Rattle.file.specs.Slips.{slip_bytes, slip_number, sealed}
use Rattle.file.specs.Calls.{seal}
use Rattle.file.specs.Runs.{Run, run}
use Rattle.file.specs.Demands.{AcceptedStart, AcceptedRead, SlipOf, up_from}
use Rattle.file.specs.Met.{appends, append_counts, grown}
use Rattle.journal.specs.Records.{head_bytes, packed_record, HasRecord}
use Rattle.journal.specs.Journals.{max_journal, ReplayAnswer, stopped_at, replayed}
use Rattle.journal.specs.Singly.{Opens, Task, call, replay, Editor, idle, worked_all}
use Rattle.journal.specs.Forecasts.{charge, ForecastAnswer, forecast_at, forecasted}

-- ---- records

-- the records of edits, back to back (document 02, Q-1)
unfoldable pub packed_records : List Edit → List ℕ
packed_records [] = []
packed_records (e ∷ es) = packed_record e ++ packed_records es

-- every edit of a list has room in a record (document 02, Q-1)
unfoldable pub HaveRecords : List Edit → Type 0
HaveRecords [] = Unit {0}
HaveRecords (e ∷ es) = HasRecord e × HaveRecords es

-- edits whose lengths fit have records, and records back to back open to their edits in order, wherever they stand (document 02, Q-1)
pub record FormatMet : Type 0 where
  pub change_has : (p : ℕ) (old new : List ℕ) → p < 2 ^ 61 → length old < 2 ^ 32 → length new ≡ length old → HasRecord (change p old new)
  pub append_has : (s : List ℕ) → length s < 2 ^ 32 → HasRecord (append s)
  pub prepend_has : (s : List ℕ) → length s < 2 ^ 32 → HasRecord (prepend s)
  pub drop_has : (s : List ℕ) → length s < 2 ^ 32 → HasRecord (drop_front s)
  pub cut_has : (s : List ℕ) → length s < 2 ^ 32 → HasRecord (cut_tail s)
  pub opened :
      (es : List Edit) → HaveRecords es → (before behind : List ℕ)
      → Opens (before ++ packed_records es ++ behind) (length before) es (length before + length (packed_records es))

-- ---- journals of appends

-- a record for each part (document 02, Q-1)
abbrev pub append_journal : List (List ℕ) → List ℕ
append_journal parts = packed_records (map append parts)

-- every part has room in a record, and the journal of them is none too long (document 02, Q-1)
abbrev pub Replayable : List (List ℕ) → Type 0
Replayable parts = HaveRecords (map append parts) × (length (append_journal parts) ≤ max_journal)

-- such a journal is replayed whole: state and count are those of the appends made singly (document 02, Q-1)
pub record ReplayedWhole (r after : Run) (j : List ℕ) (a : ReplayAnswer) : Type 0 where
  pub refusal : a.refusal ≡ 0
  pub offset : a.offset ≡ length j
  pub state : a.state ≡ after.state
  pub total : r.total + a.count ≡ after.total

pub record ReplayMet : Type 1 where
  pub whole :
      (r : Run) (parts : List (List ℕ)) → Replayable parts → r.state.n + length (flatten parts) ≤ max_bytes
      → ReplayedWhole r (run r (appends parts)) (append_journal parts) (replayed r.state (append_journal parts))
  -- and nothing of a journal that is too long, or of one for a state that is
  pub too_long : (st : State) (k : ℕ) → st.n ≤ max_bytes → max_journal < k → replayed st (replicate k 0) ≡ stopped_at st 0 10 0
  pub state_too_long : (st : State) (parts : List (List ℕ)) → max_bytes < st.n → replayed st (append_journal parts) ≡ stopped_at st 0 2 0

-- ---- their forecasts

-- what is forecast of a journal of appends that fit (document 02, Q-7): it is not refused, the greatest length is the one that they leave, and the bound
-- is at least what they count and has room in a word
pub record ForecastWhole (r after : Run) (parts : List (List ℕ)) (a : ForecastAnswer) : Type 0 where
  pub refusal : a.refusal ≡ 0
  pub offset : a.offset ≡ length (append_journal parts)
  pub greatest : a.greatest ≡ r.state.n + length (flatten parts)
  pub left : after.state.n ≤ a.greatest
  pub bound : after.total ≤ r.total + a.bound
  pub fits : a.bound < 2 ^ 64

-- two lists of parts, each part as long as its fellow
unfoldable pub SameLengths : (parts parts' : List (List ℕ)) → Type 0
SameLengths [] [] = Unit {0}
SameLengths [] (part' ∷ parts') = ⊥
SameLengths (part ∷ parts) [] = ⊥
SameLengths (part ∷ parts) (part' ∷ parts') = (length part ≡ length part') × SameLengths parts parts'

pub record ForecastMet : Type 1 where
  pub whole :
      (r : Run) (parts : List (List ℕ)) → Replayable parts → r.state.n + length (flatten parts) ≤ max_bytes
      → ForecastWhole r (run r (appends parts)) parts (forecasted r.state.n (append_journal parts))
  -- each part that has bytes adds q + 2b, and one without none
  pub part_adds :
      (n : ℕ) (part : List ℕ) → n + length part ≤ max_bytes → length part ≢ 0
      → charge n (geometry_at n (append part)) ≡ count_limit n (geometry_at n (append part))
  pub nothing_adds : (n : ℕ) → n ≤ max_bytes → charge n (geometry_at n (append [])) ≡ 0
  -- appends of other bytes, as long, have the same forecast
  pub other_bytes :
      (n : ℕ) (parts parts' : List (List ℕ)) → HaveRecords (map append parts) → SameLengths parts parts'
      → forecasted n (append_journal parts) ≡ forecasted n (append_journal parts')
  -- so have any bytes that are too few for a head, which are refused where there are some
  pub no_head : (n : ℕ) (j j' : List ℕ) → length j ≡ length j' → length j < head_bytes → forecasted n j ≡ forecasted n j'
  -- of every journal, refused or not, the greatest length is at least the first, and the bound has room in a word
  pub every : (r : Run) (j : List ℕ) → (r.state.n ≤ (forecasted r.state.n j).greatest) × ((forecasted r.state.n j).bound < 2 ^ 64)
  -- a journal that is too long, and a file that is
  pub too_long : (n k : ℕ) → n ≤ max_bytes → max_journal < k → forecasted n (replicate k 0) ≡ forecast_at 0 n 10 0
  pub file_too_long : (n : ℕ) (parts : List (List ℕ)) → max_bytes < n → forecasted n (append_journal parts) ≡ forecast_at 0 n 2 0

-- ---- lists of journals

-- each group of parts is a journal of its own (document 02, Q-1)
unfoldable pub AllReplayable : List (List (List ℕ)) → Type 0
AllReplayable [] = Unit {0}
AllReplayable (parts ∷ groups) = Replayable parts × AllReplayable groups

-- a journal for each group of parts, and then k seals; our own
abbrev pub journals_then_seals : List (List (List ℕ)) → (k : ℕ) (out : List ℕ) → List Task
journals_then_seals groups k out = map (λ (parts : List (List ℕ)). replay (append_journal parts)) groups ++ replicate k (call (seal out))

-- what the editor has done then: it refused nothing, its sum and length are those of the bytes with every part, its total is the formula's, and its
-- seal numbers are the next ones, each on a slip; our own
pub record Filed (s : Start) (groups : List (List (List ℕ))) (k : ℕ) (w : Editor) : Type 0 where
  pub refusals : w.refusals ≡ replicate (length groups) 0 ++ replicate k 0
  pub sums : w.state.s ≡ sum (hash_key s.key) (grown s (flatten groups))
  pub lengths : w.state.n ≡ s.n + length (flatten (flatten groups))
  pub total : w.total ≡ append_counts s.n (flatten groups)
  pub numbers : w.numbers ≡ up_from (s.last + 1) k
  pub on_slips : map slip_number w.slips ≡ up_from (s.last + 1) k

-- so the demands of lists in which journals stand say of every list of such journals: from a start, and from a read what one seal more writes
pub record JournalDemandsMet : Type 0 where
  pub start :
      (s : Start) → AcceptedStart s → (groups : List (List (List ℕ))) → AllReplayable groups → s.n + length (flatten (flatten groups)) ≤ max_bytes
      → (k : ℕ) → s.last + k < 2 ^ 64 → (out : List ℕ) → length out ≡ slip_bytes
      → Filed s groups k (worked_all (idle (started s).state) (journals_then_seals groups k out))
  pub read :
      (f : Reading) → AcceptedRead f → (groups : List (List (List ℕ))) → AllReplayable groups
      → length f.file + length (flatten (flatten groups)) ≤ max_bytes → (k : ℕ) → f.last + k + 1 < 2 ^ 64 → (out : List ℕ)
      → length out ≡ slip_bytes
      → let w = worked_all (idle (read_file f).state) (journals_then_seals groups k out) in
      SlipOf f.key f.arm (f.file ++ flatten (flatten groups)) (sealed w.state out).slip
