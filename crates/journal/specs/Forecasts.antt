-- The forecast of a journal (document 02, Q-7), for all inputs: from the file's length and the journal, of which the heads of the records and the byte
-- length are enough. The proof of the theorem is `forecast_theorem` in proofs/Forecasts.
use Rattle.std.specs.Prelude.{◌≡◌, cond, ◌≢◌, List, [], ◌∷◌, map, ℕ, ◌+◌, ◌^◌, ◌≤◌, ◌<◌, max, eqb, length, take, drop}
use Rattle.field.specs.Field.{max_bytes}
use Rattle.file.specs.declared.states.State.{State}
use Rattle.file.specs.Edits.{Edit, given, Geometry, geometry_at, edit_refusal, count_limit}
use Rattle.file.specs.Calls.{edit}
use Rattle.file.specs.Runs.{Run, run}
use Rattle.journal.specs.Records.{head_bytes, opens, opening}
use Rattle.journal.specs.Journals.{max_journal, replayed}
use Rattle.journal.specs.Singly.{made, stop_of}

-- ---- the forecast

-- what an accepted edit of a file of n bytes adds to the bound (document 02, Q-7): q + 2b, and nothing where it touches no block, which is where it
-- has no bytes
unfoldable pub charge : (n : ℕ) → Geometry → ℕ
charge n g = cond (eqb g.q 0) 0 (count_limit n g)

-- what edits in turn add to it (document 02, Q-7)
unfoldable pub charges : (n : ℕ) → List Edit → ℕ
charges n [] = 0
charges n (e ∷ es) = charge n (geometry_at n e) + charges (geometry_at n e).n es

-- the greatest of n and the lengths after each of edits in turn (document 02, Q-7)
unfoldable pub greatest_length : (n : ℕ) → List Edit → ℕ
greatest_length n [] = n
greatest_length n (e ∷ es) = max n (greatest_length (geometry_at n e).n es)

-- what forecast answers (document 02, Q-7): the bound and the greatest length of the records before the one that replay refuses, that refusal or 0,
-- and the offset of that record's first byte, or the journal's length
pub record ForecastAnswer : Type 0 where
  pub bound : ℕ
  pub greatest : ℕ
  pub refusal : ℕ
  pub offset : ℕ

-- where forecast stops (document 02, Q-7)
abbrev pub forecast_at : (bound greatest refusal offset : ℕ) → ForecastAnswer
forecast_at bound greatest refusal offset = record { bound = bound; greatest = greatest; refusal = refusal; offset = offset }

-- forecast (document 02, Q-7): of the edits that replay makes of a file of n bytes, and of where it stops
unfoldable pub forecasted : (n : ℕ) (j : List ℕ) → ForecastAnswer
forecasted n j = forecast_at (charges n (made n j)) (greatest_length n (made n j)) (stop_of n j).0 (stop_of n j).1

-- ---- what it tells of replay

-- g is the largest of the lengths before and after each of the calls of es, made from r on (document 02, Q-7)
pub record Greatest (r : Run) (es : List Edit) (g : ℕ) : Type 0 where
  pub none_longer : (k : ℕ) → (run r (map edit (take k es))).state.n ≤ g
  pub calls : ℕ
  pub reached : (run r (map edit (take calls es))).state.n ≡ g

-- a record begins at the journal's first byte, and behind every record that opens (document 02, Q-1)
pub data Begins (j : List ℕ) : ℕ → Type 0 where
  at_first : Begins j 0
  behind : {at next : ℕ} {e : Edit} → Begins j at → opening j at ≡ opens e next → Begins j next

-- two journals are of one length, and have the same heads: wherever a record of the first begins, the next twelve bytes are the same. Where fewer are
-- left there is no head; and nothing is said of the bytes behind the heads (document 02, Q-7)
pub record HeadsAgree (j j' : List ℕ) : Type 0 where
  pub size : length j ≡ length j'
  pub heads : (at : ℕ) → Begins j at → at + head_bytes ≤ length j → take head_bytes (drop at j) ≡ take head_bytes (drop at j')

-- forecast, for every state and every journal (document 02, Q-7)
pub record ForecastTheorem : Type 1 where
  -- refused as a whole: 2 for n, and then 10 for the journal's length
  pub long_file : (n : ℕ) (j : List ℕ) → max_bytes < n → forecasted n j ≡ forecast_at 0 n 2 0
  pub long_journal : (n : ℕ) (j : List ℕ) → n ≤ max_bytes → max_journal < length j → forecasted n j ≡ forecast_at 0 n 10 0
  -- it stops where replay does, with the same number
  pub refusal : (st : State) (j : List ℕ) → (replayed st j).refusal ≡ (forecasted st.n j).refusal
  pub offset : (st : State) (j : List ℕ) → (replayed st j).offset ≡ (forecasted st.n j).offset
  -- replay counts no more than the bound, which has room in a word
  pub bound : (st : State) (j : List ℕ) → (replayed st j).count ≤ (forecasted st.n j).bound
  pub fits : (n : ℕ) (j : List ℕ) → (forecasted n j).bound < 2 ^ 64
  -- an accepted edit of at least one byte adds q + 2b to it, and one of no bytes nothing
  pub charged : (n : ℕ) (e : Edit) → edit_refusal n e ≡ 0 → length (given e) ≢ 0 → charge n (geometry_at n e) ≡ count_limit n (geometry_at n e)
  pub uncharged : (n : ℕ) (e : Edit) → edit_refusal n e ≡ 0 → length (given e) ≡ 0 → charge n (geometry_at n e) ≡ 0
  -- the greatest length is the largest of the state's before and after each call of the edits that replay makes (`ReplayTheorem.singly`)
  pub greatest : (r : Run) (j : List ℕ) → Greatest r (made r.state.n j) (forecasted r.state.n j).greatest
  -- so the file that replay leaves is no longer than that
  pub left : (st : State) (j : List ℕ) → (replayed st j).state.n ≤ (forecasted st.n j).greatest
  -- and all is told by the heads alone
  pub by_heads : (n : ℕ) (j j' : List ℕ) → HeadsAgree j j' → forecasted n j ≡ forecasted n j'
