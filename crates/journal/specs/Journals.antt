-- A journal opened record by record, and replayed (document 02, Q-1), for all inputs.
use Rattle.std.specs.Prelude.{cond, List, [], ◌∷◌, ℕ, zero, suc, ◌+◌, ◌^◌, eqb, ltb, length}
use Rattle.refusals.specs.Refusals.{first}
use Rattle.field.specs.Field.{max_bytes}
use Rattle.file.specs.declared.states.State.{State}
use Rattle.file.specs.Edits.{Edit}
use Rattle.file.specs.States.{edited}
use Rattle.journal.specs.Records.{Opening, opens, refused, ended, opening}

-- ---- a journal opened

-- the records' edits in order, each with the place of its record's first byte, and what stands behind them (document 02, Q-1): the refusal of a
-- record that does not open, or 0 at the journal's end, and its place
pub record Journal : Type 0 where
  pub edits : List (ℕ × Edit)
  pub refusal : ℕ
  pub offset : ℕ

-- the journal from a place on, by what stands there and the rest (document 02, Q-1)
unfoldable pub journal_with : (at : ℕ) → Opening → (rest : ℕ → Journal) → Journal
journal_with at (opens e next) rest =
    let r = rest next in
    record { edits = (at, e) ∷ r.edits; refusal = r.refusal; offset = r.offset }
journal_with at (refused n) rest = record { edits = []; refusal = n; offset = at }
journal_with at ended rest = record { edits = []; refusal = 0; offset = at }

-- the journal from a place on, `most` records of it (document 02, Q-1)
unfoldable pub journal_from : (most : ℕ) (j : List ℕ) (at : ℕ) → Journal
journal_from zero j at = record { edits = []; refusal = 0; offset = at }
journal_from (suc most) j at = journal_with at (opening j at) (journal_from most j)

-- the whole journal (document 02, Q-1); every record has bytes, so that there are no more records than bytes
unfoldable pub opened_journal : List ℕ → Journal
opened_journal j = journal_from (suc (length j)) j 0

-- ---- replay

-- the most bytes of a journal (document 02, Q-1)
abbrev pub max_journal : ℕ
max_journal = 2 ^ 40

-- the refusal of a journal as a whole (document 02, Q-1): 2 for the state's own length, then 10 for the journal's
unfoldable pub replay_refusal : (n : ℕ) (j : List ℕ) → ℕ
replay_refusal n j = first ((ltb max_bytes n, 2) ∷ (ltb max_journal (length j), 10) ∷ [])

-- what replay answers (document 02, Q-1): the state and the total count of the records before the one that was refused, the refusal or 0, and
-- the offset of that record's first byte, or the journal's length
pub record ReplayAnswer : Type 0 where
  pub state : State
  pub count : ℕ
  pub refusal : ℕ
  pub offset : ℕ

-- where replay stops (document 02, Q-1)
abbrev pub stopped_at : State → (count refusal offset : ℕ) → ReplayAnswer
stopped_at st count refusal offset = record { state = st; count = count; refusal = refusal; offset = offset }

-- each edit in turn, to the first that is refused (document 02, Q-1)
unfoldable pub applied_edits : State → (count : ℕ) → List (ℕ × Edit) → (refusal offset : ℕ) → ReplayAnswer
applied_edits st count [] refusal offset = stopped_at st count refusal offset
applied_edits st count (r ∷ rs) refusal offset =
    let a = edited st r.1 in
    cond (eqb a.refusal 0) (applied_edits a.state (count + a.count) rs refusal offset) (stopped_at st count a.refusal r.0)

-- the edits of an opened journal, and then what stands behind them (document 02, Q-1)
unfoldable pub applied : State → (count : ℕ) → Journal → ReplayAnswer
applied st count o = applied_edits st count o.edits o.refusal o.offset

-- replay (document 02, Q-1); a journal that is refused as a whole is not applied, and its offset is 0
unfoldable pub replayed : State → List ℕ → ReplayAnswer
replayed st j =
    cond (eqb (replay_refusal st.n j) 0) (applied st 0 (opened_journal j)) (stopped_at st 0 (replay_refusal st.n j) 0)
