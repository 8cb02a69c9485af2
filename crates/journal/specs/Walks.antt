-- A walk over a journal's records, whatever takes their edits: replay (specs/Journals) and forecast (specs/Forecasts) are two. It serves contracts
-- alone, and is our own.
use Rattle.std.specs.Prelude.{cond, List, [], ◌∷◌, ℕ, ◌+◌, max, eqb}
use Rattle.file.specs.declared.states.State.{State}
use Rattle.file.specs.Edits.{Edit, geometry_at}
use Rattle.file.specs.States.{edited}
use Rattle.journal.specs.declared.forecasting.Lengths.{Lengths}
use Rattle.journal.specs.Journals.{Journal, opened_journal, replay_refusal}
use Rattle.journal.specs.Forecasts.{charge}

-- what an edit makes of an A that takes it, its refusal or 0, and what it adds to the walk's total
pub record Taken (A : Type 0) : Type 0 where
  pub after : A
  pub refusal : ℕ
  pub added : ℕ

-- what a walk answers: what it made of an A, what was added up, the refusal or 0, and the offset of the record's first byte, or the journal's length
pub record WalkAnswer (A : Type 0) : Type 0 where
  pub after : A
  pub total : ℕ
  pub refusal : ℕ
  pub offset : ℕ

-- where a walk stops
abbrev pub walk_stopped : {A : Type 0} → A → (total refusal offset : ℕ) → WalkAnswer A
walk_stopped a total refusal offset = record { after = a; total = total; refusal = refusal; offset = offset }

-- each edit in turn, to the first that is refused
unfoldable pub walked_edits : {A : Type 0} → (A → Edit → Taken A) → A → (total : ℕ) → List (ℕ × Edit) → (refusal offset : ℕ) → WalkAnswer A
walked_edits taken a total [] refusal offset = walk_stopped a total refusal offset
walked_edits taken a total (r ∷ rs) refusal offset =
    let t = taken a r.1 in
    cond (eqb t.refusal 0) (walked_edits taken t.after (total + t.added) rs refusal offset) (walk_stopped t.after total t.refusal r.0)

-- the edits of an opened journal, and then what stands behind them
unfoldable pub walked_on : {A : Type 0} → (A → Edit → Taken A) → A → (total : ℕ) → Journal → WalkAnswer A
walked_on taken a total o = walked_edits taken a total o.edits o.refusal o.offset

-- a walk over a journal, for a file of n bytes; one that is refused as a whole is not walked, and its offset is 0
unfoldable pub walked : {A : Type 0} → (A → Edit → Taken A) → (n : ℕ) → A → List ℕ → WalkAnswer A
walked taken n a j = cond (eqb (replay_refusal n j) 0) (walked_on taken a 0 (opened_journal j)) (walk_stopped a 0 (replay_refusal n j) 0)

-- replay: a state takes an edit as its call does, and the total is of counts
unfoldable pub edit_taken : State → Edit → Taken State
edit_taken st e =
    let a = edited st e in
    record { after = a.state; refusal = a.refusal; added = a.count }

-- forecast: lengths take an edit's geometry, and the total is the bound
unfoldable pub lengths_taken : Lengths → Edit → Taken Lengths
lengths_taken s e =
    let g = geometry_at s.n e in
    record {
      after = cond (eqb g.refusal 0) (record { n = g.n; greatest = max s.greatest g.n }) s;
      refusal = g.refusal;
      added = charge s.n g;
    }
