-- What serves contracts alone: the code's answers read in the papers' numbers and in the records of the other files.
use Rattle.std.specs.Prelude.{◌≡◌, ◌⊎◌, List, ℕ, ◌+◌, ◌*◌, ◌≤◌, ◌<◌, length, take, drop, Option, Some, None, Result, Ok, Err}
use Rattle.file.specs.declared.causes.Cause as code
use Rattle.file.specs.declared.geometry.Kind.{Kind}
use Rattle.file.specs.declared.geometry.Kind.TheVariants as kind
use Rattle.file.specs.Edits as keeper
use Rattle.file.specs.Clauses as keeper'
use Rattle.file.specs.declared.states.State.{State}
use Rattle.journal.specs.declared.causes.Cause.{Cause}
use Rattle.journal.specs.declared.causes.Cause.TheVariants.{JournalLength, UnknownKind, PlaceOutsideChange, File}
use Rattle.journal.specs.declared.records.Span.{Span}
use Rattle.journal.specs.declared.records.Head.{Head}
use Rattle.journal.specs.declared.records.Edit.{Edit}
use Rattle.journal.specs.declared.records.Edit.TheVariants.{Change, Append, Prepend, DropFront, CutTail}
use Rattle.journal.specs.declared.records.Opened.{Opened}
use Rattle.journal.specs.declared.records.Opened.TheVariants as opened
use Rattle.journal.specs.declared.walking.Walk.{Walk}
use Rattle.journal.specs.declared.replaying.Replayed.{Replayed}
use Rattle.journal.specs.declared.forecasting.Forecasted.{Forecasted}
use Rattle.journal.specs.Records.{kind_number, record_kind, record_place, record_length, Opening, opens, refused, ended, opening}
use Rattle.journal.specs.Journals.{ReplayAnswer}
use Rattle.journal.specs.Walks.{Taken, WalkAnswer}
use Rattle.journal.specs.Forecasts.{ForecastAnswer, forecast_at}

-- the number of a cause (document 02, Q-1; the file keeper's are document 01's)
abbrev pub cause_number : Cause → ℕ
cause_number JournalLength = 10
cause_number UnknownKind = 11
cause_number PlaceOutsideChange = 12
cause_number (File c) = keeper'.cause_number c

-- the refusal of an answer, 0 where all was done
abbrev pub answer_refusal : {A : Type 0} → Result A Cause → ℕ
answer_refusal (Ok done) = 0
answer_refusal (Err c) = cause_number c

-- the kind of a number, where it is one of the five
abbrev pub KindOf : ℕ → Option Kind → Type 0
KindOf n None = (n ≡ 0) ⊎ (5 < n)
KindOf n (Some k) = n ≡ kind_number k

-- the head of the record at a place
pub record HeadAt (j : List ℕ) (at : ℕ) (h : Head) : Type 0 where
  pub kind : KindOf (record_kind j at) h.kind
  pub p : h.p ≡ record_place j at
  pub size : h.size ≡ record_length j at

-- how many bytes stand behind the head of a kind, or of none
abbrev pub body_of : Option Kind → (l : ℕ) → ℕ
body_of None l = l
body_of (Some kind.Change) l = 2 * l
body_of (Some kind.Append) l = l
body_of (Some kind.Prepend) l = l
body_of (Some kind.DropFront) l = l
body_of (Some kind.CutTail) l = l

-- a span
abbrev pub span : (at size : ℕ) → Span
span at size = record { at = at; size = size }

-- the edit of a kind whose bytes stand from a place on
abbrev pub spans_of : Kind → (p l start : ℕ) → Edit
spans_of kind.Change p l start = Change p (span start l) (span (start + l) l)
spans_of kind.Append p l start = Append (span start l)
spans_of kind.Prepend p l start = Prepend (span start l)
spans_of kind.DropFront p l start = DropFront (span start l)
spans_of kind.CutTail p l start = CutTail (span start l)

-- the bytes of a span
abbrev pub bytes_in : List ℕ → Span → List ℕ
bytes_in j s = take s.size (drop s.at j)

-- the file keeper's edit, with its bytes
abbrev pub edit_of : List ℕ → Edit → keeper.Edit
edit_of j (Change p old new) = keeper.change p (bytes_in j old) (bytes_in j new)
edit_of j (Append given) = keeper.append (bytes_in j given)
edit_of j (Prepend given) = keeper.prepend (bytes_in j given)
edit_of j (DropFront given) = keeper.drop_front (bytes_in j given)
edit_of j (CutTail given) = keeper.cut_tail (bytes_in j given)

-- what opening a record answered
abbrev pub opening_of : List ℕ → Opened → Opening
opening_of j (opened.Record e next) = opens (edit_of j e) next
opening_of j (opened.Refused c) = refused (cause_number c)
opening_of j opened.End = ended

-- an edit's bytes lie in a journal of n bytes
abbrev pub InsideEdit : (n : ℕ) → Edit → Type 0
InsideEdit n (Change p old new) = (old.at + old.size ≤ n) × (new.at + new.size ≤ n)
InsideEdit n (Append given) = given.at + given.size ≤ n
InsideEdit n (Prepend given) = given.at + given.size ≤ n
InsideEdit n (DropFront given) = given.at + given.size ≤ n
InsideEdit n (CutTail given) = given.at + given.size ≤ n

-- so do those of a record that opened
abbrev pub Inside : (n : ℕ) → Opened → Type 0
Inside n (opened.Record e next) = InsideEdit n e
Inside n (opened.Refused c) = Unit {0}
Inside n opened.End = Unit {0}

-- what stands at a place was opened, and the bytes of an edit lie in the journal; in one record, since the reader's functions hand it on as a
-- single fact
pub record OpenedAt (j : List ℕ) (at : ℕ) (r : Opened) : Type 0 where
  pub same : opening_of j r ≡ opening j at
  pub inside : Inside (length j) r

-- what taking an edit answered, beside what it left
abbrev pub taken_answer : {A : Type 0} → A → Result ℕ code.Cause → Taken A
taken_answer a (Ok added) = record { after = a; refusal = 0; added = added }
taken_answer a (Err c) = record { after = a; refusal = keeper'.cause_number c; added = 0 }

-- what a walk answered, beside what it left: the walk itself, and of what took the edits
abbrev pub walk_answer : {A : Type 0} → A → Walk → Result Unit Cause → WalkAnswer A
walk_answer a w answer = record { after = a; total = w.total; refusal = answer_refusal answer; offset = w.reader.place }

-- what replay answered, beside the state that it left
abbrev pub replay_answer : State → Replayed → ReplayAnswer
replay_answer st r = record { state = st; count = r.count; refusal = answer_refusal r.answer; offset = r.offset }

-- what forecast answered
abbrev pub forecast_answer : Forecasted → ForecastAnswer
forecast_answer r = forecast_at r.bound r.greatest (answer_refusal r.answer) r.offset

-- what a record's edit does to lengths, by the sizes of its spans
abbrev pub span_geometry : ℕ → Edit → keeper.Geometry
span_geometry n (Change p old new) = keeper.geometry kind.Change p old.size new.size n
span_geometry n (Append given) = keeper.geometry kind.Append 0 given.size 0 n
span_geometry n (Prepend given) = keeper.geometry kind.Prepend 0 given.size 0 n
span_geometry n (DropFront given) = keeper.geometry kind.DropFront 0 given.size 0 n
span_geometry n (CutTail given) = keeper.geometry kind.CutTail 0 given.size 0 n
