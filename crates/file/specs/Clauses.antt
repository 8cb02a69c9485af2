-- What serves contracts alone: the code's answers read in document 01's numbers and in the records of the other files.
use Rattle.std.specs.Prelude.{Result, Ok, Err, List, ℕ}
use Rattle.field.specs.declared.multiplying.Count.{Count}
use Rattle.field.specs.Field.{value}
use Rattle.file.specs.declared.causes.Cause.{Cause}
use Rattle.file.specs.declared.causes.Cause.TheVariants.{KeyLength, TooLong, OutOfFile, UnequalPair, BrokenBlock, NumbersUsed, SlipLength, SlipVersion}
use Rattle.file.specs.declared.states.State.{State}
use Rattle.file.specs.declared.geometry.Shape.{Shape}
use Rattle.file.specs.declared.edits.Moved.{Moved}
use Rattle.file.specs.declared.sealing.Verdict.{Verdict}
use Rattle.file.specs.declared.sealing.Verdict.TheVariants.{NotGenuine}
use Rattle.file.specs.declared.slips.Fields.{Fields}
use Rattle.file.specs.Edits.{Geometry, untouched}
use Rattle.file.specs.States.{StateAnswer, AskAnswer}
use Rattle.file.specs.Slips.{SlipFields, unopened, SealAnswer, CheckAnswer}

-- the number of a cause (document 01, "Causes and their numbers")
abbrev pub cause_number : Cause → ℕ
cause_number KeyLength = 1
cause_number TooLong = 2
cause_number OutOfFile = 3
cause_number UnequalPair = 4
cause_number BrokenBlock = 5
cause_number NumbersUsed = 6
cause_number SlipLength = 7
cause_number SlipVersion = 8

-- the refusal that an answer tells (document 01, "Causes and their numbers"), 0 where the work was done
abbrev pub answer_refusal : {A : Type 0} → Result A Cause → ℕ
answer_refusal (Ok _) = 0
answer_refusal (Err c) = cause_number c

-- the count that an edit, start or read reports, 0 where it was refused
abbrev pub outcome_count : Result Count Cause → ℕ
outcome_count (Ok count) = count.raised
outcome_count (Err c) = 0

-- what a call on a state answered, beside the state afterwards
abbrev pub state_answer : State → Result Count Cause → StateAnswer
state_answer st r = record { state = st; refusal = answer_refusal r; count = outcome_count r }

-- what measuring an edit of a file of n bytes answered
abbrev pub geometry_of : ℕ → Result Shape Cause → Geometry
geometry_of n (Ok s) = record { refusal = 0; lead = s.lead; q = s.q; k = s.k; n = s.n }
geometry_of n (Err c) = untouched (cause_number c) n

-- what asking for an edit of a state answered
abbrev pub asked_of : State → Result Moved Cause → AskAnswer
asked_of st (Ok m) = record { refusal = 0; s = m.s; n = m.n; count = m.count.raised }
asked_of st (Err c) = record { refusal = cause_number c; s = st.s; n = st.n; count = 0 }

-- what opening a slip answered
abbrev pub opened_of : Result Fields Cause → SlipFields
opened_of (Ok f) = record { refusal = 0; n = f.length; arm = f.arm; number = f.number; tag = value f.tag }
opened_of (Err c) = unopened (cause_number c)

-- what seal answered, beside the state afterwards and what the slip holds
abbrev pub seal_answer : State → Result Unit Cause → List ℕ → SealAnswer
seal_answer st r slip = record { state = st; refusal = answer_refusal r; slip = slip }

-- what check answered
abbrev pub check_answer : Result Verdict Cause → CheckAnswer
check_answer (Ok v) = record { refusal = 0; verdict = v }
check_answer (Err c) = record { refusal = cause_number c; verdict = NotGenuine }
