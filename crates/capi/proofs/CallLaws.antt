-- The calls on a lent state: each is the file keeper's own, between the bytes that are read and those that are written. One law serves each place
-- in the code that writes where the answer is Ok, and one takes a seal, a check and a join to its definition.
use Rattle.std.specs.Prelude.{Result, Ok, Err, MatchResult}
use mathlib.Core.Path.{◌≡◌, ap, ap₂, ◌∙◌}
use mathlib.Core.Logic.{◌≢◌}
use mathlib.Core.List.{List}
use Prim.Native.Nat.{ℕ}
use native.Mathlib.Omega.{arith}
use borrow.Author.Tests.{eq-eqb, ne_eqb}
use lib.ListN.{length}
use lib.Seq.{sets}
use Rattle.field.specs.declared.blocks.Block.{Block}
use Rattle.field.specs.declared.multiplying.Count.{Count}
use Rattle.field.specs.declared.joining.Joined.{Joined}
use Rattle.field.specs.declared.Cause as join
use Rattle.field.specs.declared.Cause.TheVariants as cause
use Rattle.field.specs.Field as field
use Rattle.field.specs.Field.{bytes_of, join_answer, JoinAnswer, joined}
use Rattle.field.proofs.Packed.{bytes_of_whole}
use Rattle.file.specs.declared.causes.Cause.{Cause}
use Rattle.file.specs.declared.states.State.{State}
use Rattle.file.specs.declared.sealing.Verdict.{Verdict}
use Rattle.file.specs.Clauses.{cause_number, answer_refusal, state_answer, seal_answer, check_answer}
use Rattle.file.specs.Slips.{SealAnswer, sealed, CheckAnswer, checked}
use Rattle.file.proofs.ShapeLaws.{cause_pos}
use Rattle.capi.specs.Bytes.{packed_state, state_from}
use Rattle.capi.specs.Calls.{kept, SealCall, stamped, seal_call}
use Rattle.capi.specs.Calls.{CheckCall, verdict_byte, judged, check_call, handed, join_call}
use Rattle.capi.specs.Clauses.{edit_result, seal_result, check_result, join_result}

-- no cause's number is 0
refuses : (c : Cause) → cause_number c ≢ 0
refuses c z = omega (arith, cause_pos c)

-- ---- what a call on a state answered, put where the caller wants it

-- where it was accepted its state and its count are written, and where it was refused what stood there stays
pub kept_as : (st : State) (r : Result Count Cause) (state : List ℕ) (count : ℕ) {n m : ℕ} {b : List ℕ} → n ≡ answer_refusal r
    → MatchResult r (λ p. (b ≡ packed_state st) × (m ≡ p.raised)) (λ _. (b ≡ state) × (m ≡ count))
    → edit_result n b m ≡ kept (state_answer st r) state count
unfolding kept
kept_as st (Ok p) state count {m = m} e f = ap₂ (λ (x : ℕ) (t : List ℕ). edit_result x t m) e f.0 ∙ ap (edit_result 0 (packed_state st)) f.1
kept_as st (Err c) state count {m = m} e f =
    simp (ne_eqb _ _ (refuses c)) (ap₂ (λ (x : ℕ) (t : List ℕ). edit_result x t m) e f.0 ∙ ap (edit_result (cause_number c) state) f.1)

-- ---- seal

-- an accepted one writes its state
pub stamped_as : (st : State) (r : Result Unit Cause) (state slip : List ℕ) {n : ℕ} {b : List ℕ} → n ≡ answer_refusal r
    → MatchResult r (λ _. b ≡ packed_state st) (λ _. b ≡ state) → seal_result n b slip ≡ stamped (seal_answer st r slip) state
unfolding stamped
stamped_as st (Ok _) state slip e f = ap₂ (λ (x : ℕ) (t : List ℕ). seal_result x t slip) e f
stamped_as st (Err c) state slip e f = simp (ne_eqb _ _ (refuses c)) (ap₂ (λ (x : ℕ) (t : List ℕ). seal_result x t slip) e f)

-- the seal of the state that was read
pub seal-call : (state slip : List ℕ) {st : State} {a : SealAnswer} {x : SealCall} → st ≡ state_from state → a ≡ sealed st slip
    → x ≡ stamped a state → x ≡ seal_call state slip
unfolding seal_call
seal-call state slip es ea ex =
    ex ∙ ap (λ (b : SealAnswer). stamped b state) (ea ∙ ap (λ (t : State). sealed t slip) es)

-- ---- check

-- one that finds a verdict writes its byte
pub judged_as : (r : Result Verdict Cause) (held : ℕ) {n b : ℕ} → n ≡ answer_refusal r
    → MatchResult r (λ v. b ≡ verdict_byte v) (λ _. b ≡ held) → check_result n b ≡ judged (check_answer r) held
unfolding judged
judged_as (Ok v) held e f = ap₂ check_result e f
judged_as (Err c) held e f = simp (ne_eqb _ _ (refuses c)) (ap₂ check_result e f)

-- the check of the state that was read
pub check-call : (state slip : List ℕ) (held : ℕ) {st : State} {a : CheckAnswer} {x : CheckCall} → st ≡ state_from state → a ≡ checked st slip
    → x ≡ judged a held → x ≡ check_call state slip held
unfolding check_call
check-call state slip held es ea ex =
    ex ∙ ap (λ (b : CheckAnswer). judged b held) (ea ∙ ap (λ (t : State). checked t slip) es)

-- ---- blocks and joins

-- a block written over sixteen bytes
pub block_over : (b : Block) (out : List ℕ) → length out ≡ 16 → sets out 0 (bytes_of b) ≡ bytes_of b
block_over b out l = bytes_of_whole b out l

-- a join, handed over where it is accepted
module _ (a : JoinAnswer) (lent : List ℕ) (n : ℕ) where
  pub handed-accepted : a.refusal ≡ 0 → handed a lent n ≡ join_result 0 (bytes_of a.s) a.n
  unfolding handed
  handed-accepted z = simp (eq-eqb _ _ z)

  pub handed_otherwise : a.refusal ≢ 0 → handed a lent n ≡ join_result a.refusal lent n
  unfolding handed
  handed_otherwise z = simp (ne_eqb _ _ z)

-- no number of a join's cause is 0
join_refuses : (c : join.Cause) → field.cause_number c ≢ 0
join_refuses cause.InputLength e = omega arith
join_refuses cause.TooLong e = omega arith
join_refuses cause.PartLength e = omega arith
join_refuses cause.OutputLength e = omega arith
join_refuses cause.SumsLength e = omega arith

-- a join, handed over where it is accepted
handed_as : (s : Block) (l : ℕ) (r : Result Unit join.Cause) (lent : List ℕ) (n : ℕ) {k m : ℕ} {b : List ℕ} → k ≡ field.answer_refusal r
    → MatchResult r (λ _. (b ≡ bytes_of s) × (m ≡ l)) (λ _. (b ≡ lent) × (m ≡ n))
    → join_result k b m ≡ handed (record { refusal = field.answer_refusal r; s = s; n = l }) lent n
unfolding handed
handed_as s l (Ok _) lent n {m = m} e f = ap₂ (λ (x : ℕ) (t : List ℕ). join_result x t m) e f.0 ∙ ap (join_result 0 (bytes_of s)) f.1
handed_as s l (Err c) lent n {m = m} e f =
    simp (ne_eqb _ _ (join_refuses c)) (ap₂ (λ (x : ℕ) (t : List ℕ). join_result x t m) e f.0 ∙ ap (join_result (field.cause_number c) lent) f.1)

-- what code's join answered
pub join-call : (h sums lengths lent : List ℕ) (n : ℕ) (j : Joined) {k m : ℕ} {b : List ℕ} → join_answer j ≡ joined h sums lengths
    → k ≡ field.answer_refusal j.answer → MatchResult j.answer (λ _. (b ≡ bytes_of j.sum) × (m ≡ j.length)) (λ _. (b ≡ lent) × (m ≡ n))
    → join_result k b m ≡ join_call h sums lengths lent n
unfolding join_call
join-call h sums lengths lent n j ej e f = handed_as j.sum j.length j.answer lent n e f ∙ ap (λ (a : JoinAnswer). handed a lent n) ej
