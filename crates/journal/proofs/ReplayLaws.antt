-- Replay is a walk whose edits a state takes.
-- They rest on the file keeper's law of a refused edit (`Demand1`).
use mathlib.Core.Path.{◌≡◌, refl, ap}
use mathlib.Core.Bool.{Bool, true, false}
use mathlib.Core.List.{List, [], ◌∷◌}
use Prim.Native.Nat.{ℕ, ◌+◌, ◌≤◌}
use lib.Dec.{eqb}
use lib.ListN.{length}
use borrow.Author.Tests.{eqb-false}
use Rattle.std.specs.Prelude.{cond}
use Rattle.file.specs.declared.states.State.{State}
use Rattle.file.specs.Edits.{Edit, given}
use Rattle.file.specs.States.{StateAnswer, edited}
use Rattle.file.proofs.Demand1.{edited_kept}
use Rattle.file.proofs.EditAnswers.{edited-few}
use Rattle.journal.specs.Journals.{ReplayAnswer, stopped_at, opened_journal, applied_edits, applied, replay_refusal, replayed}
use Rattle.journal.specs.Walks.{Taken, WalkAnswer, walk_stopped, walked_edits, walked_on, walked, edit_taken}

-- what replay answers, by its walk
abbrev pub replay_of : WalkAnswer State → ReplayAnswer
replay_of w = record { state = w.after; count = w.total; refusal = w.refusal; offset = w.offset }

replays-from : (st : State) (count : ℕ) (rs : List (ℕ × Edit)) (refusal offset : ℕ)
    → replay_of (walked_edits edit_taken st count rs refusal offset) ≡ applied_edits st count rs refusal offset
unfolding walked_edits applied_edits edit_taken
replays-from st count [] refusal offset = refl
replays-from st count (r ∷ rs) refusal offset =
    flag (eqb (edited st r.1).refusal 0) refl (replays-from (edited st r.1).state (count + (edited st r.1).count) rs refusal offset)
  where
    flag : (t : Bool) → eqb (edited st r.1).refusal 0 ≡ t
        → replay_of (walked_edits edit_taken (edited st r.1).state (count + (edited st r.1).count) rs refusal offset)
        ≡ applied_edits (edited st r.1).state (count + (edited st r.1).count) rs refusal offset
        → let a = edited st r.1 in
        replay_of (cond t (walked_edits edit_taken a.state (count + a.count) rs refusal offset) (walk_stopped a.state count a.refusal r.0))
        ≡ cond t (applied_edits a.state (count + a.count) rs refusal offset) (stopped_at st count a.refusal r.0)
    flag true t ih = ih
    flag false t ih = ap (λ (s : State). stopped_at s count (edited st r.1).refusal r.0) (edited_kept st r.1 (eqb-false _ _ t)).0

pub replays : (st : State) (j : List ℕ) → replay_of (walked edit_taken st.n st j) ≡ replayed st j
unfolding walked walked_on replayed applied
replays st j = flag (eqb (replay_refusal st.n j) 0)
  where
    flag : (t : Bool)
        → let o = opened_journal j in
        replay_of (cond t (walked_edits edit_taken st 0 o.edits o.refusal o.offset) (walk_stopped st 0 (replay_refusal st.n j) 0))
        ≡ cond t (applied_edits st 0 o.edits o.refusal o.offset) (stopped_at st 0 (replay_refusal st.n j) 0)
    flag true = let o = opened_journal j in replays-from st 0 o.edits o.refusal o.offset
    flag false = refl

-- ---- one record

-- what a call answered is what taking its edit makes
module _ (st : State) (e : Edit) where
  pub call-taken : {x : StateAnswer} → x ≡ edited st e → ◌≡◌ {A = Taken State} (record { after = x.state; refusal = x.refusal; added = x.count }) (edit_taken st e)
  unfolding edit_taken
  call-taken q = ap (λ (x : StateAnswer). record { after = x.state; refusal = x.refusal; added = x.count }) q

  pub call-few : (edit_taken st e).added ≤ length (given e) + 128
  unfolding edit_taken
  call-few = edited-few st e
