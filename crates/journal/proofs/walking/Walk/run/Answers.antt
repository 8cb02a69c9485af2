-- `journal::walking::Walk::run` meets its contract. The loop's invariant is `Standing` of `WalkLaws`, with a law for each return; each record moves the
-- place on, which measures the loop.
use mathlib.Core.Path.{◌≡◌, refl, sym, ◌∙◌}
use native.Mathlib.Omega.{arith}
use borrow.Author.Rules.{rules}
use Rattle.std.specs.Prelude.{Err}
use Rattle.journal.specs.declared.causes.Cause.TheVariants.{File}
use Rattle.journal.proofs.PlaceLaws.{record_less, passed}
use Rattle.journal.proofs.WalkLaws.{refused_whole, standing_start, standing_end, standing_refused, standing_stopped, total_fits, standing_next}
use Rattle.journal.proofs.walking.Walk.run.Goals as goal

-- a journal that is refused as a whole
pub returns-in_err-replay_refusal : goal.returns-in_err-replay_refusal
returns-in_err-replay_refusal g c =
    let told : c.from_residual.result ≡ Err c.in_err-replay_refusal.field-0.0 = search rules in
    rw (told, c.requires.0, c.requires.1) (refused_whole g.T.TakesEdits.taken _ _ _ _ (rw c.length.ensures at c.in_err-replay_refusal.ensures))

-- the walk begins
pub records-init : goal.records-init
records-init g c =
    rw (c.requires.0, c.requires.1)
    (refl, standing_start g.T.TakesEdits.taken _ _ _ (rw c.length.ensures at (sym c.in_ok-replay_refusal.ensures)))

-- the journal's end
pub returns-in-End : goal.returns-in-End
returns-in-End g c = standing_end _ c.records.invariant.1 (rw c.records.invariant.0 at c.open.ensures) c.in-End.is

-- a record that does not open
pub returns-in-Refused : goal.returns-in-Refused
returns-in-Refused g c = standing_refused _ c.records.invariant.1 (rw c.records.invariant.0 at c.open.ensures) c.in-Refused.is

-- an edit that is refused
pub returns-in_err-self-in-Record : goal.returns-in_err-self-in-Record
returns-in_err-self-in-Record g c =
    let told : c.from_residual-in_err-self-in-Record.result ≡ Err (File c.in_err-self-in-Record.field-0.0) = search rules in
    rw told
    (standing_stopped _ c.records.invariant.1 (rw c.records.invariant.0 at c.open.ensures) c.in-Record.is _ _
    (rw c.records.invariant.0 at c.in_err-self-in-Record.ensures.taken))

-- the total has room in a word
pub overflow_add-self : goal.overflow_add-self
overflow_add-self g c =
    let z = rw c.length.ensures at (sym c.in_ok-replay_refusal.ensures) in
    omega (
      arith,
      total_fits g.T.TakesEdits.taken c.records.invariant.1 (rw c.records.invariant.0 at c.open.ensures) c.in-Record.is _ _
          (rw c.records.invariant.0 at c.in_ok-self-in-Record.ensures.taken) (rw c.records.invariant.0 at c.take.ensures.few) (passed _ _ z).1,
    )

-- every record has bytes,
-- so that the place moves on
pub records-smaller : goal.records-smaller
records-smaller g c =
    rw (c.move_to.ensures.0, c.move_to.ensures.1)
    (rw (← c.records.invariant.0) at
    (record_less c.records.invariant.1.place (rw c.records.invariant.0 at c.open.ensures) c.in-Record.is))

-- an edit that is taken: the records behind it give,
-- with what it made and added, what the whole journal gives
pub records-preserved : goal.records-preserved
records-preserved g c =
    rw c.move_to.ensures.1 (
      c.move_to.ensures.0 ∙ c.records.invariant.0,
      standing_next g.T.TakesEdits.taken c.records.invariant.1 (rw c.records.invariant.0 at c.open.ensures) c.in-Record.is _ _
          (rw c.records.invariant.0 at c.in_ok-self-in-Record.ensures.taken) (rw c.records.invariant.0 at c.take.ensures.few),
    )
