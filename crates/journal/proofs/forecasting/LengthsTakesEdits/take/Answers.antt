-- `journal::forecasting::LengthsTakesEdits::take` meets its contract: what was measured is what a walk makes of lengths (`ForecastLaws`).
use mathlib.Core.Path.{◌≡◌}
use native.Mathlib.Omega.{arith}
use borrow.Author.Rules.{rules}
use Rattle.std.specs.Prelude.{Err}
use Rattle.journal.proofs.ForecastLaws.{measured-refused, measured-taken, measured-few, lengths-few}
use Rattle.journal.proofs.forecasting.LengthsTakesEdits.take.Goals as goal

pub returns-in_err-shape-clause-taken : goal.returns-in_err-shape-clause-taken
returns-in_err-shape-clause-taken c =
    let told : c.from_residual.result ≡ Err c.in_err-shape.field-0.0 = search rules in
    rw told (measured-refused _ _ _ c.requires _ c.in_err-shape.ensures)

pub returns-in_err-shape-clause-few : goal.returns-in_err-shape-clause-few
returns-in_err-shape-clause-few c = lengths-few _ _

pub charge-requires : goal.charge-requires
charge-requires c = measured-few _ c.args.self.now _ c.requires c.in_ok-shape.ensures

pub returns-clause-taken : goal.returns-clause-taken
returns-clause-taken c = measured-taken _ _ _ c.requires c.in_ok-shape.ensures (omega (arith, c.max-self.ensures)) c.charge.ensures

pub returns-clause-few : goal.returns-clause-few
returns-clause-few c = lengths-few _ _
