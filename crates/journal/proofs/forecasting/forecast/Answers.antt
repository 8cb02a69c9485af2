-- `journal::forecasting::forecast` meets its contract: it is a walk whose edits lengths take (`ForecastLaws`).
use mathlib.Core.Path.{ap, ◌∙◌}
use Rattle.journal.proofs.ForecastLaws.{forecast_of, forecasts}
use Rattle.journal.proofs.forecasting.forecast.Goals as goal

pub returns : goal.returns
returns c = rw c.new-walk.ensures.0 at (ap forecast_of c.run-answer.ensures ∙ forecasts _ _)
