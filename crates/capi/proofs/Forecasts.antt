-- How a forecast stands to the replay of lent bytes. It rests on the journal's `forecast_theorem`.
use mathlib.Core.List.{List}
use Prim.Native.Nat.{ℕ, ◌≤◌}
use Rattle.file.specs.declared.states.State.{State}
use Rattle.journal.specs.Journals.{replayed}
use Rattle.journal.specs.Forecasts.{forecasted}
use Rattle.journal.proofs.Forecasts.{forecast_theorem}
use Rattle.capi.specs.Bytes.{packed_state, state_from}
use Rattle.capi.specs.Calls.{written, replay_call}
use Rattle.capi.specs.Leaves.{ForecastHolds}
use Rattle.capi.proofs.StateBytes.{HasRoom, state-back}

pub forecast_holds : (lent j : List ℕ) → ForecastHolds lent j
unfolding replay_call written
forecast_holds lent j =
    record {
      refusal = forecast_theorem.refusal (state_from lent) j;
      offset = forecast_theorem.offset (state_from lent) j;
      count = forecast_theorem.bound (state_from lent) j;
    }

-- the bytes of a state, and of what its replay leaves
pub longest : (st : State) → HasRoom st → (j : List ℕ) → HasRoom (replayed st j).state
    → (state_from (replay_call (packed_state st) j).state).n ≤ (forecasted (state_from (packed_state st)).n j).greatest
unfolding replay_call written
longest st room j later = rw (state-back st room) (rw (state-back (replayed st j).state later) (forecast_theorem.left st j))
