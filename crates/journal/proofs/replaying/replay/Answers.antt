-- `journal::replaying::replay` meets its contract: it is a walk whose edits a state takes (`ReplayLaws`).
use mathlib.Core.Path.{ap, ◌∙◌}
use Rattle.journal.proofs.ReplayLaws.{replay_of, replays}
use Rattle.journal.proofs.replaying.replay.Goals as goal

pub returns : goal.returns
returns c = rw c.new-walk.ensures.0 at (ap replay_of c.run-answer.ensures ∙ replays c.args.state.now _)
