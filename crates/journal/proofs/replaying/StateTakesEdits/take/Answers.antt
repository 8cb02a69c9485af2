-- `journal::replaying::StateTakesEdits::take` meets its contract: what the call answered is what a walk makes of a state (`ReplayLaws`).
use mathlib.Core.Path.{◌≡◌}
use borrow.Author.Rules.{rules}
use Rattle.std.specs.Prelude.{Err}
use Rattle.journal.proofs.ReplayLaws.{call-taken, call-few}
use Rattle.journal.proofs.replaying.StateTakesEdits.take.Goals as goal

pub returns-in_err-products-clause-taken : goal.returns-in_err-products-clause-taken
returns-in_err-products-clause-taken c =
    let told : c.from_residual.result ≡ Err c.in_err-products.field-0.0 = search rules in
    rw told (call-taken _ _ c.in_err-products.ensures)

pub returns-in_err-products-clause-few : goal.returns-in_err-products-clause-few
returns-in_err-products-clause-few c = call-few _ _

pub returns-clause-taken : goal.returns-clause-taken
returns-clause-taken c = rw c.number.ensures (call-taken _ _ c.in_ok-products.ensures)

pub returns-clause-few : goal.returns-clause-few
returns-clause-few c = call-few _ _
