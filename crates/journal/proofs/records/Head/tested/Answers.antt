-- `journal::records::Head::tested` meets its contract. Each return is a place of the list of causes (`RecordLaws`).
use mathlib.Core.Path.{ap, subst, ◌∙◌}
use Rattle.std.specs.Prelude.{Some}
use Rattle.journal.specs.Clauses.{KindOf}
use Rattle.journal.proofs.RecordLaws.{body-named, head_short, head_unnamed, head_of_change, head_misplaced, head_of_other}
use Rattle.journal.proofs.records.Head.tested.Goals as goal

pub returns-then-left-body-clause-refusal : goal.returns-then-left-body-clause-refusal
returns-then-left-body-clause-refusal c n k = head_short n _ _ _ (c.body.ensures ∙ body-named _ n _ k) c.if-left-body.true

pub returns-in_default-clause-refusal : goal.returns-in_default-clause-refusal
returns-in_default-clause-refusal c n k =
    head_unnamed n _ _ _ (c.body.ensures ∙ body-named _ n _ k) c.if-left-body.false (subst (KindOf n) c.in_default.is k)

pub returns-in-Change-clause-refusal : goal.returns-in-Change-clause-refusal
returns-in-Change-clause-refusal c n k =
    head_of_change n _ _ _ (c.body.ensures ∙ body-named _ n _ k) c.if-left-body.false (subst (KindOf n) (c.in-Some.is ∙ ap Some c.in-Change.is) k)

pub returns-then-self-ne0-clause-refusal : goal.returns-then-self-ne0-clause-refusal
returns-then-self-ne0-clause-refusal c n k =
    head_misplaced n _ _ _ (c.body.ensures ∙ body-named _ n _ k) c.if-left-body.false _ c.in_default-kind.not-Change (subst (KindOf n) c.in-Some.is k)
    c.if-self-ne0.true

pub returns-else-self-ne0-clause-refusal : goal.returns-else-self-ne0-clause-refusal
returns-else-self-ne0-clause-refusal c n k =
    head_of_other n _ _ _ (c.body.ensures ∙ body-named _ n _ k) c.if-left-body.false _ c.in_default-kind.not-Change (subst (KindOf n) c.in-Some.is k)
    c.if-self-ne0.false
