-- `field::joining::joined_length` meets its contract. Each return is at its own place of the list of causes.
use mathlib.Core.Path.{sym, ◌∙◌}
use Rattle.refusals.proofs.Laws.{first_here, first_later, differ, agree}
use Rattle.field.specs.Parts.{join_refusal}
use Rattle.field.proofs.JoinAnswers.{odd-sums, wrong-sums, past-sizes, by_total}
use Rattle.field.proofs.joining.joined_length.Goals as goal

pub returns-then-h-ne16-clause-refusal : goal.returns-then-h-ne16-clause-refusal
unfolding join_refusal
returns-then-h-ne16-clause-refusal c = first_here _ _ _ (differ c.if-h-ne16.true)

pub returns-then-sums-ne0-clause-refusal : goal.returns-then-sums-ne0-clause-refusal
unfolding join_refusal
returns-then-sums-ne0-clause-refusal c = first_later _ _ _ (agree c.if-h-ne16.false) (first_here _ _ _ (differ (odd-sums _ c.if-sums-ne0.true)))

pub returns-then-sums-lengths-clause-refusal : goal.returns-then-sums-lengths-clause-refusal
unfolding join_refusal
returns-then-sums-lengths-clause-refusal c = first_later _ _ _ (agree c.if-h-ne16.false) (first_here _ _ _ (differ (wrong-sums c.if-sums-lengths.true)))

pub returns-then-unaligned-clause-refusal : goal.returns-then-unaligned-clause-refusal
returns-then-unaligned-clause-refusal c =
    past-sizes _ _ _ c.if-h-ne16.false c.if-sums-ne0.false c.if-sums-lengths.false
    (first_here _ _ _ (sym c.unaligned.ensures ∙ c.if-unaligned.true))

pub returns-clause-refusal : goal.returns-clause-refusal
returns-clause-refusal c =
    rw c.ok_or.ensures.value
    (by_total _ _ _ c.total.result c.if-h-ne16.false c.if-sums-ne0.false c.if-sums-lengths.false (sym c.unaligned.ensures ∙ c.if-unaligned.false)
    c.total.ensures)
