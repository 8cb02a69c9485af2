-- `field::multiply_refusal` meets its contract. Each return is at its own place of the list of causes.
use Rattle.refusals.proofs.Laws.{first_none, first_here, first_later, differ, agree}
use Rattle.field.specs.Answers.{multiply_refusal}
use Rattle.field.proofs.multiply_refusal.Goals as goal

pub returns-then-a-ne16 : goal.returns-then-a-ne16
unfolding multiply_refusal
returns-then-a-ne16 c = first_here _ _ _ (differ c.if-a-ne16.true)

pub returns-then-b-ne16 : goal.returns-then-b-ne16
unfolding multiply_refusal
returns-then-b-ne16 c = first_later _ _ _ (agree c.if-a-ne16.false) (first_here _ _ _ (differ c.if-b-ne16.true))

pub returns-then-out-ne16 : goal.returns-then-out-ne16
unfolding multiply_refusal
returns-then-out-ne16 c =
    first_later _ _ _ (agree c.if-a-ne16.false)
    (first_later _ _ _ (agree c.if-b-ne16.false) (first_here _ _ _ (differ c.if-out-ne16.true)))

pub returns : goal.returns
unfolding multiply_refusal
returns c =
    first_later _ _ _ (agree c.if-a-ne16.false)
    (first_later _ _ _ (agree c.if-b-ne16.false) (first_later _ _ _ (agree c.if-out-ne16.false) first_none))
