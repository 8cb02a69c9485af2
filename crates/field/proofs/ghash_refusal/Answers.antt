-- `field::ghash_refusal` meets its contract. Each return is at its own place of the list of causes.
use borrow.Author.Tests.{lt-ltb, le-ltb}
use Rattle.refusals.proofs.Laws.{first_none, first_here, first_later, differ, agree}
use Rattle.field.specs.Answers.{ghash_refusal}
use Rattle.field.proofs.ghash_refusal.Goals as goal

pub returns-then-h-ne16 : goal.returns-then-h-ne16
unfolding ghash_refusal
returns-then-h-ne16 c = first_here _ _ _ (differ c.if-h-ne16.true)

pub returns-then-out-ne16 : goal.returns-then-out-ne16
unfolding ghash_refusal
returns-then-out-ne16 c = first_later _ _ _ (agree c.if-h-ne16.false) (first_here _ _ _ (differ c.if-out-ne16.true))

pub returns-then-a-gt-MAX_BYTES : goal.returns-then-a-gt-MAX_BYTES
unfolding ghash_refusal
returns-then-a-gt-MAX_BYTES c =
    first_later _ _ _ (agree c.if-h-ne16.false)
    (first_later _ _ _ (agree c.if-out-ne16.false) (first_here _ _ _ (lt-ltb _ _ c.if-a-gt-MAX_BYTES.true)))

pub returns-then-c-gt-MAX_BYTES : goal.returns-then-c-gt-MAX_BYTES
unfolding ghash_refusal
returns-then-c-gt-MAX_BYTES c =
    first_later _ _ _ (agree c.if-h-ne16.false)
    (first_later _ _ _ (agree c.if-out-ne16.false)
    (first_later _ _ _ (le-ltb _ _ c.if-a-gt-MAX_BYTES.false) (first_here _ _ _ (lt-ltb _ _ c.if-c-gt-MAX_BYTES.true))))

pub returns : goal.returns
unfolding ghash_refusal
returns c =
    first_later _ _ _ (agree c.if-h-ne16.false)
    (first_later _ _ _ (agree c.if-out-ne16.false)
    (first_later _ _ _ (le-ltb _ _ c.if-a-gt-MAX_BYTES.false) (first_later _ _ _ (le-ltb _ _ c.if-c-gt-MAX_BYTES.false) first_none)))
