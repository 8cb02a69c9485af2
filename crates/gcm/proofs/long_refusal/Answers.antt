-- `gcm::long_refusal` meets its contract. Each return is a cause of the list.
use borrow.Author.Tests.{lt-ltb, le-ltb}
use Rattle.refusals.proofs.Laws.{first_none, first_here, first_later}
use Rattle.gcm.proofs.long_refusal.Goals as goal

pub returns-then-nonce-gt-MAX_BYTES : goal.returns-then-nonce-gt-MAX_BYTES
returns-then-nonce-gt-MAX_BYTES c = first_here _ _ _ (lt-ltb _ _ c.if-nonce-gt-MAX_BYTES.true)

pub returns-then-a-gt-MAX_BYTES : goal.returns-then-a-gt-MAX_BYTES
returns-then-a-gt-MAX_BYTES c = first_later _ _ _ (le-ltb _ _ c.if-nonce-gt-MAX_BYTES.false) (first_here _ _ _ (lt-ltb _ _ c.if-a-gt-MAX_BYTES.true))

pub returns-then-text-gt-MAX_TEXT : goal.returns-then-text-gt-MAX_TEXT
returns-then-text-gt-MAX_TEXT c =
    first_later _ _ _ (le-ltb _ _ c.if-nonce-gt-MAX_BYTES.false)
    (first_later _ _ _ (le-ltb _ _ c.if-a-gt-MAX_BYTES.false) (first_here _ _ _ (lt-ltb _ _ c.if-text-gt-MAX_TEXT.true)))

pub returns : goal.returns
returns c =
    first_later _ _ _ (le-ltb _ _ c.if-nonce-gt-MAX_BYTES.false)
    (first_later _ _ _ (le-ltb _ _ c.if-a-gt-MAX_BYTES.false) (first_later _ _ _ (le-ltb _ _ c.if-text-gt-MAX_TEXT.false) first_none))
