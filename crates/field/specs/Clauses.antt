-- What serves contracts alone and stands in no standard: the numbers of the answers that code gives, and what code's functions
-- return, written whole, so that a contract is one equation.
use Rattle.std.specs.Prelude.{◌≡◌, List, Result, Ok, Err, ℕ, ◌+◌, ◌-◌, ◌<◌, length, get_or}
use Rattle.field.specs.declared.blocks.Block.{Block}
use Rattle.field.specs.declared.multiplying.Counted.{Counted}
use Rattle.field.specs.declared.seeking.Sought.{Sought}
use Rattle.field.specs.declared.filling.Powers.{Powers}
use Rattle.field.specs.declared.streaming.Stream.{Stream}
use Rattle.field.specs.declared.joining.Joined.{Joined}
use Rattle.field.specs.declared.Cause.{Cause}
use Rattle.field.specs.declared.Cause.TheVariants.{InputLength, TooLong, PartLength, OutputLength, SumsLength}
use Rattle.field.specs.Blocks.{value}
use Rattle.field.specs.Powers.{power}
use Rattle.field.specs.Sums.{blocks, sum}
use Rattle.field.specs.Ghash.{Yᵢ}
use Rattle.field.specs.Parts.{JoinAnswer}

-- the number of a cause (document 01, "Causes and their numbers"; document 02, Q-6)
abbrev pub cause_number : Cause → ℕ
cause_number InputLength = 1
cause_number TooLong = 2
cause_number PartLength = 5
cause_number OutputLength = 7
cause_number SumsLength = 15

-- the number of an answer (document 01, "Causes and their numbers"), 0 where the work was done
abbrev pub answer_refusal : {A : Type 0} → Result A Cause → ℕ
answer_refusal (Ok _) = 0
answer_refusal (Err cause) = cause_number cause

-- a product and the running count of counted products (document 01, "The file and its five edits")
abbrev pub counted : Block → ℕ → Counted
counted v n = record { value = v; count = record { raised = n } }

-- a power, seek's steps, and that running count (the same)
abbrev pub sought : Block → ℕ → ℕ → Sought
sought p s n = record { power = p; steps = s; count = record { raised = n } }

-- powers added up, the next power, and that running count (document 02, Q-4)
abbrev pub powers_to : Block → Block → ℕ → Powers
powers_to s p n = record { sum = s; next = p; count = record { raised = n } }

-- a stream under H that has taken the bytes s, of whole blocks or at their end: H, the sum of s, and how many bytes they are
unfoldable pub streamed : Block → List ℕ → Stream
streamed h s = record { h = h; y = sum h s; n = length s }

-- a stream that goes on over one chunk more, whose last block is padded with zero bytes
unfoldable pub absorbed : Stream → List ℕ → Stream
absorbed t s = record { h = t.h; y = Yᵢ t.h t.y s (blocks (length s)); n = t.n + length s }

-- what a join answers, by its cause's number (document 02, Q-6)
abbrev pub join_answer : Joined → JoinAnswer
join_answer j = record { refusal = answer_refusal j.answer; s = j.sum; n = j.length }

-- sixteen numbers t are the powers of h from h^16 down to h^1
abbrev pub PowersIn : Block → List ℕ → Type 0
PowersIn h t = (n : ℕ) → n < 16 → get_or t n 0 ≡ value (power h (16 - n))
