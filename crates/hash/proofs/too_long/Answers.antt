-- `hash::too_long` is safe and ends, and the text is the refusal of its cause.
use Rattle.std.proofs.Common.{refl}
use Rattle.hash.specs.Lines.{ascii}
use Rattle.hash.specs.Reading.{refused_2}
use Rattle.hash.proofs.too_long.Goals as goal

pub say-requires : goal.say-requires
unfolding ascii
say-requires c = refused_2 c.requires refl
