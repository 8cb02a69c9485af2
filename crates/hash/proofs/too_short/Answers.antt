-- `hash::too_short` is safe and ends, and the text is the refusal of its cause.
use Rattle.std.proofs.Common.{refl}
use Rattle.hash.specs.Lines.{ascii}
use Rattle.hash.specs.Reading.{refused_1}
use Rattle.hash.proofs.too_short.Goals as goal

pub say-requires : goal.say-requires
unfolding ascii
say-requires c = refused_1 c.requires refl
