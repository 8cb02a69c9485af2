-- `hash::print` is safe and ends, and the text is the file's lines. What was taken is within the limit (`ReadingLaws`).
use Rattle.std.proofs.Common.{◌∙◌}
use Rattle.hash.specs.Reading.{lines}
use Rattle.hash.proofs.ReadingLaws.{took-fits, printed}
use Rattle.hash.proofs.print.Goals as goal

pub finish-requires : goal.finish-requires
finish-requires c = took-fits c.requires.took

pub lines-text-requires : goal.lines-text-requires
lines-text-requires c = took-fits c.requires.took

pub say-requires : goal.say-requires
say-requires c = lines _ _ c.requires (c.bytes.ensures ∙ c.lines-text.ensures ∙ printed c.requires c.finish.ensures)
