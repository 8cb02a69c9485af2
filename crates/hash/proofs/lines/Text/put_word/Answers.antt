-- `hash::lines::Text::put_word` meets its contract. The kit's digits are as many as are asked for (`LineLaws`).
use Rattle.std.proofs.Common.{rules, take}
use Rattle.hash.proofs.LineLaws.{word-text}
use Rattle.hash.proofs.lines.Text.put_word.Goals as goal

pub returns-clause-text : goal.returns-clause-text
returns-clause-text c =
    word-text (take c.args.self.now.n c.args.self.now.bytes) c.args.n c.put.ensures.text c.hex-k.ensures.digits (search rules) c.hex-k.ensures.len
