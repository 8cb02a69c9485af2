-- `hash::lines::Text::put_count` meets its contract. A word, and behind it the kit's digits, the fewest that hold the number (`LineLaws`).
use Rattle.std.proofs.Common.{rules, take}
use Rattle.hash.proofs.LineLaws.{count-text}
use Rattle.hash.proofs.lines.Text.put_count.Goals as goal

pub returns-clause-text : goal.returns-clause-text
returns-clause-text c =
    count-text (take c.args.self.now.n c.args.self.now.bytes) c.args.word.now c.args.n c.put.ensures.text c.put-2.ensures.text
    c.decimal-k.ensures.digits (search rules) c.decimal-k.ensures.len
