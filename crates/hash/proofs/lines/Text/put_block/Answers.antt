-- `hash::lines::Text::put_block` meets its contract. The digits of its two words are the block's (`LineLaws`).
use Rattle.std.proofs.Common.{rules, take}
use Rattle.field.specs.Field.{Small}
use Rattle.hash.proofs.LineLaws.{block-text}
use Rattle.hash.proofs.lines.Text.put_block.Goals as goal

pub returns-clause-text : goal.returns-clause-text
returns-clause-text c =
    let small : Small c.args.b = record { hi = search rules; lo = search rules } in
    block-text (take c.args.self.now.n c.args.self.now.bytes) c.args.b small c.put_word.ensures.text c.put_word-2.ensures.text
