-- `hash::lines::lines` meets its contract. The five parts one behind the other are the lines (`LineLaws`).
use Rattle.hash.specs.Lines.{ascii}
use Rattle.hash.proofs.LineLaws.{lines-text}
use Rattle.hash.proofs.lines.lines.Goals as goal

pub returns : goal.returns
unfolding ascii
returns c =
    lines-text c.args.n c.args.hash c.blocks-2.ensures c.new-text.ensures.text c.put_count.ensures.text c.put_count-2.ensures.text c.put.ensures.text
    c.put_block.ensures.text c.put-2.ensures.text
