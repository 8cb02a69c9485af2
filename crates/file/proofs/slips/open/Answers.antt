-- `file::slips::open` meets its contract. The fields are those of an opened slip (`SlipLaws`).
use Rattle.file.proofs.SlipLaws.{open_done}
use Rattle.file.proofs.slips.open.Goals as goal

pub returns : goal.returns
returns c =
    open_done _ c.if-slip-ne-SLIP_BYTES.false c.number_at-head.ensures c.if-version-ne1.false c.number_at-arm.ensures
    c.number_at-number.ensures c.number_at.ensures c.number_at-2.ensures
    c.from_words-tag.ensures
