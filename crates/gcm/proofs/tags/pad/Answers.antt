-- `gcm::tags::pad` meets its contract. The cipher of J, as a block (`TagLaws`).
use Rattle.gcm.proofs.TagLaws.{pad_of}
use Rattle.gcm.proofs.tags.pad.Goals as goal

pub returns : goal.returns
returns c =
    pad_of _ _ _ c.nonce_block.ensures c.encrypt.ensures c.from_bytes.ensures
