-- `gcm::tags::hash_key` meets its contract. The cipher of sixteen zero bytes, as a block (`TagLaws`).
use Rattle.gcm.proofs.TagLaws.{hash-key_of}
use Rattle.gcm.proofs.tags.hash_key.Goals as goal

pub returns : goal.returns
returns c = hash-key_of _ c.encrypt.ensures c.from_bytes.ensures
