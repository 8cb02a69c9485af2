-- `gcm::tags::nonce_block` meets its contract. Each return is one case of J (`TagLaws`).
use Rattle.gcm.proofs.TagLaws.{J_twelve, J_other}
use Rattle.gcm.proofs.tags.nonce_block.Goals as goal

pub returns-then-nonce-ne12 : goal.returns-then-nonce-ne12
returns-then-nonce-ne12 c = J_other _ _ c.if-nonce-ne12.true c.hash.ensures c.to_bytes.ensures

pub returns : goal.returns
returns c = J_twelve _ _ c.if-nonce-ne12.false c.copy_from_slice.ensures.after c.store.ensures
