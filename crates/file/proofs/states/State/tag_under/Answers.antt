-- `file::states::State::tag_under` meets its contract. The nonce is the bytes of arm and number (`SealReturns`).
use Rattle.file.proofs.SealReturns.{state-tag}
use Rattle.file.proofs.states.State.tag_under.Goals as goal

pub returns : goal.returns
returns c =
    state-tag c.args.self.now _ _ c.store.ensures c.store-2.ensures c.tag.ensures
