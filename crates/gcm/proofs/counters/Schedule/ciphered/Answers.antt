-- `gcm::counters::Schedule::ciphered` meets its contract. One block through the function of many (`CounterLaws`).
use borrow.Author.Rules.{rules}
use Rattle.gcm.proofs.CounterLaws.{ciphered_of}
use Rattle.gcm.proofs.counters.Schedule.ciphered.Goals as goal

pub returns : goal.returns
returns c = ciphered_of _ _ c.args.self.now.is (search rules) c.encrypt_blocks.ensures c.from_bytes.ensures
