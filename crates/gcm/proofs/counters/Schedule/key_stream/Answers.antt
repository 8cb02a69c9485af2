-- `gcm::counters::Schedule::key_stream` meets its contract. Counter blocks, and their ciphers (`CounterLaws`).
use native.Mathlib.Omega.{arith}
use Rattle.gcm.proofs.CounterLaws.{stream_of}
use Rattle.gcm.proofs.counters.Schedule.key_stream.Goals as goal

pub returns : goal.returns
returns c =
    stream_of _ _ _ _ c.args.self.now.is c.fill_counters.ensures c.encrypt_blocks.ensures (λ i l. omega (arith, c.type_inv.pad i))
