-- `gcm::counters::Schedule::turn` meets its contract. The key stream of a batch, added to it (`Batches`).
use Rattle.gcm.proofs.Batches.{batch_turned}
use Rattle.gcm.proofs.counters.Schedule.turn.Goals as goal

pub returns : goal.returns
returns c =
    let fits = c.stream_bytes-whole.ensures in
    batch_turned _ _ _ _ _ _ c.requires.0 fits.0 fits.1 fits.2 fits.2 c.key_stream.ensures c.add.ensures
