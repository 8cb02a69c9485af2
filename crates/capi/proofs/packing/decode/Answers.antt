-- `capi::packing::decode` meets its contract. The key's sixteen bytes, three blocks and three numbers are the state (`StateBytes`).
use Rattle.std.proofs.Common.{rules}
use Rattle.cipher.proofs.AesLaws.{length-fits}
use Rattle.capi.specs.Bytes.{state_from}
use Rattle.capi.proofs.StateBytes.{key-size, decoded}
use Rattle.capi.proofs.packing.decode.Goals as goal

pub from_bytes-requires : goal.from_bytes-requires
from_bytes-requires c = length-fits _ (key-size c.args.b.now (search rules))

pub returns : goal.returns
unfolding state_from
returns c =
    decoded _ c.from_bytes.ensures c.hash_key_of.ensures c.load.ensures c.sum_of.ensures c.length_of.ensures c.arm_of.ensures c.last_of.ensures
