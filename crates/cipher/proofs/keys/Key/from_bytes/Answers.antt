-- `cipher::keys::Key::from_bytes` meets its contract. A slice that is a key has sixteen bytes.
use Rattle.cipher.proofs.AesLaws.{fits-length}
use Rattle.cipher.proofs.keys.Key.from_bytes.Goals as goal

pub unwrap-requires : goal.unwrap-requires
unwrap-requires c = c.as_array.ensures.variant.1 (fits-length _ c.requires)
