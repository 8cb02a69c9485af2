-- How strong a slip is, beyond the demands: of all 2^128 hash keys few allow two different files slips with one seal number. No document states it; SEAL.md,
-- "How strong the seal is", says it in plain words.
--
-- What it doesn't say. Hash keys are counted, not AES keys: that to anyone without the key H looks like any of the 2^128 blocks, and AES(key, J) too until
-- J comes again, is assumed by everyone and proved by no one. Of a slip with a number that was never used, the second is all there is. And few
-- hash keys are what an onlooker wants: two slips with one number leave him these to try.
use Rattle.std.specs.Prelude.{◌≡◌, ◌≢◌, List, ℕ, ◌+◌, ◌<◌, ◌^◌, length}
use Rattle.field.specs.declared.blocks.Block.{Block}
use Rattle.field.specs.Field.{AtMostKeys, FileOf}
use Rattle.gcm.specs.Gcm.{hash_key}
use Rattle.file.specs.States.{Reading, read_file}
use Rattle.file.specs.Slips.{slip_bytes, slip_number, sealed}
use Rattle.file.specs.Demands.{SlipOf, AcceptedRead}

-- a hash key allows two slips: it is that of a key under which the one is a slip of file a and the other of file b
pub record Allows (arm : ℕ) (a b slip other : List ℕ) (h : Block) : Type 0 where
  pub key : List ℕ
  pub its_hash_key : hash_key key ≡ h
  pub slip_of_a : SlipOf key arm a slip
  pub other_of_b : SlipOf key arm b other

-- of two different files of at most m blocks each. Its proof is `few-slips` in proofs/Strength
pub record FewSlips : Type 0 where
  -- at most m + 1 hash keys allow two slips with one seal number
  pub one_number :
      (m arm : ℕ) (a b slip other : List ℕ) → FileOf m a → FileOf m b → a ≢ b → slip_number slip ≡ slip_number other
      → AtMostKeys (m + 1) (Allows arm a b slip other)
  -- at most m allow one slip for both, as of a wrong card beside the right slip
  pub one_slip : (m arm : ℕ) (a b slip : List ℕ) → FileOf m a → FileOf m b → a ≢ b → AtMostKeys m (Allows arm a b slip slip)
  -- and where a number serves twice, as after a state was put back, the key's own hash key is among them
  pub reused :
      (r : Reading) (b out : List ℕ)
      → let q : Reading = record { key = r.key; arm = r.arm; last = r.last; file = b } in
      AcceptedRead r → AcceptedRead q → r.last + 1 < 2 ^ 64 → length out ≡ slip_bytes
      → let slip = (sealed (read_file r).state out).slip in
      let other = (sealed (read_file q).state out).slip in
      (slip_number slip ≡ slip_number other) × Allows r.arm r.file b slip other (hash_key r.key)
