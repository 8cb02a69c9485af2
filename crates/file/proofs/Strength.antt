-- Few hash keys allow two slips with one seal number (`few-slips`): the tags differ as the hashes do, so the field's count of hash keys is theirs. It rests on
-- that count (`few-collide`), on gcm's law of two tags, and for what a seal writes on demand 2.
use mathlib.Core.Path.{◌≡◌, refl, sym, ap, ap₂, ◌∙◌}
use mathlib.Core.Logic.{◌≢◌}
use mathlib.Core.List.{List, [], ◌∷◌}
use Prim.Native.Nat.{ℕ, ◌+◌, ◌^◌, ◌≤◌, ◌<◌, zero-le}
use native.Mathlib.Nat.{zero-lt-suc}
use native.Mathlib.Omega.{arith}
use lib.ListN.{length, get_or}
use Rattle.field.specs.declared.blocks.Block.{Block}
use Rattle.field.specs.Field.{block, zero_block, ◌⊕◌, ghash, DifferentKeys, AtMostKeys, FileOf}
use Rattle.field.proofs.Values.{block-value}
use Rattle.field.proofs.Ring.{⊕_same, ⊕-self}
use Rattle.field.proofs.Counting.{at_most, fewer}
use Rattle.field.proofs.Collisions.{few-collide, small-ghash}
use Rattle.gcm.specs.Gcm.{gmac}
use Rattle.gcm.proofs.TagLaws.{gmac-difference, small-gmac}
use Rattle.file.specs.States.{Reading, read_file}
use Rattle.file.specs.Slips.{slip_bytes, slip_number, slip_tag, nonce_of, sealed}
use Rattle.file.specs.Machine.{lent}
use Rattle.file.specs.Runs.{begun, run, from_read}
use Rattle.file.specs.Demands.{SlipOf, AcceptedRead}
use Rattle.file.specs.Strength.{Allows, FewSlips}
use Rattle.file.proofs.Agreement.{agrees-read}
use Rattle.file.proofs.Demand2.{demand_2}
use Rattle.file.proofs.KnownLists.{seal-accepts}

-- a slip's tag as a block
tag-block : (key : List ℕ) (arm : ℕ) (a slip : List ℕ) → SlipOf key arm a slip → block (slip_tag slip) ≡ gmac key (nonce_of arm (slip_number slip)) a
tag-block key arm a slip s =
    ap block s.tag ∙ block-value _ (small-gmac key _ a) ∙ ap (λ (n : ℕ). gmac key (nonce_of n (slip_number slip)) a) s.same_arm

-- where a hash key allows both, the hashes differ as the tags on them do
allowed : (arm : ℕ) (a b slip other : List ℕ) (h : Block) → slip_number slip ≡ slip_number other → Allows arm a b slip other h
    → ghash h a [] ⊕ ghash h b [] ≡ block (slip_tag slip) ⊕ block (slip_tag other)
allowed arm a b slip other h e p =
    let key = p.key in
    ap (λ (h : Block). ghash h a [] ⊕ ghash h b []) (sym p.its_hash_key) ∙ sym (gmac-difference key (nonce_of arm (slip_number slip)) a b)
    ∙ ap₂ ◌⊕◌ (sym (tag-block key arm a slip p.slip_of_a))
    (ap (λ (n : ℕ). gmac key (nonce_of arm n) b) e ∙ sym (tag-block key arm b other p.other_of_b))

module _ (m arm : ℕ) (a b : List ℕ) (f : FileOf m a) (g : FileOf m b) (n : a ≢ b) where
  one_number : (slip other : List ℕ) → slip_number slip ≡ slip_number other → AtMostKeys (m + 1) (Allows arm a b slip other)
  one_number slip other e =
      fewer (λ h p. allowed arm a b slip other h e p) (few-collide.differ m a b f g n (block (slip_tag slip) ⊕ block (slip_tag other)))

  -- one slip says one length
  one_slip : (slip : List ℕ) → AtMostKeys m (Allows arm a b slip slip)
  one_slip slip = at_most m (Allows arm a b slip slip) count
    where
      same : (h : Block) → Allows arm a b slip slip h → ghash h a [] ≡ ghash h b []
      same h p =
          ⊕_same (small-ghash h a f.limit) (small-ghash h b g.limit) (allowed arm a b slip slip h refl p ∙ ⊕-self (block (slip_tag slip)))

      count : (keys : List Block) → DifferentKeys keys → ((i : ℕ) → i < length keys → Allows arm a b slip slip (get_or keys i zero_block))
          → length keys ≤ m
      count [] d has = zero-le
      count (h ∷ keys) d has =
          let p = has 0 (zero-lt-suc _) in
          (few-collide.one_length m a b f g n (sym p.slip_of_a.same_length ∙ p.other_of_b.same_length)).sequences (h ∷ keys) d
          (λ i l. same _ (has i l))

-- what the first seal after a read writes
sealing : (r : Reading) → AcceptedRead r → (out : List ℕ) → r.last + 1 < 2 ^ 64 → length out ≡ slip_bytes
    → let slip = (sealed (read_file r).state out).slip in
    SlipOf r.key r.arm r.file slip × (slip_number slip ≡ r.last + 1)
unfolding from_read run begun lent
sealing r k out l e =
    let s = demand_2.read r k [] tt in
    let z = seal-accepts (lent r) out (agrees-read r k []).holds.short e l in
    (s.seals out z, s.numbers out z)

pub few-slips : FewSlips
few-slips =
    record {
      one_number = λ m arm a b slip other f g n e. one_number m arm a b f g n slip other (omega (arith, e));
      one_slip = λ m arm a b slip f g n. one_slip m arm a b f g n slip;
      reused =
          λ r b out k o l e.
          let p = sealing r k out l e in
          let q = sealing _ o out l e in
          (p.1 ∙ sym q.1, record { key = r.key; its_hash_key = refl; slip_of_a = p.0; other_of_b = q.0 });
    }
