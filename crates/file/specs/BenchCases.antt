-- Document 01's bench cases, those marked with a star, as one statement about the definitions. Its proof is in proofs/BenchCases.
use Rattle.std.specs.Prelude.{◌≡◌, List, [], ◌∷◌, ℕ, ◌^◌, ◌<◌, length, take}
use Rattle.field.specs.Field.{FieldBench}
use Rattle.file.specs.declared.states.State.{State}
use Rattle.file.specs.Edits.{Edit, change, append, prepend, drop_front, cut_tail}
use Rattle.file.specs.States.{edited}
use Rattle.file.specs.Slips.{packed_slip}

-- an edit of a file of 40 bytes is accepted, whatever else the state holds, and reports this count (document 01, "Bench cases")
unfoldable pub Counts : Edit → ℕ → Type 0
Counts e count = (st : State) → st.n ≡ 40 → ((edited st e).refusal ≡ 0) × ((edited st e).count ≡ count)

-- the cases marked with a star, one statement (document 01, "Bench cases")
pub record BenchCases : Type 0 where
  -- those of the field alone: products, hashes and seek steps
  pub field : FieldBench
  -- n = 40: change byte 17; bytes 15 and 16
  pub change_17 : (old new : List ℕ) → length old ≡ 1 → length new ≡ 1 → Counts (change 17 old new) 3
  pub change_15_16 : (old new : List ℕ) → length old ≡ 2 → length new ≡ 2 → Counts (change 15 old new) 4
  -- n = 40: append 8; append 9
  pub append_8 : (s : List ℕ) → length s ≡ 8 → Counts (append s) 2
  pub append_9 : (s : List ℕ) → length s ≡ 9 → Counts (append s) 4
  -- n = 40: prepend 16; drop-front 16
  pub prepend_16 : (s : List ℕ) → length s ≡ 16 → Counts (prepend s) 5
  pub drop_16 : (s : List ℕ) → length s ≡ 16 → Counts (drop_front s) 4
  -- n = 40: cut 8; cut 9; cut 40
  pub cut_8 : (s : List ℕ) → length s ≡ 8 → Counts (cut_tail s) 3
  pub cut_9 : (s : List ℕ) → length s ≡ 9 → Counts (cut_tail s) 4
  pub cut_40 : (s : List ℕ) → length s ≡ 40 → Counts (cut_tail s) 7
  -- version 1, length 40, arm 7, number 1, whatever the tag
  pub slip_begins :
      (tag : ℕ) → tag < 2 ^ 128 → take 12 (packed_slip 40 7 1 tag) ≡ 0x20 ∷ 0 ∷ 0 ∷ 0 ∷ 0 ∷ 0 ∷ 0 ∷ 0x28 ∷ 0 ∷ 0 ∷ 0 ∷ 7 ∷ []
