-- Document 01's bench cases, those marked with a star, hold.
-- Those of the field are field's own law (FieldBench); the counts rest on its values of block counts and steps (BlockCounts, FieldBench) and
-- on what an accepted edit answers (Calls), and the slip's first bytes on the bytes of a number (Bytes).
use mathlib.Core.Path.{◌≡◌, refl, ap, ◌∙◌}
use mathlib.Core.List.{[], ◌∷◌}
use Prim.Native.Nat.{ℕ, ◌+◌, ◌*◌, ◌^◌, ◌<◌}
use native.Mathlib.Nat.{le_refl, lt_of_lt_of_le, add_assoc, add-lt-add_of_le_of_lt}
use lib.Dec.{lit≤}
use lib.ListN.{length, take}
use lib.Seq.{take_at}
use Rattle.refusals.specs.Refusals.{first}
use Rattle.field.specs.Field.{bytes}
use Rattle.field.proofs.Bytes.{length-bytes, bytes-append, bytes-zero, bytes-suc}
use Rattle.field.proofs.BlockCounts.{blocks-value}
use Rattle.field.proofs.FieldBench.{cases, steps-3}
use Rattle.file.specs.Edits.{Edit, change, append, prepend, drop_front, cut_tail, kind_of, place_of, given, replacing}
use Rattle.file.specs.Edits.{kind_causes, kind_refusal, stands_on, length_after, touched, exponent, geometry, geometry_at, edit_refusal, count_of}
use Rattle.file.specs.States.{StateAnswer}
use Rattle.file.specs.Slips.{slip_value, packed_slip}
use Rattle.file.specs.BenchCases.{Counts, BenchCases}
use Rattle.file.proofs.Calls.{edit-accepted}

-- a slip of version 1, length 40, arm 7 and number 1: what stands before the seal number and the tag
slip_head : (tag : ℕ) → tag < 2 ^ 128 → take 12 (packed_slip 40 7 1 tag) ≡ bytes 12 ((2 ^ 61 + 40) * 2 ^ 32 + 7)
unfolding packed_slip slip_value
slip_head tag h =
    let a = (2 ^ 61 + 40) * 2 ^ 32 + 7 in
    let b = 2 ^ 128 + tag in
    let small : b < 256 ^ 24 = lt_of_lt_of_le (add-lt-add_of_le_of_lt (le_refl (2 ^ 128)) h) (lit≤ tt) in
    ap (λ (v : ℕ). take 12 (bytes 36 v)) (add_assoc (a * 256 ^ 24) (2 ^ 128) tag)
    ∙ ap (take 12) (bytes-append 12 24 a b small)
    ∙ take_at (bytes 12 a) (bytes 24 b) 12 (length-bytes 12 a)

-- and its bytes
head_bytes : bytes 12 ((2 ^ 61 + 40) * 2 ^ 32 + 7) ≡ 0x20 ∷ 0 ∷ 0 ∷ 0 ∷ 0 ∷ 0 ∷ 0 ∷ 0x28 ∷ 0 ∷ 0 ∷ 0 ∷ 7 ∷ []
head_bytes =
    rw (
      bytes-suc 11,
      bytes-suc 10,
      bytes-suc 9,
      bytes-suc 8,
      bytes-suc 7,
      bytes-suc 6,
      bytes-suc 5,
      bytes-suc 4,
      bytes-suc 3,
      bytes-suc 2,
      bytes-suc 1,
      bytes-suc 0,
      bytes-zero,
    )

-- an edit that gives l bytes and r new ones reports what lengths say
counted : (e : Edit) (count l r : ℕ) → length (given e) ≡ l → length (replacing e) ≡ r
    → (geometry (kind_of e) (place_of e) l r 40).refusal ≡ 0 → count_of (geometry (kind_of e) (place_of e) l r 40) ≡ count → Counts e count
unfolding Counts edit_refusal geometry_at
counted e count l r el er a c st n =
    let z : (geometry_at st.n e).refusal ≡ 0 = cc in
    let all = edit-accepted st e z in
    (ap (λ (x : StateAnswer). x.refusal) all, ap (λ (x : StateAnswer). x.count) all ∙ cc)

pub bench_cases : BenchCases
unfolding kind_of place_of given replacing geometry kind_refusal kind_causes first stands_on length_after touched exponent count_of
bench_cases =
    record {
      field = cases;
      change_17 = λ old new a b. counted (change 17 old new) 3 1 1 a b refl (simp (blocks-value, cases.steps_1));
      change_15_16 = λ old new a b. counted (change 15 old new) 4 2 2 a b refl (simp (blocks-value, cases.steps_1));
      append_8 = λ s a. counted (append s) 2 8 0 a refl refl (simp (blocks-value, cases.steps_0));
      append_9 = λ s a. counted (append s) 4 9 0 a refl refl (simp (blocks-value, cases.steps_1));
      prepend_16 = λ s a. counted (prepend s) 5 16 0 a refl refl (simp (blocks-value, steps-3));
      drop_16 = λ s a. counted (drop_front s) 4 16 0 a refl refl (simp (blocks-value, cases.steps_2));
      cut_8 = λ s a. counted (cut_tail s) 3 8 0 a refl refl (simp (blocks-value, cases.steps_1));
      cut_9 = λ s a. counted (cut_tail s) 4 9 0 a refl refl (simp (blocks-value, cases.steps_1));
      cut_40 = λ s a. counted (cut_tail s) 7 40 0 a refl refl (simp (blocks-value, steps-3));
      slip_begins = λ tag h. slip_head tag h ∙ head_bytes;
    }
