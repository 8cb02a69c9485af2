-- The format: a packed record opens to its edit, wherever it stands.
-- It rests on the field's laws of numbers as bytes and on the laws of a record's refusal (`RecordLaws`).
use mathlib.Core.Path.{◌≡◌, refl, sym, ap, ap₂, ◌∙◌}
use mathlib.Core.Logic.{◌⊎◌, inl, inr}
use mathlib.Core.List.{List, [], ◌++◌, append_assoc}
use Prim.Native.Nat.{ℕ, ◌+◌, ◌-◌, ◌*◌, ◌^◌, ◌≤◌, ◌<◌}
use native.Mathlib.Nat.{add-zero, mod-eq_of_lt}
use native.Mathlib.Omega.{arith}
use lib.ListN.{length, take, drop, length-append}
use lib.Seq.{take_at, drop-append-add, drop-append_seam, drop-drop}
use borrow.Author.Tests.{lt-ltb, le-ltb}
use Rattle.refusals.specs.Refusals.{first}
use Rattle.refusals.proofs.Laws.{first_later}
use Rattle.field.specs.Field.{number, bytes}
use Rattle.field.proofs.Bytes.{number-append_left, number-append_right, number-bytes, length-bytes}
use Rattle.file.specs.Edits.{Edit, change, append, prepend, drop_front, cut_tail, kind_of, place_of, given, replacing}
use Rattle.journal.specs.Records.{head_bytes, kind_number, head_value, packed_record, record_bytes, record_kind, record_place, record_length, body_bytes}
use Rattle.journal.specs.Records.{by_kind, edit_named, record_edit, place_after, head_causes, record_refusal, opens, opening_with, opening, HasRecord, Format}
use Rattle.journal.proofs.RecordLaws.{body_other, head_change, head_fits}

-- ---- a place whose head is that of an edit

module _ (j : List ℕ) (at kind p l : ℕ) (e : number j at head_bytes ≡ head_value kind p l) (lp : p < 2 ^ 61) (ll : l < 2 ^ 32) where
  kind_is : record_kind j at ≡ kind
  unfolding record_kind head_value
  kind_is = omega (arith, e)

  place_is : record_place j at ≡ p
  unfolding record_place head_value
  place_is = omega (arith, e)

  length_is : record_length j at ≡ l
  unfolding record_length head_value
  length_is = omega (arith, e)

  -- a change, or another kind with no place
  module _ (some : 0 < kind) (known : kind ≤ 5) (placed : (kind ≡ 1) ⊎ ((kind ≡ 1 → ⊥) × (p ≡ 0)))
      (room : at + head_bytes + body_bytes kind l ≤ length j) where
    accepts : (kind ≡ 1) ⊎ ((kind ≡ 1 → ⊥) × (p ≡ 0)) → 0 ≡ first (head_causes kind p l (length j - at - head_bytes))
    accepts (inl c) = head_change kind p l _ refl (omega (arith, room)) (λ z. omega arith) known c
    accepts (inr c) = head_fits kind p l _ refl (omega (arith, room)) (λ z. omega arith) known c.0 c.1

    opens_here : (a b : List ℕ) → take l (drop (at + head_bytes) j) ≡ a → take l (drop (at + head_bytes + l) j) ≡ b
        → opening j at ≡ opens (edit_named kind p a b) (at + head_bytes + body_bytes kind l)
    unfolding opening opening_with record_edit place_after record_refusal
    opens_here a b ea eb =
        let refusal : record_refusal j at ≡ 0 =
        sym (first_later _ _ _ (le-ltb (length j - at) head_bytes (omega (arith, room))) (rw (kind_is, place_is, length_is) (accepts placed))) in
        rw (lt-ltb at (length j) (omega (arith, room)), refusal, kind_is, place_is, length_is, ea, eb)

-- ---- the parts of a list in which a record stands

module _ (before g r behind : List ℕ) (v : ℕ) (small : v < 2 ^ 96) where
  abbrev whole : List ℕ
  whole = before ++ (bytes head_bytes v ++ g ++ r) ++ behind

  flat : whole ≡ before ++ (bytes head_bytes v ++ (g ++ (r ++ behind)))
  flat = simp append_assoc

  number_here : number whole (length before) head_bytes ≡ v
  number_here =
      let size = length-bytes head_bytes v in
      ap₂ (λ (s : List ℕ) (i : ℕ). number s i head_bytes) flat (sym (add-zero (length before)))
      ∙ number-append_right before _ 0 head_bytes
      ∙ number-append_left (bytes head_bytes v) _ 0 head_bytes (omega (arith, size))
      ∙ number-bytes head_bytes v
      ∙ mod-eq_of_lt small

  rest_here : drop (length before + head_bytes) whole ≡ g ++ (r ++ behind)
  rest_here =
      ap (drop (length before + head_bytes)) flat
      ∙ drop-append-add before _ head_bytes
      ∙ ap (λ (n : ℕ). drop n (bytes head_bytes v ++ (g ++ (r ++ behind)))) (sym (length-bytes head_bytes v))
      ∙ drop-append_seam (bytes head_bytes v) _

  given_here : take (length g) (drop (length before + head_bytes) whole) ≡ g
  given_here = ap (take (length g)) rest_here ∙ take_at g _ (length g) refl

  replacing_here : length r ≡ length g → take (length g) (drop (length before + head_bytes + length g) whole) ≡ r
  replacing_here same =
      ap (take (length g)) (sym (drop-drop (length g) (length before + head_bytes) whole) ∙ ap (drop (length g)) rest_here ∙ drop-append_seam g _)
      ∙ take_at r _ (length g) same

  size_here : length whole ≡ length before + head_bytes + length g + length r + length behind
  size_here = simp (length-append, length-bytes) (omega arith)

-- ---- every edit

-- a head is a number of 96 bits
head_small : (kind p l : ℕ) → kind ≤ 5 → p < 2 ^ 61 → l < 2 ^ 32 → head_value kind p l < 2 ^ 96
unfolding head_value
head_small kind p l k lp ll = omega arith

-- one with new bytes, and one without
module _ (before behind : List ℕ) where
  changes : (p : ℕ) (old new : List ℕ) → p < 2 ^ 61 → length old < 2 ^ 32 → length new ≡ length old
      → opening (before ++ (bytes head_bytes (head_value 1 p (length old)) ++ old ++ new) ++ behind) (length before)
      ≡ opens (change p old new) (length before + (head_bytes + length old + length new))
  unfolding edit_named by_kind body_bytes
  changes p old new lp ll same =
      let v = head_value 1 p (length old) in
      let small = head_small 1 p (length old) (omega arith) lp ll in
      let size = size_here before old new behind v small in
      let next : length before + head_bytes + 2 * length old ≡ length before + (head_bytes + length old + length new) = omega (arith, same) in
      opens_here _ _ 1 p (length old) (number_here before old new behind v small) lp ll (omega arith) (omega arith) (inl refl) (omega (arith, size, same))
      _ _ (given_here before old new behind v small) (replacing_here before old new behind v small same)
      ∙ ap (opens (change p old new)) next

  -- f is the constructor of a kind
  others : (kind : ℕ) (f : List ℕ → Edit) (s : List ℕ) → 1 < kind → kind ≤ 5 → ((b : List ℕ) → edit_named kind 0 s b ≡ f s) → length s < 2 ^ 32
      → opening (before ++ (bytes head_bytes (head_value kind 0 (length s)) ++ s ++ []) ++ behind) (length before)
      ≡ opens (f s) (length before + (head_bytes + length s + 0))
  others kind f s some known is ll =
      let v = head_value kind 0 (length s) in
      let small = head_small kind 0 (length s) known (omega arith) ll in
      let size = size_here before s [] behind v small in
      let body : body_bytes kind (length s) ≡ length s = sym (body_other kind (length s) (λ z. omega arith)) in
      opens_here _ _ kind 0 (length s) (number_here before s [] behind v small) (omega arith) ll (omega arith) known (inr ((λ z. omega arith), refl))
      (omega (arith, size, body)) _ _ (given_here before s [] behind v small) refl
      ∙ ap₂ opens (is _) (omega (arith, body))

pub format : Format
unfolding Format HasRecord packed_record record_bytes kind_number kind_of place_of given replacing edit_named by_kind
format (change p old new) h before behind = changes before behind p old new h.0 h.1 h.2
format (append s) h before behind = others before behind 2 append s (omega arith) (omega arith) (λ b. refl) h
format (prepend s) h before behind = others before behind 3 prepend s (omega arith) (omega arith) (λ b. refl) h
format (drop_front s) h before behind = others before behind 4 drop_front s (omega arith) (omega arith) (λ b. refl) h
format (cut_tail s) h before behind = others before behind 5 cut_tail s (omega arith) (omega arith) (λ b. refl) h
