-- A journal's records (document 02, Q-1): back to back, and each opens to an edit of the file keeper or is refused. That a record opens to the
-- edit it was packed from is `Format`, proved as `format` in proofs/Format.
use Rattle.std.specs.Prelude.{◌≡◌, Bool, cond, not, ◌&&◌, List, [], ◌∷◌, ◌++◌, ℕ, ◌+◌, ◌-◌, ◌*◌, ◌/◌, ◌%◌, ◌^◌, ◌<◌, eqb, ltb, length, take, drop}
use Rattle.refusals.specs.Refusals.{first}
use Rattle.field.specs.Field.{number, bytes}
use Rattle.file.specs.declared.geometry.Kind.{Kind}
use Rattle.file.specs.declared.geometry.Kind.TheVariants.{Change, Append, Prepend, DropFront, CutTail}
use Rattle.file.specs.Edits.{Edit, change, append, prepend, drop_front, cut_tail, kind_of, place_of, given, replacing}

-- ---- a record, packed

-- the bytes of a record's head (document 02, Q-1): kind 3 bits, p 61 bits, l 32 bits
abbrev pub head_bytes : ℕ
head_bytes = 12

-- the number of a kind (document 02, Q-1)
unfoldable pub kind_number : Kind → ℕ
kind_number Change = 1
kind_number Append = 2
kind_number Prepend = 3
kind_number DropFront = 4
kind_number CutTail = 5

-- a head as one number, highest bits first (document 02, Q-1)
unfoldable pub head_value : (kind p l : ℕ) → ℕ
head_value kind p l = (kind * 2 ^ 61 + p) * 2 ^ 32 + l

-- the record of an edit (document 02, Q-1): its head, then its l bytes, or for a change l old and l new
unfoldable pub packed_record : Edit → List ℕ
packed_record e = bytes head_bytes (head_value (kind_number (kind_of e)) (place_of e) (length (given e))) ++ given e ++ replacing e

-- how many bytes that is (document 02, Q-1)
unfoldable pub record_bytes : Edit → ℕ
record_bytes e = head_bytes + length (given e) + length (replacing e)

-- ---- the head of the record at a place, field by field

-- the kind of the record at a place: its first 3 bits (document 02, Q-1)
unfoldable pub record_kind : (j : List ℕ) (at : ℕ) → ℕ
record_kind j at = number j at head_bytes / 2 ^ 93

-- p: the next 61 bits (document 02, Q-1)
unfoldable pub record_place : (j : List ℕ) (at : ℕ) → ℕ
record_place j at = number j at head_bytes / 2 ^ 32 % 2 ^ 61

-- l: the last 32 bits (document 02, Q-1)
unfoldable pub record_length : (j : List ℕ) (at : ℕ) → ℕ
record_length j at = number j at head_bytes % 2 ^ 32

-- ---- what stands behind it

-- the bytes behind the head (document 02, Q-1): 2l for a change, which is kind 1, and l for any other kind, 0, 6 and 7 included
unfoldable pub body_bytes : (kind l : ℕ) → ℕ
body_bytes kind l = cond (eqb kind 1) (2 * l) l

-- what is chosen by a kind's number (document 02, Q-1): 1 change, 2 append, 3 prepend, 4 drop-front, else cut-tail, which is 5; 0, 6 and 7 are
-- refused before
unfoldable pub by_kind : {A : Type 0} → (kind : ℕ) (changed appended prepended dropped cut : A) → A
by_kind kind changed appended prepended dropped cut =
    cond (eqb kind 1) changed (cond (eqb kind 2) appended (cond (eqb kind 3) prepended (cond (eqb kind 4) dropped cut)))

-- the edit of a kind (document 02, Q-1): of a change a are the old bytes and b the new ones
unfoldable pub edit_named : (kind p : ℕ) (a b : List ℕ) → Edit
edit_named kind p a b = by_kind kind (change p a b) (append a) (prepend a) (drop_front a) (cut_tail a)

-- the edit of the record at a place (document 02, Q-1): its l bytes, and of a change the l new ones behind them
unfoldable pub record_edit : (j : List ℕ) (at : ℕ) → Edit
record_edit j at =
    let l = record_length j at in
    let body = at + head_bytes in
    edit_named (record_kind j at) (record_place j at) (take l (drop body j)) (take l (drop (body + l) j))

-- the place behind the record at a place (document 02, Q-1): records stand back to back
unfoldable pub place_after : (j : List ℕ) (at : ℕ) → ℕ
place_after j at = at + head_bytes + body_bytes (record_kind j at) (record_length j at)

-- ---- its refusal

-- by its head, where `left` bytes stand behind it (document 02, Q-1): 10 where it needs more, 11 where the kind is 0, 6 or 7, 12 where p is
-- not zero outside a change
unfoldable pub head_causes : (kind p l left : ℕ) → List (Bool × ℕ)
head_causes kind p l left =
    (ltb left (body_bytes kind l), 10) ∷ (eqb kind 0, 11) ∷ (ltb 5 kind, 11) ∷ (not (eqb kind 1) && not (eqb p 0), 12) ∷ []

-- before that, 10 where fewer bytes remain than the head's (document 02, Q-1)
unfoldable pub record_refusal : (j : List ℕ) (at : ℕ) → ℕ
record_refusal j at =
    let left = length j - at in
    first ((ltb left head_bytes, 10) ∷ head_causes (record_kind j at) (record_place j at) (record_length j at) (left - head_bytes))

-- ---- a record opened

-- what stands at a place (document 02, Q-1): an edit with the place behind its record, a record that is refused, or the journal's end
pub data Opening : Type 0 where
  opens : Edit → (next : ℕ) → Opening
  refused : ℕ → Opening
  ended : Opening

-- a record opens to its edit or is refused (document 02, Q-1)
unfoldable pub opening_with : (refusal : ℕ) (j : List ℕ) (at : ℕ) → Opening
opening_with refusal j at = cond (eqb refusal 0) (opens (record_edit j at) (place_after j at)) (refused refusal)

-- opening what stands at a place: no byte is left at the journal's end (document 02, Q-1)
unfoldable pub opening : (j : List ℕ) (at : ℕ) → Opening
opening j at = cond (ltb at (length j)) (opening_with (record_refusal j at) j at) ended

-- ---- what was packed opens

-- an edit has room in a record (document 02, Q-1): p in 61 bits, l in 32, and old and new of a change are of one length
unfoldable pub HasRecord : Edit → Type 0
HasRecord (change p old new) = (p < 2 ^ 61) × (length old < 2 ^ 32) × (length new ≡ length old)
HasRecord (append s) = length s < 2 ^ 32
HasRecord (prepend s) = length s < 2 ^ 32
HasRecord (drop_front s) = length s < 2 ^ 32
HasRecord (cut_tail s) = length s < 2 ^ 32

-- its record opens to it, wherever it stands and whatever stands around it (document 02, Q-1)
unfoldable pub Format : Type 0
Format =
    (e : Edit) → HasRecord e → (before behind : List ℕ)
    → opening (before ++ packed_record e ++ behind) (length before) ≡ opens e (length before + record_bytes e)
