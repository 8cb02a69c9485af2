-- Start, read and the edits for all inputs (document 01, "The file and its five edits"), over the state's fields.
use Rattle.std.specs.Prelude.{cond, not, List, [], ◌∷◌, ℕ, eqb, ltb, length, replicate}
use Rattle.refusals.specs.Refusals.{first}
use Rattle.cipher.specs.Aes.{key_fits}
use Rattle.field.specs.declared.blocks.Block.{Block}
use Rattle.field.specs.Field.{companion, sum, blank_sum, blank_count, max_bytes}
use Rattle.gcm.specs.Gcm.{hash_key}
use Rattle.file.specs.declared.states.State.{State}
use Rattle.file.specs.declared.geometry.Kind.{Kind}
use Rattle.file.specs.Edits.{Edit, kind_of, given, replacing, Geometry, geometry_at, count_of}
use Rattle.file.specs.Table.{placed_sum, new_sum}

-- ---- what a state holds

-- the key of a state (document 01, "What the controller holds")
unfoldable pub key_of : State → List ℕ
key_of st = st.key.bytes

-- the state for a key, with its H and I, a sum and a length (document 01, "What the controller holds" and "Field")
unfoldable pub state_of : (key : List ℕ) (s : Block) (n arm last : ℕ) → State
state_of key s n arm last =
    record { key = record { bytes = key }; h = hash_key key; i = companion (hash_key key); s = s; n = n; arm = arm; last = last }

-- the state of all zeros, which a refused start or read gives (document 01, "The file and its five edits")
unfoldable pub zero_state : State
zero_state =
    record {
      key = record { bytes = replicate 16 0 };
      h = record { hi = 0; lo = 0 };
      i = record { hi = 0; lo = 0 };
      s = record { hi = 0; lo = 0 };
      n = 0;
      arm = 0;
      last = 0;
    }

-- ---- what a call on a state answers

-- the state afterwards, the refusal (document 01, "Causes and their numbers") or 0, and the count
pub record StateAnswer : Type 0 where
  pub state : State
  pub refusal : ℕ
  pub count : ℕ

-- refused, with a state (document 01, "Causes and their numbers"); no count is reported
abbrev pub refused_with : State → ℕ → StateAnswer
refused_with st refusal = record { state = st; refusal = refusal; count = 0 }

-- accepted, with a state and a count (document 01, "The file and its five edits")
abbrev pub accepted_with : State → ℕ → StateAnswer
accepted_with st count = record { state = st; refusal = 0; count = count }

-- ---- start and read

-- start's arguments (document 01, "The file and its five edits"; the fill byte: document 02, Q-4)
pub record Start : Type 0 where
  pub key : List ℕ
  pub arm : ℕ
  pub last : ℕ
  pub n : ℕ
  pub fill : ℕ

-- read's: a lent file in place of n (document 01, "The file and its five edits")
pub record Reading : Type 0 where
  pub key : List ℕ
  pub arm : ℕ
  pub last : ℕ
  pub file : List ℕ

-- the refusal of start and read, by the key and the file's length: 1, 2 (document 01, "Causes and their numbers")
unfoldable pub begin_refusal : (key : List ℕ) (n : ℕ) → ℕ
begin_refusal key n = first ((not (key_fits key), 1) ∷ (ltb max_bytes n, 2) ∷ [])

-- what start and read answer, by their refusal and, where accepted, the state that they make and the count (document 01, "The file and its five
-- edits")
unfoldable pub begun_with : ℕ → State → (count : ℕ) → StateAnswer
begun_with refusal st count = cond (eqb refusal 0) (accepted_with st count) (refused_with zero_state refusal)

-- start: a blank file of n fill bytes, with its sum and the count of its multiplications (document 02, Q-4)
unfoldable pub started : Start → StateAnswer
started s =
    begun_with (begin_refusal s.key s.n)
    (state_of s.key (blank_sum (hash_key s.key) s.fill s.n) s.n s.arm s.last) (blank_count s.fill s.n)

-- read: a lent file, with S that file's sum; it reports no count (document 01, "The file and its five edits")
unfoldable pub read_file : Reading → StateAnswer
read_file r =
    begun_with (begin_refusal r.key (length r.file))
    (state_of r.key (sum (hash_key r.key) r.file) (length r.file) r.arm r.last) 0

-- ---- the edits: asked, then put

-- what an edit asks for (document 01, "The file and its five edits"): the refusal or 0, and the new sum, length and count; one that is refused
-- or of no bytes leaves sum and length and counts 0
pub record AskAnswer : Type 0 where
  pub refusal : ℕ
  pub s : Block
  pub n : ℕ
  pub count : ℕ

-- the new sum (document 01, "The file and its five edits"): the table over the state's fields, where a block is touched
unfoldable pub sum_after : State → Kind → Geometry → (a b : List ℕ) → Block
sum_after st kind g a b =
    cond (eqb g.q 0) st.s (new_sum kind st.h st.i st.s (placed_sum st.h g.lead a b) g.k)

-- an edit of a kind asked for, with given bytes a and of a change new bytes b, by what it does to lengths (document 01, "The file and its
-- five edits")
unfoldable pub asked_by : State → Kind → Geometry → (a b : List ℕ) → AskAnswer
asked_by st kind g a b = record { refusal = g.refusal; s = sum_after st kind g a b; n = g.n; count = count_of g }

-- an edit asked for (document 01, "The file and its five edits")
unfoldable pub asked : State → Edit → AskAnswer
asked st e = asked_by st (kind_of e) (geometry_at st.n e) (given e) (replacing e)

-- a state with a new sum and length (document 01, "The file and its five edits")
unfoldable pub put : State → Block → ℕ → State
put st s n = record { key = st.key; h = st.h; i = st.i; s = s; n = n; arm = st.arm; last = st.last }

-- what was asked for, put into the state where it is not refused (document 01, "The file and its five edits")
unfoldable pub put_with : State → AskAnswer → StateAnswer
put_with st a = cond (eqb a.refusal 0) (accepted_with (put st a.s a.n) a.count) (refused_with st a.refusal)

-- an edit, for all five kinds: asked, then put (document 01, "The file and its five edits")
unfoldable pub edited : State → Edit → StateAnswer
edited st e = put_with st (asked st e)
