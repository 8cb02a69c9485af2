-- Parts of one file that controllers hold as states under one key, joined (document 02, Q-6): field's join of the states' sums and lengths is the sum and
-- the length of the joined bytes, so that a state with them is the one that a read of those bytes makes. The proofs are `states_join` and
-- `states_join-met` in proofs/Parts.
use Rattle.std.specs.Prelude.{◌≡◌, true, ℕ, ◌≤◌, length}
use mathlib.Core.List.{List, [], ◌∷◌, map, flatten}
use Rattle.cipher.specs.Aes.{key_fits}
use Rattle.field.specs.Field.{bytes_of, sum, max_bytes, Whole, JoinAnswer, joined_to, joined}
use Rattle.gcm.specs.Gcm.{hash_key, gmac, tag_of}
use Rattle.file.specs.declared.states.State.{State}
use Rattle.file.specs.States.{state_of, Start, Reading, read_file}
use Rattle.file.specs.Calls.{Call}
use Rattle.file.specs.Runs.{begun_from}
use Rattle.file.specs.Demands.{AcceptedStart, ReaderAgrees}

-- some states' sums, sixteen bytes each, one behind the other, and their lengths, joined under the H of a key (document 02, Q-6)
abbrev pub joined_states : (key : List ℕ) (states : List State) → JoinAnswer
joined_states key states =
    joined (bytes_of (hash_key key)) (flatten (map (λ (st : State). bytes_of st.s) states)) (map (λ (st : State). st.n) states)

-- each state agrees with one read of its part under that key (demand 3's reader; document 02, Q-6)
pub data AllAgree (key : List ℕ) : List State → (files : List (List ℕ)) → Type 0 where
  no_part : AllAgree key [] []
  part_more :
      {st : State} {states : List State} {files : List (List ℕ)} (r : Reading) → r.key ≡ key → ReaderAgrees r st → AllAgree key states files
      → AllAgree key (st ∷ states) (r.file ∷ files)

-- of such states, whose parts but the last are whole blocks (document 02, Q-6)
pub record JoinOf (key : List ℕ) (states : List State) (files : List (List ℕ)) : Type 0 where
  -- the join is the sum and the length of the joined bytes
  pub joins : joined_states key states ≡ joined_to (sum (hash_key key) (flatten files)) (length (flatten files))
  -- a state with them is the one that a read of those bytes makes
  pub state :
      (arm last : ℕ) → key_fits key ≡ true
      → let j = joined_states key states in
      state_of key j.s j.n arm last ≡ (read_file (record { key = key; arm = arm; last = last; file = flatten files })).state
  -- and their tag is GMAC of those bytes
  pub tag :
      (nonce : List ℕ)
      → let j = joined_states key states in
      tag_of key (hash_key key) j.s j.n nonce ≡ gmac key nonce (flatten files)

-- document 02, Q-6
unfoldable pub StatesJoin : Type 0
StatesJoin =
    (key : List ℕ) (states : List State) (files : List (List ℕ)) → AllAgree key states files → Whole files → length (flatten files) ≤ max_bytes
    → JoinOf key states files

-- the state that a read of a file makes (document 01, "The file and its five edits")
abbrev pub read_state : (key : List ℕ) (arm last : ℕ) (file : List ℕ) → State
read_state key arm last file = (read_file (record { key = key; arm = arm; last = last; file = file })).state

-- its hypotheses can be met: parts that are read agree, and so does one that an editor holds after any list of true calls. So the theorem says of any files
-- within the limits what their states join to, and of such an editor's with files behind it; a hypothesis added to it would break this. Ours
pub record StatesJoinMet : Type 0 where
  pub read :
      (key : List ℕ) (arm last : ℕ) (files : List (List ℕ)) → key_fits key ≡ true → length (flatten files) ≤ max_bytes
      → AllAgree key (map (read_state key arm last) files) files
  pub edited :
      (s : Start) → AcceptedStart s → (calls : List Call) → (begun_from s calls).truth → (states : List State) (files : List (List ℕ))
      → AllAgree s.key states files → AllAgree s.key ((begun_from s calls).state ∷ states) ((begun_from s calls).machine.bytes ∷ files)
  pub joins :
      (key : List ℕ) (arm last : ℕ) (files : List (List ℕ)) → key_fits key ≡ true → Whole files → length (flatten files) ≤ max_bytes
      → JoinOf key (map (read_state key arm last) files) files
  pub edited_joins :
      (s : Start) → AcceptedStart s → (calls : List Call) → (begun_from s calls).truth → (arm last : ℕ) (files : List (List ℕ))
      → let all = (begun_from s calls).machine.bytes ∷ files in
      Whole all → length (flatten all) ≤ max_bytes → JoinOf s.key ((begun_from s calls).state ∷ map (read_state s.key arm last) files) all
