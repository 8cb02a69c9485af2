-- What a join leaves, and what lent states join to. It rests on the field's answer and on the file keeper's `states_join`.
use mathlib.Core.Path.{◌≡◌, sym, ap, ap₂, ◌∙◌}
use mathlib.Core.List.{List, map, map-map, flatten}
use Prim.Native.Nat.{ℕ, ◌≤◌}
use lib.ListN.{length}
use Rattle.field.specs.declared.blocks.Block.{Block}
use Rattle.field.specs.Field.{bytes_of, sum, max_bytes, Whole, JoinAnswer, joined_to, joined}
use Rattle.gcm.specs.Gcm.{hash_key}
use Rattle.file.specs.declared.states.State.{State}
use Rattle.file.specs.Parts.{AllAgree, StatesJoin}
use Rattle.file.proofs.Parts.{states_join}
use Rattle.capi.specs.Bytes.{state_from}
use Rattle.capi.specs.Calls.{join_call}
use Rattle.capi.specs.Clauses.{join_result}
use Rattle.capi.specs.Leaves.{JoinLeaves}
use Rattle.capi.specs.LentRuns.{states_joined}
use Rattle.capi.proofs.CallLaws.{handed-accepted, handed_otherwise}

pub join-leaves : (h sums lengths lent : List ℕ) (n : ℕ) → JoinLeaves h sums lengths lent n
unfolding join_call
join-leaves h sums lengths lent n =
    record { accepted = handed-accepted (joined h sums lengths) lent n; kept = handed_otherwise (joined h sums lengths) lent n }

-- ---- lent states

abbrev sums_in : (states : List (List ℕ)) → List ℕ
sums_in states = flatten (map (λ (b : List ℕ). bytes_of (state_from b).s) states)

abbrev lengths_in : (states : List (List ℕ)) → List ℕ
lengths_in states = map (λ (b : List ℕ). (state_from b).n) states

pub parts-joined : (key : List ℕ) (states files : List (List ℕ)) → AllAgree key (map state_from states) files → Whole files
    → length (flatten files) ≤ max_bytes → (one : List ℕ) → (state_from one).h ≡ hash_key key → (lent : List ℕ) (n : ℕ)
    → states_joined one states lent n ≡ join_result 0 (bytes_of (sum (hash_key key) (flatten files))) (length (flatten files))
unfolding StatesJoin
parts-joined key states files all w short one same lent n =
    let sums = map-map (λ (st : State). bytes_of st.s) state_from states in
    let lengths = map-map (λ (st : State). st.n) state_from states in
    let is : joined (bytes_of (hash_key key)) (sums_in states) (lengths_in states) ≡ joined_to (sum (hash_key key) (flatten files)) (length (flatten files)) =
    ap₂ (λ (s : List (List ℕ)) (l : List ℕ). joined (bytes_of (hash_key key)) (flatten s) l) (sym sums) (sym lengths)
    ∙ (states_join key (map state_from states) files all w short).joins in
    ap (λ (b : Block). join_call (bytes_of b) (sums_in states) (lengths_in states) lent n) same
    ∙ (join-leaves _ _ _ lent n).accepted (ap (λ (a : JoinAnswer). a.refusal) is)
    ∙ ap (λ (a : JoinAnswer). join_result 0 (bytes_of a.s) a.n) is
