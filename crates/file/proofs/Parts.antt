-- Parts that controllers hold, joined (`states_join`): a state that agrees with a read of its part has a true sum, so the field's theorem serves (`field`'s
-- `Joins`); and which states agree (`states_join-met`): those that are read, and by demand 3 those that were edited.
use mathlib.Core.Path.{◌≡◌, refl, sym, ap, ap₂, ◌∙◌}
use mathlib.Core.Bool.{true}
use mathlib.Core.List.{List, [], ◌∷◌, ◌++◌, map, flatten}
use Prim.Native.Nat.{ℕ, ◌≤◌}
use native.Mathlib.Omega.{arith}
use lib.ListN.{length, length-append}
use Rattle.cipher.specs.Aes.{key_fits}
use Rattle.field.specs.declared.blocks.Block.{Block}
use Rattle.field.specs.Field.{bytes_of, block_at, sum, max_bytes, Whole, JoinAnswer, joined_to, joined, sums_of, lengths_of}
use Rattle.field.proofs.BlockAt.{block_at-bytes_of, length-block_bytes}
use Rattle.field.proofs.Joins.{parts_join}
use Rattle.gcm.specs.Gcm.{hash_key, tag_of}
use Rattle.gcm.proofs.TagLaws.{small-hash, tag-gmac}
use Rattle.file.specs.declared.states.State.{State}
use Rattle.file.specs.States.{state_of, Start, Reading, read_file}
use Rattle.file.specs.Calls.{Call}
use Rattle.file.specs.Runs.{begun_from}
use Rattle.file.specs.Demands.{AcceptedStart, ReaderAgrees, Demand3}
use Rattle.file.specs.Parts.{joined_states, AllAgree, no_part, part_more, JoinOf, StatesJoin, read_state, StatesJoinMet}
use Rattle.file.proofs.Calls.{begun_start, begun-read, read-accepts}
use Rattle.file.proofs.Demand3.{demand_3}

-- ---- states that agree have the true sums and lengths

agrees-sum : (r : Reading) {st : State} → ReaderAgrees r st → st.s ≡ sum (hash_key r.key) r.file
unfolding state_of
agrees-sum r a = a.sum ∙ ap (λ (t : State). t.s) (begun-read r a.accepted).state

agrees-length : (r : Reading) {st : State} → ReaderAgrees r st → st.n ≡ length r.file
unfolding state_of
agrees-length r a = a.same_length ∙ ap (λ (t : State). t.n) (begun-read r a.accepted).state

sums-agree : {key : List ℕ} {states : List State} {files : List (List ℕ)} → AllAgree key states files
    → flatten (map (λ (st : State). bytes_of st.s) states) ≡ sums_of (hash_key key) files
unfolding flatten
sums-agree no_part = refl
sums-agree {key} (part_more r k a rest) =
    ap₂ (λ (b : Block) (s : List ℕ). bytes_of b ++ s) (agrees-sum r a ∙ ap (λ (x : List ℕ). sum (hash_key x) r.file) k) (sums-agree rest)

lengths-agree : {key : List ℕ} {states : List State} {files : List (List ℕ)} → AllAgree key states files
    → map (λ (st : State). st.n) states ≡ lengths_of files
lengths-agree no_part = refl
lengths-agree (part_more r k a rest) = ap₂ (λ (n : ℕ) (l : List ℕ). n ∷ l) (agrees-length r a) (lengths-agree rest)

-- ---- so they join

module _ (key : List ℕ) (states : List State) (files : List (List ℕ)) (all : AllAgree key states files) (w : Whole files)
    (short : length (flatten files) ≤ max_bytes) where
  joins : joined_states key states ≡ joined_to (sum (hash_key key) (flatten files)) (length (flatten files))
  joins =
      let h = hash_key key in
      let back : block_at (bytes_of h) 0 ≡ h = block_at-bytes_of h (small-hash key) in
      ap₂ (joined (bytes_of h)) (sums-agree all ∙ ap (λ (b : Block). sums_of b files) (sym back)) (lengths-agree all)
      ∙ parts_join.true_parts (bytes_of h) files (length-block_bytes h) w short
      ∙ ap (λ (b : Block). joined_to (sum b (flatten files)) (length (flatten files))) back

  join_of : JoinOf key states files
  join_of =
      record {
        joins = joins;
        state = λ arm last k.
            ap (λ (j : JoinAnswer). state_of key j.s j.n arm last) joins
            ∙ sym (begun-read _ (read-accepts (record { key = key; arm = arm; last = last; file = flatten files }) k short)).state;
        tag = λ nonce. ap (λ (j : JoinAnswer). tag_of key (hash_key key) j.s j.n nonce) joins ∙ tag-gmac key (flatten files) nonce short;
      }

pub states_join : StatesJoin
unfolding StatesJoin
states_join = join_of

-- ---- states that agree

read-agrees : (r : Reading) → (read_file r).refusal ≡ 0 → ReaderAgrees r (read_file r).state
read-agrees r a = record { accepted = a; sum = refl; same_length = refl; tag = λ nonce u v. refl }

all_read : (key : List ℕ) (arm last : ℕ) (files : List (List ℕ)) → key_fits key ≡ true → length (flatten files) ≤ max_bytes
    → AllAgree key (map (read_state key arm last) files) files
unfolding flatten
all_read key arm last [] k short = no_part
all_read key arm last (file ∷ files) k short =
    let r : Reading = record { key = key; arm = arm; last = last; file = file } in
    let both = length-append file (flatten files) in
    part_more r refl (read-agrees r (read-accepts r k (omega (arith, short, both)))) (all_read key arm last files k (omega (arith, short, both)))

edited : (s : Start) → AcceptedStart s → (calls : List Call) → (begun_from s calls).truth → (states : List State) (files : List (List ℕ))
    → AllAgree s.key states files → AllAgree s.key ((begun_from s calls).state ∷ states) ((begun_from s calls).machine.bytes ∷ files)
unfolding Demand3
edited s a calls t states files all = part_more _ refl ((demand_3 s a calls).reader t 0 0) all

pub states_join-met : StatesJoinMet
unfolding StatesJoin flatten
states_join-met =
    record {
      read = all_read;
      edited = edited;
      joins = λ key arm last files k w short. states_join key (map (read_state key arm last) files) files (all_read key arm last files k short) w short;
      edited_joins = λ s a calls t arm last files w short.
          let bytes = (begun_from s calls).machine.bytes in
          let states = map (read_state s.key arm last) files in
          let behind = all_read s.key arm last files (begun_start s a.accepted).fits (omega (arith, short, length-append bytes (flatten files))) in
          states_join s.key ((begun_from s calls).state ∷ states) (bytes ∷ files) (edited s a calls t states files behind) w short;
    }
