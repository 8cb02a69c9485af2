-- Demand 3: a list of calls from an accepted start, run by the editor and by the plain machine, a field for each clause.
-- It rests on what the two runs have in common (`Agreement`) and on the row that seal numbers stand in (`Numbers`).
use mathlib.Core.Path.{◌≡◌, sym, ap, ◌∙◌}
use mathlib.Core.Bool.{true}
use mathlib.Core.List.{List}
use Prim.Native.Nat.{ℕ}
use lib.ListN.{length}
use Rattle.cipher.specs.Aes.{key_fits}
use Rattle.field.specs.Field.{sum}
use Rattle.gcm.specs.Gcm.{hash_key, tag_of}
use Rattle.file.specs.declared.states.State.{State}
use Rattle.file.specs.States.{key_of, state_of, Reading}
use Rattle.file.specs.Machine.{Machine}
use Rattle.file.specs.Demands.{ReaderAgrees, Demand3}
use Rattle.file.proofs.Calls.{begun_start, begun-read, read-accepts}
use Rattle.file.proofs.Invariant.{Holds, Summed}
use Rattle.file.proofs.Numbers.{rise-numbers, rise-count, rise-distinct}
use Rattle.file.proofs.Agreement.{agrees_start}

-- a state that holds the bytes' sum has the tag made of key, H, that sum and their count
tag_same : (key : List ℕ) (arm : ℕ) (st : State) (m : Machine) → Holds key arm st m → Summed key st m → (nonce : List ℕ)
    → tag_of (key_of st) st.h st.s st.n nonce ≡ tag_of key (hash_key key) (sum (hash_key key) m.bytes) (length m.bytes) nonce
tag_same key arm st m h s nonce = cc

-- so one read of the machine's bytes agrees with it
reads : (key : List ℕ) (arm : ℕ) (st : State) (m : Machine) → key_fits key ≡ true → Holds key arm st m → Summed key st m → (arm' last' : ℕ)
    → ReaderAgrees (record { key = key; arm = arm'; last = last'; file = m.bytes }) st
unfolding state_of key_of
reads key arm st m k h s arm' last' =
    let r : Reading = record { key = key; arm = arm'; last = last'; file = m.bytes } in
    let a = read-accepts r k h.short in
    let b = (begun-read r a).state in
    record {
      accepted = a;
      sum = s ∙ ap (λ (x : State). x.s) (sym b);
      same_length = h.same_n ∙ ap (λ (x : State). x.n) (sym b);
      tag = λ nonce u v. tag_same key arm st m h s nonce ∙ ap (λ (x : State). tag_of (key_of x) x.h x.s x.n nonce) (sym b);
    }

pub demand_3 : Demand3
unfolding Demand3
demand_3 s a calls =
    let g = agrees_start s a calls in
    record {
      refusals = g.refusals;
      lengths = g.holds.same_n;
      lasts = g.holds.same_last;
      total = g.total;
      within = g.within;
      numbers = rise-numbers s.last _ _ g.numbers;
      issues = rise-count s.last _ _ g.numbers;
      distinct = rise-distinct s.last _ _ g.numbers;
      reader = λ t arm last. reads s.key s.arm _ _ (begun_start s a.accepted).fits g.holds (g.summed t) arm last;
    }
