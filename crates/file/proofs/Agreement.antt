-- What the editor's run and the plain machine's have in common after any list of calls: it is set up by an accepted start or read, one call
-- keeps it, and the list is an induction.
-- It rests on the invariant and what one call keeps of it (`Invariant`) and on the row that seal numbers stand in (`Numbers`).
use mathlib.Core.Path.{◌≡◌, refl, ap₂}
use mathlib.Core.List.{List, [], ◌∷◌, ◌++◌}
use Prim.Native.Nat.{ℕ, ◌+◌, ◌<◌, ◌^◌}
use Rattle.file.specs.declared.states.State.{State}
use Rattle.file.specs.States.{Start, Reading}
use Rattle.file.specs.Calls.{Call}
use Rattle.file.specs.Machine.{Machine, blank, lent}
use Rattle.file.specs.Runs.{Run, begun, further, run, begun_from, from_read}
use Rattle.file.specs.Demands.{AcceptedStart, AcceptedRead}
use Rattle.file.proofs.Invariant.{Holds, Summed, holds_start, summed_start, holds_read, summed-read, agreed-call}
use Rattle.file.proofs.Numbers.{Rise, rise-none, rise-join, rise-call}

pub record Agrees (key : List ℕ) (arm last : ℕ) (r : Run) : Type 0 where
  pub holds : Holds key arm r.state r.machine
  pub summed : r.truth → Summed key r.state r.machine
  pub refusals : r.refusals ≡ r.machine_refusals
  pub total : r.total ≡ r.machine_total
  pub within : r.within
  pub numbers : Rise last r.numbers r.machine.last

agrees-begun : (key : List ℕ) (arm : ℕ) (st : State) (m : Machine) → Holds key arm st m → Summed key st m
    → Agrees key arm m.last (begun st m)
unfolding begun
agrees-begun key arm st m h s =
    record { holds = h; summed = λ t. s; refusals = refl; total = refl; within = tt; numbers = rise-none m.last }

-- one call keeps it
agrees-further : (key : List ℕ) (arm last : ℕ) (r : Run) → arm < 2 ^ 32 → Agrees key arm last r → (c : Call)
    → Agrees key arm last (further r c)
unfolding further
agrees-further key arm last r w g c =
    let m = r.machine in
    let k = agreed-call key arm r.state m g.holds c in
    record {
      holds = k.holds;
      summed = λ t. k.summed t.1 (g.summed t.0);
      refusals = ap₂ (λ (x : List ℕ) (y : ℕ). x ++ (y ∷ [])) g.refusals k.refusals;
      total = ap₂ ◌+◌ g.total k.counts;
      within = (g.within, k.within);
      numbers = rw (k.issues w) (rise-join last m.last _ r.numbers _ g.numbers (rise-call m c));
    }

-- and so does a list, wherever it begins
pub agrees-run : (key : List ℕ) (arm last : ℕ) (r : Run) (calls : List Call) → arm < 2 ^ 32 → Agrees key arm last r
    → Agrees key arm last (run r calls)
unfolding run
agrees-run key arm last r [] w g = g
agrees-run key arm last r (c ∷ cs) w g = agrees-run key arm last (further r c) cs w (agrees-further key arm last r w g c)

pub agrees_start : (s : Start) → AcceptedStart s → (calls : List Call) → Agrees s.key s.arm s.last (begun_from s calls)
unfolding begun_from blank
agrees_start s a calls =
    agrees-run s.key s.arm s.last _ calls a.arm
    (agrees-begun s.key s.arm _ (blank s) (holds_start s a.accepted a.last) (summed_start s a.accepted))

pub agrees-read : (r : Reading) → AcceptedRead r → (calls : List Call) → Agrees r.key r.arm r.last (from_read r calls)
unfolding from_read lent
agrees-read r a calls =
    agrees-run r.key r.arm r.last _ calls a.arm
    (agrees-begun r.key r.arm _ (lent r) (holds_read r a.accepted a.last) (summed-read r a.accepted))
