-- `cipher::rounds::ciphered` meets its contract. The loop's invariant: the states are those after as many rounds as rows were taken.
use mathlib.Core.List.{List}
use Prim.Native.Nat.{ℕ}
use Rattle.cipher.specs.Cipher.{after}
use Rattle.cipher.proofs.rounds.ciphered.Given as goal

abbrev pub invariant-loop-row : goal.invariant-loop-row
invariant-loop-row g l = (b : ℕ) (s : List ℕ) → g.S.States.holds l.initial.q b s → g.S.States.holds l.q b (after l.rows s l.row-index)
