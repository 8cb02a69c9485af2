-- The plain machine that the editor is compared with (document 01, "The file and its five edits"): it holds the bytes themselves and the
-- last used number, and takes nothing from the controller's state.
use Rattle.std.specs.Prelude.{◌≡◌, cond, List, [], ◌∷◌, ◌++◌, ℕ, ◌+◌, ◌-◌, eqb, length, take, drop, replicate}
use Rattle.file.specs.Edits.{Edit, change, append, prepend, drop_front, cut_tail, geometry_at, count_of, count_limit}
use Rattle.file.specs.States.{Start, Reading}
use Rattle.file.specs.Calls.{Call, edit, seal, check, call_refusal}

-- what the plain machine holds: the bytes themselves and the last used number (document 01, "The file and its five edits")
pub record Machine : Type 0 where
  pub bytes : List ℕ
  pub last : ℕ

-- after an accepted start: n copies of the fill byte and the number given (document 01, "The file and its five edits"; document 02, Q-4)
unfoldable pub blank : Start → Machine
blank s = record { bytes = replicate s.n s.fill; last = s.last }

-- after an accepted read: the lent file's bytes and the number given (document 01, "The file and its five edits")
unfoldable pub lent : Reading → Machine
lent r = record { bytes = r.file; last = r.last }

-- a machine with other bytes, as an accepted edit leaves it (document 01, "The file and its five edits")
unfoldable pub with_bytes : Machine → List ℕ → Machine
with_bytes m bytes = record { bytes = bytes; last = m.last }

-- a machine with another last used number, as an accepted seal leaves it (document 01, "The file and its five edits")
unfoldable pub with_last : Machine → ℕ → Machine
with_last m last = record { bytes = m.bytes; last = last }

-- the bytes after an accepted edit (document 01, "The file and its five edits")
unfoldable pub bytes_after : List ℕ → Edit → List ℕ
bytes_after f (change p old new) = take p f ++ new ++ drop (p + length new) f
bytes_after f (append s) = f ++ s
bytes_after f (prepend s) = s ++ f
bytes_after f (drop_front s) = drop (length s) f
bytes_after f (cut_tail s) = take (length f - length s) f

-- what the machine answers to a call (document 01, "The file and its five edits"): the machine afterwards, the refusal or 0, q + seek(k) + 1 of
-- an accepted edit of at least one byte, its limit q + 2b, and the seal number issued, if any
pub record MachineAnswer : Type 0 where
  pub machine : Machine
  pub refusal : ℕ
  pub count : ℕ
  pub most : ℕ
  pub issued : List ℕ

-- an accepted call (document 01, "The file and its five edits"): a seal raises the last used number by one and alters no byte, a check
-- alters nothing
unfoldable pub accepted_by : Machine → Call → MachineAnswer
accepted_by m (edit e) =
    let g = geometry_at (length m.bytes) e in
    record {
      machine = with_bytes m (bytes_after m.bytes e);
      refusal = 0;
      count = count_of g;
      most = count_limit (length m.bytes) g;
      issued = [];
    }
accepted_by m (seal out) = record { machine = with_last m (m.last + 1); refusal = 0; count = 0; most = 0; issued = (m.last + 1) ∷ [] }
accepted_by m (check slip) = record { machine = m; refusal = 0; count = 0; most = 0; issued = [] }

-- a refused call alters nothing (document 01, "The file and its five edits")
unfoldable pub refused_by : Machine → ℕ → MachineAnswer
refused_by m refusal = record { machine = m; refusal = refusal; count = 0; most = 0; issued = [] }

-- the machine refuses by the count of bytes it holds and its last used number (document 01, "The file and its five edits")
unfoldable pub machine_refusal : Machine → Call → ℕ
machine_refusal m c = call_refusal (length m.bytes) m.last c

-- any call (document 01, "The file and its five edits")
unfoldable pub machine_answer : Machine → Call → MachineAnswer
machine_answer m c = cond (eqb (machine_refusal m c) 0) (accepted_by m c) (refused_by m (machine_refusal m c))

-- old or removed bytes are those that the machine holds at their places (document 01, "The file and its five edits")
unfoldable pub NamesHeld : List ℕ → Edit → Type 0
NamesHeld f (change p old new) = take (length old) (drop p f) ≡ old
NamesHeld f (append s) = Unit {0}
NamesHeld f (prepend s) = Unit {0}
NamesHeld f (drop_front s) = take (length s) f ≡ s
NamesHeld f (cut_tail s) = drop (length f - length s) f ≡ s

-- a call is true where it is refused or the bytes it names are there as it arrives (document 01, "The file and its five edits")
unfoldable pub TrueCall : Machine → Call → Type 0
TrueCall m (edit e) = machine_refusal m (edit e) ≡ 0 → NamesHeld m.bytes e
TrueCall m (seal out) = Unit {0}
TrueCall m (check slip) = Unit {0}
