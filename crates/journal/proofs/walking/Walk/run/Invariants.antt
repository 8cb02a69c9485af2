-- `journal::walking::Walk::run` meets its contract. The loop's invariant is `Standing` of `WalkLaws`, with a law for each return; each record moves the place
-- on, which measures the loop.
use mathlib.Core.Path.{◌≡◌}
use Prim.Native.Nat.{◌-◌}
use lib.ListN.{length}
use Rattle.journal.proofs.WalkLaws.{Standing}
use Rattle.journal.proofs.walking.Walk.run.Given as goal

abbrev pub invariant-records : goal.invariant-records
invariant-records g l =
    let t = g.T.TakesEdits in
    (l.self.reader.journal ≡ l.initial.self.reader.journal)
    × Standing t.taken l.initial.self.reader.journal.now (t.length_of l.initial.taker) l.initial.taker l.taker l.self.reader.place l.self.total

abbrev pub decreases-records : goal.decreases-records
decreases-records g l = length l.self.reader.journal.now - l.self.reader.place
