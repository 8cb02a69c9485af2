-- `gcm::counters::Schedule::gctr` meets its contract. The loop's invariant: i batches are turned, and the text behind them is left (`Batches`).
use mathlib.Core.Path.{ap, ◌∙◌}
use mathlib.Core.List.{List}
use Prim.Native.Nat.{ℕ, ◌*◌, ◌≤◌, ◌<◌, min}
use mir.Syntax.{w8}
use mir.Val.{Fits}
use native.Mathlib.Omega.{arith}
use borrow.Author.Rules.{rules}
use lib.ListN.{length, get_or, drop, length-drop}
use Rattle.std.specs.Slice.Iter.{chunks_rest}
use Rattle.std.specs.Iterator.Adapters.{enumerate_source, enumerate_count}
use Rattle.field.proofs.BlockAt.{bytes_of_whole}
use Rattle.gcm.specs.Counters.{inc32, GCTR}
use Rattle.gcm.proofs.Batches.{chunk_of, turning_next, turning_done}
use Rattle.gcm.proofs.CounterLaws.{length-GCTR}
use Rattle.gcm.proofs.counters.Schedule.gctr.Goals as goal

pub loop-i-preserved : goal.loop-i-preserved
loop-i-preserved c =
    let inv = c.loop-i.invariant in
    let step = c.in-Some.ensures.steps in
    let text = c.args.text.now in
    let size = step.0.1.1 ∙ ap (λ (n : ℕ). min n (length (chunks_rest (enumerate_source c.loop-i.i-iterator)))) inv.size in
    let chunk = chunk_of text _ inv.left step.0.1.0 size in
    let some_left : 256 * c.in-Some.i ≤ length text =
    omega (arith, step.0.1.2, step.1, ap length inv.left, length-drop (256 * enumerate_count c.loop-i.i-iterator) text)
    in
    record {
      size = step.0.0 ∙ inv.size;
      left = chunk.1 ∙ ap (λ (n : ℕ). drop n text) (omega (arith, step.2));
      turned =
          rw (step.2, ← step.1)
          (turning_next _ _ text c.in-Some.i _ (rw (← step.1) at inv.turned) c.requires.1 some_left (omega arith)
          (rw (← step.1) at chunk.0) c.turn.ensures);
    }

pub returns : goal.returns
returns c =
    let j = c.args.j in
    let small : (i : ℕ) → i < length j → get_or j i 0 < 256 = λ i l. (let f : Fits w8 (get_or j i 0) = search rules in f.fits) in
    let inv = c.loop-i.invariant in
    let none = c.in-None.ensures.steps in
    turning_done inv.turned
    (omega (arith, length-GCTR, none, ap length inv.left, length-drop (256 * enumerate_count c.loop-i.i-iterator) c.args.text.now))
    (omega (arith, length-GCTR))
    ∙ ap (λ (x : List ℕ). GCTR c.args.self.now.key.bytes (inc32 x) c.args.text.now)
    (bytes_of_whole j (search rules) small c.from_bytes-block.ensures)
