-- `hash::hash_file`: what the loop keeps from chunk to chunk (`ReadingLaws`).
use Rattle.std.proofs.Common.{rules, arith, sym, ◌+◌, ◌≤◌}
use Rattle.field.specs.Field.{max_bytes}
use Rattle.hash.proofs.ReadingLaws.{took-count, took-fits, took_more, full, between_none, between_more}
use Rattle.hash.proofs.hash_file.Goals as goal

pub loop-n-init : goal.loop-n-init
loop-n-init c = between_none _ _ _ _ c.requires c.new-stream.ensures (sym c.large_buffer-buf.ensures)

pub too_long-requires : goal.too_long-requires
too_long-requires c =
    let b = c.loop-n.invariant in
    record { long = omega (arith, c.if-stream-n.true, c.in_ok-n.ensures.counted, b.took.all, took-count b.took) }

pub print-requires : goal.print-requires
print-requires c =
    let given = c.in_ok-n.ensures in
    let b = c.loop-n.invariant in
    let room : c.loop-n.stream.n + c.in_ok-n.n ≤ max_bytes = omega (arith, c.if-stream-n.false, took-fits b.took) in
    record {
      took = took_more b.took b.count b.whole _ _ _ _ given.within given.counted room c.absorb-stream.ensures;
      ended = record { no_more = search rules };
    }

pub loop-n-preserved : goal.loop-n-preserved
loop-n-preserved c =
    let given = c.in_ok-n.ensures in
    let b = c.loop-n.invariant in
    let room : c.loop-n.stream.n + c.in_ok-n.n ≤ max_bytes = omega (arith, c.if-stream-n.false, took-fits b.took) in
    between_more b _ _ _ _ (full given.within given.full (search rules)) c.fill.auto.buf given.counted room c.absorb-stream.ensures

pub loop-n-smaller : goal.loop-n-smaller
loop-n-smaller c =
    let given = c.in_ok-n.ensures in
    let b = c.loop-n.invariant in
    let b' = loop-n-preserved c in
    omega (
      arith,
      took-count b.took,
      b.took.all,
      given.counted,
      full given.within given.full (search rules),
      b'.size,
      took-count b'.took,
      b'.took.all,
      b'.took.fits,
    )
