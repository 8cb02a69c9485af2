-- `file::edits::ask` meets its contract. The shape that was measured is that of an accepted edit; each return by its own law (`EditReturns`).
use native.Mathlib.Omega.{arith}
use Rattle.std.proofs.lemmas.Result.{err_from_is_err_and}
use Rattle.file.proofs.EditReturns.{ask_refused, ask-nothing, ask_done, fits-placed}
use Rattle.file.proofs.edits.ask.Goals as goal

pub returns-in_err-shape : goal.returns-in_err-shape
returns-in_err-shape c =
    let p = err_from_is_err_and c.from_residual.result c.from_residual.ensures.1 in
    rw (p.1, p.2) (ask_refused _ _ _ c.args.a.now c.args.b.now _ c.in_err-shape.ensures)

pub returns-then-l-eq0 : goal.returns-then-l-eq0
returns-then-l-eq0 c =
    ask-nothing _ _ _ c.args.a.now c.args.b.now c.measure.ensures c.in_ok-shape.was c.if-l-eq0.true c.none.ensures

pub moved_by-requires : goal.moved_by-requires
moved_by-requires c =
    let fits = fits-placed c.args.st.now _ _ _ _ c.measure.ensures c.in_ok-shape.was (omega arith)
    c.requires in
    record { q_value = fits.0; q_bound = fits.1 }

pub returns : goal.returns
returns c =
    ask_done _ _ _ _ _ c.measure.ensures c.in_ok-shape.was (omega arith)
    c.moved_by.ensures.sum c.moved_by.ensures.length c.moved_by.ensures.count
