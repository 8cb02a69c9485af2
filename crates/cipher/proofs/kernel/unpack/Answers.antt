-- `cipher::kernel::unpack` meets its contract. The loop's invariant: the blocks before block i are written.
use Rattle.std.proofs.Common.{rules}
use mathlib.Core.Path.{refl, ◌∙◌}
use Rattle.cipher.proofs.SixteenStates.{block_in, blocks_start, blocks_next, blocks_done, states_words}
use native.Mathlib.Omega.{arith}
use Rattle.cipher.proofs.kernel.unpack.Goals as goal

pub loop-i-init : goal.loop-i-init
loop-i-init c = blocks_start _ _ _ _ _ (search rules)

pub loop-i-preserved : goal.loop-i-preserved
unfolding block_in
loop-i-preserved c =
    blocks_next c.words-a.result c.words-b.result c.words-c.result
    c.words-d.result _ _ c.loop-i.invariant (omega arith) refl (c.copy_from_slice.ensures.after ∙ c.block_of.ensures)

pub returns : goal.returns
returns c =
    blocks_done _ _ _ _ _ c.loop-i.invariant (omega arith)
    ∙ states_words _ _ _ _ _ c.words-a.ensures c.words-b.ensures c.words-c.ensures
    c.words-d.ensures
