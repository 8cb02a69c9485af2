-- `cipher::rounds::ciphered` meets its contract. The loop's invariant: the states are those after as many rounds as rows were taken.
use mathlib.Core.Path.{◌≡◌}
use Prim.Native.Nat.{◌-◌}
use lib.ListN.{length}
use native.Mathlib.Omega.{arith}
use Rattle.cipher.specs.Cipher.{after}
use Rattle.cipher.proofs.Whole.{length-middle, after_more, cipher_done}
use Rattle.cipher.proofs.rounds.ciphered.Goals as goal

pub loop-row-init : goal.loop-row-init
loop-row-init g c = λ b s held. unfold after in held

pub loop-row-preserved : goal.loop-row-preserved
loop-row-preserved g c =
    λ b s held.
    rw (after_more c.args.rows.now s c.loop-row.row-index c.loop-row-test.true)
    (c.add_round_key-q-in-loop-row.ensures b _ (c.mix_columns.ensures b _ (c.sub_and_shift.ensures b _ (c.loop-row.invariant b s held))))

pub returns : goal.returns
returns g c =
    λ b s held.
    let rows = c.args.rows.now in
    let all : c.loop-row.row-index ≡ length rows - 1 - 1 = omega (arith, length-middle rows) in
    rw (cipher_done rows s c.loop-row.row-index (length rows - 1) all)
    (c.add_round_key.ensures b _ (c.sub_and_shift-2.ensures b _ (c.loop-row.invariant b _ (c.add_round_key-q.ensures b s held))))
