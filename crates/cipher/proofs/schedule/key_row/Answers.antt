-- `cipher::schedule::key_row` meets its contract. Sixteen bytes of a list from a place on.
use mathlib.Core.Path.{◌≡◌, sym, ◌∙◌}
use Prim.Native.Nat.{◌+◌, ◌*◌, ◌-◌}
use lib.ListN.{take, drop}
use Rattle.std.proofs.Common.{rules}
use native.Mathlib.Omega.{arith}
use Rattle.cipher.proofs.SixteenStates.{sixteen_at}
use Rattle.cipher.proofs.schedule.key_row.Goals as goal

pub returns : goal.returns
returns c =
    let key = c.args.key.now in
    let n = 16 * c.args.r in
    let size : n + 16 - n ≡ 16 = omega arith in
    let row : c.unwrap.result.now ≡ take (n + 16 - n) (drop n key) = search rules in
    row ∙ rw size (sym (sixteen_at key n c.requires))
