-- `file::slips::packed` meets its contract. The five words stored one behind the other are the slip's bytes (`SlipLaws`).
use mathlib.Core.Path.{refl}
use native.Mathlib.Omega.{arith}
use Rattle.field.specs.Field.{Small}
use Rattle.file.proofs.SlipLaws.{slip-stored}
use Rattle.file.proofs.slips.packed.Goals as goal

pub returns : goal.returns
returns c =
    let small : Small c.args.f.tag = record { hi = omega arith; lo = omega arith } in
    slip-stored _ _ _ _ _ refl (omega arith) (omega arith) small
    c.store.ensures c.store-2.ensures c.store-3.ensures c.store-4.ensures c.store-5.ensures
