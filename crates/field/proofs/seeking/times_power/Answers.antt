-- `field::seeking::times_power` meets its contract. It is seek and one counted product more, for which the count has room.
use native.Mathlib.Omega.{arith}
use Rattle.field.proofs.Steps.{steps-le}
use Rattle.field.proofs.seeking.times_power.Goals as goal

pub counted_product-requires : goal.counted_product-requires
counted_product-requires c =
    rw c.seek-found.ensures (omega (arith, steps-le c.args.k (omega arith)))
