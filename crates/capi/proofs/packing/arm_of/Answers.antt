-- `capi::packing::arm_of` meets its contract. The number at its place has four bytes.
use Rattle.std.proofs.Common.{arith}
use Rattle.field.proofs.Bytes.{number_lt}
use Rattle.capi.proofs.packing.arm_of.Goals as goal

pub overflow_cast-result : goal.overflow_cast-result
overflow_cast-result c = omega (arith, c.number_at.ensures, number_lt c.args.b.now 72 4)
