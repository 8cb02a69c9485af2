-- `field::multiply` meets its contract. A refusal leaves the output as it was; where there is none, the product is written
-- (`Refusals`).
use native.Mathlib.Omega.{arith}
use Rattle.field.proofs.Refusals.{multiply_refused, multiply_fits, multiply_done}
use Rattle.field.proofs.multiply.Goals as goal

pub returns-in_err-multiply_refusal-clause-output : goal.returns-in_err-multiply_refusal-clause-output
returns-in_err-multiply_refusal-clause-output c =
    multiply_refused _ _ _ c.multiply_refusal.ensures c.in_err-multiply_refusal.was

pub write-requires : goal.write-requires
write-requires c = omega (arith, multiply_fits _ _ _ c.multiply_refusal.ensures c.in_ok-multiply_refusal.was)

pub returns-clause-output : goal.returns-clause-output
returns-clause-output c =
    multiply_done _ _ _ c.multiply_refusal.ensures c.in_ok-multiply_refusal.was c.from_bytes.ensures c.from_bytes-2.ensures
    c.counted_product.ensures c.write.ensures
