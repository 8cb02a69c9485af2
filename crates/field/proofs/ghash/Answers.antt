-- `field::ghash` meets its contract. A refusal leaves the output as it was; where there is none, the hash is written
-- (`Refusals`).
use native.Mathlib.Omega.{arith}
use Rattle.field.proofs.Refusals.{ghash-refused, ghash-fits, ghash_done}
use Rattle.field.proofs.ghash.Goals as goal

pub returns-in_err-ghash_refusal-clause-output : goal.returns-in_err-ghash_refusal-clause-output
returns-in_err-ghash_refusal-clause-output c =
    ghash-refused _ _ _ _ c.ghash_refusal.ensures c.in_err-ghash_refusal.was

pub hash-requires : goal.hash-requires
hash-requires c =
    let fits = ghash-fits _ _ _ _ c.ghash_refusal.ensures c.in_ok-ghash_refusal.was in
    (fits.1, fits.2)

pub write-requires : goal.write-requires
write-requires c = omega (arith, (ghash-fits _ _ _ _ c.ghash_refusal.ensures c.in_ok-ghash_refusal.was).0)

pub returns-clause-output : goal.returns-clause-output
returns-clause-output c =
    ghash_done _ _ _ _ c.ghash_refusal.ensures c.in_ok-ghash_refusal.was c.from_bytes.ensures c.hash.ensures c.write.ensures
