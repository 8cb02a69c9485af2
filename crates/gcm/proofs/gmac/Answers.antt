-- `gcm::gmac` meets its contract. A refusal leaves the output as it was, and where there is none all lengths fit and GMAC is written
-- (`GmacLaws`).
use native.Mathlib.Omega.{arith}
use borrow.Author.Rules.{rules}
use Rattle.gcm.proofs.GmacLaws.{gmac-told, gmac-refused, gmac-fits, gmac_done}
use Rattle.gcm.proofs.gmac.Goals as goal

pub returns-in_err-gcm_refusal : goal.returns-in_err-gcm_refusal
returns-in_err-gcm_refusal c =
    let told = gmac-told _ _ _ _ (search rules) in
    record { answer = told; output = gmac-refused _ _ _ _ _ c.from_residual.ensures.0 told }

pub from_bytes-k-requires : goal.from_bytes-k-requires
from_bytes-k-requires c = (gmac-fits _ _ _ _ c.in_ok-gcm_refusal.ensures).fits

pub tag-requires : goal.tag-requires
tag-requires c =
    let fits = gmac-fits _ _ _ _ c.in_ok-gcm_refusal.ensures in
    (fits.short, fits.short_nonce)

pub write-requires : goal.write-requires
write-requires c = omega (arith, (gmac-fits _ _ _ _ c.in_ok-gcm_refusal.ensures).size)

pub returns : goal.returns
returns c =
    let told = c.in_ok-gcm_refusal.ensures in
    record {
      answer = gmac-told _ _ _ _ told;
      output = gmac_done _ _ _ _ told c.from_bytes-k.ensures c.hash_key-h.ensures c.sum.ensures c.tag.ensures c.write.ensures;
    }
