-- `gcm::encrypt` meets its contract. A refusal leaves output and tag as they were; where there is none, all lengths fit, and the text
-- turned and its tag are written (`TextLaws`).
use mathlib.Core.Path.{sym}
use native.Mathlib.Omega.{arith}
use borrow.Author.Rules.{rules}
use Rattle.gcm.proofs.TextLaws.{gcm_fits, encrypt_refused, encrypt_done}
use Rattle.gcm.proofs.encrypt.Goals as goal

pub returns-in_err-gcm_refusal : goal.returns-in_err-gcm_refusal
returns-in_err-gcm_refusal c = encrypt_refused _ _ _ _ _ _ _ c.from_residual.ensures.0 (search rules)

pub begin-call-requires : goal.begin-call-requires
begin-call-requires c =
    let fits = gcm_fits _ _ _ _ _ _ c.in_ok-gcm_refusal.ensures in
    (fits.fits, fits.short_nonce)

pub turn-requires : goal.turn-requires
turn-requires c =
    let fits = gcm_fits _ _ _ _ _ _ c.in_ok-gcm_refusal.ensures in
    (omega (arith, fits.short_text), sym fits.same)

pub tag-requires : goal.tag-requires
tag-requires c =
    let fits = gcm_fits _ _ _ _ _ _ c.in_ok-gcm_refusal.ensures in
    (fits.short, omega (arith, fits.short_text, fits.same, c.turn.auto.out))

pub write-requires : goal.write-requires
write-requires c = omega (arith, (gcm_fits _ _ _ _ _ _ c.in_ok-gcm_refusal.ensures).size)

pub returns : goal.returns
returns c =
    encrypt_done _ _ _ _ _ _ c.in_ok-gcm_refusal.ensures _ (rw c.begin-call.ensures at c.turn.ensures) (rw c.begin-call.ensures at c.tag.ensures)
    c.write.ensures
