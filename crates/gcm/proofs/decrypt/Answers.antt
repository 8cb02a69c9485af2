-- `gcm::decrypt` meets its contract. A refusal leaves the output as it was; where there is none, all lengths fit, and the tag is right or
-- wrong; where it is right the text turned is written (`TextLaws`).
use mathlib.Core.Path.{sym}
use native.Mathlib.Omega.{arith}
use borrow.Author.Rules.{rules}
use Rattle.gcm.proofs.TextLaws.{gcm_fits, decrypt_refused, decrypt_wrong, decrypt_done}
use Rattle.gcm.proofs.decrypt.Goals as goal

pub returns-in_err-gcm_refusal : goal.returns-in_err-gcm_refusal
returns-in_err-gcm_refusal c = decrypt_refused _ _ _ _ _ _ _ c.from_residual.ensures.0 (search rules)

pub begin-call-requires : goal.begin-call-requires
begin-call-requires c =
    let fits = gcm_fits _ _ _ _ _ _ c.in_ok-gcm_refusal.ensures in
    (fits.fits, fits.short_nonce)

pub tag_fits-requires : goal.tag_fits-requires
tag_fits-requires c =
    let fits = gcm_fits _ _ _ _ _ _ c.in_ok-gcm_refusal.ensures in
    (fits.size, fits.short, omega (arith, fits.short_text))

pub returns-then-not-tag_fits : goal.returns-then-not-tag_fits
returns-then-not-tag_fits c =
    decrypt_wrong _ _ _ _ _ _ c.in_ok-gcm_refusal.ensures (rw c.begin-call.ensures at c.tag_fits.ensures) c.if-not-tag_fits.true

pub turn-requires : goal.turn-requires
turn-requires c =
    let fits = gcm_fits _ _ _ _ _ _ c.in_ok-gcm_refusal.ensures in
    (omega (arith, fits.short_text), sym fits.same)

pub returns : goal.returns
returns c =
    decrypt_done _ _ _ _ _ _ c.in_ok-gcm_refusal.ensures (rw c.begin-call.ensures at c.tag_fits.ensures) c.if-not-tag_fits.false
    (rw c.begin-call.ensures at c.turn.ensures)
