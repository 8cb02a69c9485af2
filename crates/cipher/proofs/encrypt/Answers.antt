-- `cipher::encrypt` meets its contract. A refusal leaves the output as it was, and where there is none all lengths fit and AES is written.
use Rattle.std.proofs.Common.{rules}
use mathlib.Core.Path.{◌≡◌, sym, ap, ◌∙◌}
use lib.ListN.{length}
use Rattle.cipher.proofs.AesLaws.{length-aes}
use Rattle.cipher.proofs.Whole.{refused, lengths-fit, ciphered}
use Rattle.cipher.proofs.encrypt.Goals as goal

pub returns-in_err-encrypt_refusal-clause-output : goal.returns-in_err-encrypt_refusal-clause-output
returns-in_err-encrypt_refusal-clause-output c = refused _ _ _ _ c.in_err-encrypt_refusal.ensures

pub from_bytes-requires : goal.from_bytes-requires
from_bytes-requires c = (lengths-fit _ _ _ c.in_ok-encrypt_refusal.ensures).0

pub copy_from_slice-requires : goal.copy_from_slice-requires
copy_from_slice-requires c = (lengths-fit _ _ _ c.in_ok-encrypt_refusal.ensures).2 ∙ sym (ap length c.encrypt.ensures ∙ length-aes _ _)

pub unwrap-requires : goal.unwrap-requires
unwrap-requires c = c.as_array.ensures.variant.1 (lengths-fit _ _ _ c.in_ok-encrypt_refusal.ensures).1

pub returns-clause-output : goal.returns-clause-output
returns-clause-output c =
    let block : c.unwrap.result.now ≡ c.args.block.now = search rules in
    rw (c.copy_from_slice.ensures.after, c.encrypt.ensures, c.from_bytes.ensures, block) (ciphered _ _ _ c.in_ok-encrypt_refusal.ensures)
