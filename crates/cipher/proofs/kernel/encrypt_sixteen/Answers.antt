-- `cipher::kernel::encrypt_sixteen` meets its contract. The states are packed, ciphered and written back.
use Rattle.std.proofs.Common.{rules}
use mathlib.Core.Path.{◌≡◌, refl, ◌∙◌}
use Rattle.cipher.proofs.SixteenStates.{states_ciphered}
use Rattle.cipher.proofs.kernel.encrypt_sixteen.Goals as goal

pub returns-in-Some : goal.returns-in-Some
returns-in-Some c =
    let whole : c.in-Some.sixteen.now ≡ c.args.blocks.now = search rules in
    c.unpack.ensures
    ∙ states_ciphered c.args.rows.now c.in-Some.sixteen.now c.ciphered.result (search rules) (λ b h. c.ciphered.ensures b _ (c.pack.ensures b) h)
    ∙ rw whole refl
