-- The whole cipher: one round more, the schedule of a key of any length that the code expands, and what the block call leaves in the output.
use mathlib.Core.Path.{◌≡◌, refl, sym, ◌∙◌}
use mathlib.Core.Bool.{true}
use mathlib.Core.Logic.{◌≢◌}
use mathlib.Core.List.{List, []}
use Prim.Native.Nat.{ℕ, ◌+◌, ◌-◌, ◌*◌, ◌≤◌, ◌<◌}
use native.Mathlib.Nat.{add-sub_cancel}
use native.Mathlib.Numerals.{add-one}
use native.Mathlib.Omega.{arith}
use borrow.Author.Tests.{ne_eqb, not-false}
use lib.ListN.{length, get_or, take, drop, length-drop}
use lib.Seq.{length-take-le, get_or-take, get_or-drop, ext_get_or}
use Rattle.planes.specs.Tables.{tab, at}
use Rattle.cipher.specs.Rounds.{SubBytes, ShiftRows, MixColumns, AddRoundKey}
use Rattle.cipher.specs.Schedule.{KeyExpansion, schedule}
use Rattle.cipher.specs.Clauses.{cause_number, row_of, Expands}
use Rattle.cipher.specs.Cipher.{Round, after, Cipher, Nk, Nr, rows_of, aes}
use Rattle.cipher.specs.declared.Cause.{Cause}
use Rattle.cipher.specs.declared.Cause.TheVariants.{InputLength, OutputLength}
use Rattle.cipher.specs.Answers.{key_fits, encrypt_refusal, encrypt_output}
use Rattle.refusals.proofs.Laws.{first_passed, agreed}
use Rattle.planes.proofs.Tables.{length-tab, get_d_tab, tab-ext}
use Rattle.cipher.proofs.KeyRows.{row-stable}

-- the rows between the first and the last
abbrev middle : List (List ℕ) → List (List ℕ)
middle rows = take (length rows - 1 - 1) (drop 1 rows)

pub length-middle : (rows : List (List ℕ)) → length (middle rows) ≡ length rows - 1 - 1
length-middle rows = length-take-le (length rows - 1 - 1) (drop 1 rows) (rw length-drop (omega arith))

-- one round more
pub after_more : (rows : List (List ℕ)) (s : List ℕ) (r : ℕ) → r < length (middle rows)
    → after rows s (r + 1) ≡ AddRoundKey (MixColumns (ShiftRows (SubBytes (after rows s r)))) (get_or (middle rows) r [])
unfolding Round
after_more rows s r h =
    let behind : 1 + r ≡ r + 1 = omega arith in
    rw (get_or-take (length rows - 1 - 1) (drop 1 rows) r [] (omega (arith, length-middle rows)), get_or-drop 1 rows r [], behind, add-one)
    (unfold after in refl)

-- the last round, after all those before it
pub cipher_done : (rows : List (List ℕ)) (input : List ℕ) (r last : ℕ) → r ≡ last - 1
    → Cipher last input rows ≡ AddRoundKey (ShiftRows (SubBytes (after rows (AddRoundKey input (get_or rows 0 [])) r))) (get_or rows last [])
unfolding Cipher
cipher_done rows input r last e = rw e

-- a table of a list's bytes is the list
pub tab_at : (n : ℕ) (s : List ℕ) → length s ≡ n → tab n (at s) ≡ s
tab_at n s e =
    ext_get_or 0 (tab n (at s)) s (length-tab n (at s) ∙ sym e)
    (λ i h. get_d_tab n (at s) i 0 (omega (arith, length-tab n (at s))))

-- The code expands a key that itself fills d rows, one or two. Its schedule has 4·d + 7 rows: Nr is 4·d + 6, and a row is added first.
pub key_expands : (key : List ℕ) (d n : ℕ) → length key ≡ 16 * d → 1 ≤ d → d ≤ 2 → n ≡ 4 * d + 7 → Expands key n
key_expands key d n e low high rows = omega arith

-- the rows that it fills are the schedule
pub schedule-rows : (key : List ℕ) (d n : ℕ) → length key ≡ 16 * d → n ≡ 4 * d + 7 → tab n (row_of key) ≡ rows_of key
unfolding rows_of row_of schedule KeyExpansion
schedule-rows key d n e f =
    let rows : n ≡ Nr key + 1 = omega arith in
    rw rows (tab-ext (Nr key + 1) _ _ (λ r h. row-stable (Nk key) r (r + 1) (Nr key + 1) key (omega arith) h))

-- AES by the cipher over the rows of the key's schedule
pub aes-rows :
    (key block : List ℕ) (rows : List (List ℕ)) → rows ≡ rows_of key → Cipher (length rows - 1) block rows ≡ aes key block
unfolding aes rows_of schedule
aes-rows key block rows e = rw (e, length-tab, add-sub_cancel)

-- ---- the block call

cause_refuses : (cause : Cause) → cause_number cause ≢ 0
cause_refuses InputLength e = omega arith
cause_refuses OutputLength e = omega arith

module _ (key block out : List ℕ) where
  -- a cause that is found leaves the output as it was
  pub refused : (cause : Cause) → cause_number cause ≡ encrypt_refusal key block out → out ≡ encrypt_output key block out
  unfolding encrypt_output
  refused cause e = rw (ne_eqb (encrypt_refusal key block out) 0 (λ z. cause_refuses cause (e ∙ z)))

  -- where none is found, key, block and output have the lengths that they need
  pub lengths-fit : 0 ≡ encrypt_refusal key block out → (key_fits key ≡ true) × (length block ≡ 16) × (length out ≡ 16)
  unfolding encrypt_refusal
  lengths-fit e =
      let a = first_passed _ _ _ (sym e) (omega arith) in
      let b = first_passed _ _ _ a.1 (omega arith) in
      let c = first_passed _ _ _ b.1 (omega arith) in
      (search not-false, search agreed, search agreed)

  -- and AES of the block is the output
  pub ciphered : 0 ≡ encrypt_refusal key block out → aes key block ≡ encrypt_output key block out
  unfolding encrypt_output
  ciphered e = rw (sym e)
