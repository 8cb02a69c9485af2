-- The slip's fields in its bytes: where each stands, that what is written is read back, and the fields of an opened slip.
-- They rest on the field's laws of numbers as bytes.
use mathlib.Core.Path.{◌≡◌, sym, ap, ap₂, ◌∙◌}
use mathlib.Core.List.{List, ◌++◌, append_assoc}
use Prim.Native.Nat.{ℕ, ◌+◌, ◌*◌, ◌/◌, ◌%◌, ◌^◌, ◌<◌}
use native.Mathlib.Nat.{mod-eq_of_lt}
use native.Mathlib.Omega.{arith}
use lib.ListN.{length}
use lib.Seq.{sets}
use lib.Arith.{digits_lt}
use lib.Pow.{high, low, shr-shr}
use Rattle.refusals.specs.Refusals.{first}
use Rattle.refusals.proofs.Laws.{first_none, first_later, agree}
use Rattle.field.specs.declared.blocks.Block.{Block}
use Rattle.field.specs.Field.{number, bytes, value, block, Small}
use Rattle.field.proofs.Values.{value-lt, value-small, value-block}
use Rattle.field.proofs.Bytes.{number_lt, number-split, number-bytes, length-bytes, bytes-append}
use Rattle.file.specs.Slips.{slip_value, packed_slip, slip_version, slip_length, slip_arm, slip_number, slip_tag}
use Rattle.file.specs.Slips.{slip_bytes, open_causes, SlipFields, opened_with, opening}
use Rattle.field.proofs.Stores.{stored-none, stored_next, stored-all}

-- ---- the fields of a number of 36 bytes

-- the number whose first word is head, and then arm, seal number and tag
abbrev packed : (head arm number tag : ℕ) → ℕ
packed head arm number tag = ((head * 2 ^ 32 + arm) * 2 ^ 64 + number) * 2 ^ 128 + tag

-- the fields of a slip, its version and length in one word
pub record Parts (slip : List ℕ) (head arm number tag : ℕ) : Type 0 where
  pub version : slip_version slip ≡ head / 2 ^ 61
  pub length_is : slip_length slip ≡ head % 2 ^ 61
  pub arm_is : slip_arm slip ≡ arm
  pub number_is : slip_number slip ≡ number
  pub tag_is : slip_tag slip ≡ tag

parts : (slip : List ℕ) (head arm seal tag : ℕ) → arm < 2 ^ 32 → seal < 2 ^ 64 → tag < 2 ^ 128
    → number slip 0 36 ≡ packed head arm seal tag → Parts slip head arm seal tag
unfolding slip_version slip_length slip_arm slip_number slip_tag
parts slip head arm seal tag la ls lt e =
    let v = number slip 0 36 in
    let past-tag : v / 2 ^ 128 ≡ (head * 2 ^ 32 + arm) * 2 ^ 64 + seal = ap (λ (x : ℕ). x / 2 ^ 128) e ∙ high _ 128 lt in
    let past-seal : v / 2 ^ 192 ≡ head * 2 ^ 32 + arm =
    sym (shr-shr v 128 64) ∙ ap (λ (x : ℕ). x / 2 ^ 64) past-tag ∙ high _ 64 ls
    in
    let past-arm : v / 2 ^ 224 ≡ head = sym (shr-shr v 192 32) ∙ ap (λ (x : ℕ). x / 2 ^ 32) past-seal ∙ high _ 32 la in
    record {
      version = sym (shr-shr v 224 61) ∙ ap (λ (x : ℕ). x / 2 ^ 61) past-arm;
      length_is = ap (λ (x : ℕ). x % 2 ^ 61) past-arm;
      arm_is = ap (λ (x : ℕ). x % 2 ^ 32) past-seal ∙ low head 32 la;
      number_is = ap (λ (x : ℕ). x % 2 ^ 64) past-tag ∙ low (head * 2 ^ 32 + arm) 64 ls;
      tag_is = ap (λ (x : ℕ). x % 2 ^ 128) e ∙ low ((head * 2 ^ 32 + arm) * 2 ^ 64 + seal) 128 lt;
    }

-- where each field stands: eight bytes of version and length, four of the arm, eight of the seal number, sixteen of the tag
pub slip_parts : (slip : List ℕ) → Parts slip (number slip 0 8) (number slip 8 4) (number slip 12 8) (number slip 20 16)
slip_parts slip =
    parts slip (number slip 0 8) (number slip 8 4) (number slip 12 8) (number slip 20 16)
    (number_lt slip 8 4) (number_lt slip 12 8) (number_lt slip 20 16)
    (number-split slip 0 20 16
    ∙ ap (λ (x : ℕ). x * 2 ^ 128 + number slip 20 16)
    (number-split slip 0 12 8 ∙ ap (λ (x : ℕ). x * 2 ^ 64 + number slip 12 8) (number-split slip 0 8 4)))

-- ---- what is written is read back

pub length_slip : (n arm seal tag : ℕ) → length (packed_slip n arm seal tag) ≡ 36
unfolding packed_slip
length_slip n arm seal tag = length-bytes 36 _

-- the fields of a written slip are those written, and its version is 1
pub record ReadBack (slip : List ℕ) (n arm seal tag : ℕ) : Type 0 where
  pub size : length slip ≡ 36
  pub version : slip_version slip ≡ 1
  pub length_is : slip_length slip ≡ n
  pub arm_is : slip_arm slip ≡ arm
  pub number_is : slip_number slip ≡ seal
  pub tag_is : slip_tag slip ≡ tag

slip-lt : (n arm seal tag : ℕ) → n < 2 ^ 61 → arm < 2 ^ 32 → seal < 2 ^ 64 → tag < 2 ^ 128 → slip_value 1 n arm seal tag < 256 ^ 36
unfolding slip_value
slip-lt n arm seal tag ln la ls lt =
    digits_lt {m = 2 ^ 160} (digits_lt {m = 2 ^ 96} (digits_lt {m = 2 ^ 64} (omega arith) la) ls) lt

pub slip-back : (n arm seal tag : ℕ) → n < 2 ^ 61 → arm < 2 ^ 32 → seal < 2 ^ 64 → tag < 2 ^ 128
    → ReadBack (packed_slip n arm seal tag) n arm seal tag
unfolding packed_slip slip_value
slip-back n arm seal tag ln la ls lt =
    let slip = packed_slip n arm seal tag in
    let p = parts slip (1 * 2 ^ 61 + n) arm seal tag la ls lt (number-bytes 36 _ ∙ mod-eq_of_lt (slip-lt n arm seal tag ln la ls lt)) in
    record {
      size = length_slip n arm seal tag;
      version = p.version ∙ high 1 61 ln;
      length_is = p.length_is ∙ low 1 61 ln;
      arm_is = p.arm_is;
      number_is = p.number_is;
      tag_is = p.tag_is;
    }

-- ---- writing

-- the bytes of a slip, field by field
slip-fields : (n arm seal tag : ℕ) → arm < 2 ^ 32 → seal < 2 ^ 64 → tag < 2 ^ 128
    → packed_slip n arm seal tag ≡ bytes 8 (2 ^ 61 + n) ++ bytes 4 arm ++ bytes 8 seal ++ bytes 16 tag
unfolding packed_slip slip_value
slip-fields n arm seal tag la ls lt =
    bytes-append 20 16 _ tag lt
    ∙ ap (λ (t : List ℕ). t ++ bytes 16 tag)
    (bytes-append 12 8 _ seal ls ∙ ap (λ (t : List ℕ). t ++ bytes 8 seal) (bytes-append 8 4 _ arm la))

-- code stores it word by word: a after the first store, and so on to e
pub slip-stored : (out : List ℕ) (n arm seal : ℕ) (tag : Block) {a b c d e : List ℕ} → length out ≡ 36 → arm < 2 ^ 32 → seal < 2 ^ 64
    → Small tag → a ≡ sets out 0 (bytes 8 (2 ^ 61 + n)) → b ≡ sets a 8 (bytes 4 arm) → c ≡ sets b 12 (bytes 8 seal)
    → d ≡ sets c 20 (bytes 8 tag.hi) → e ≡ sets d 28 (bytes 8 tag.lo) → e ≡ packed_slip n arm seal (value tag)
slip-stored out n arm seal tag l la ls small ea eb ec ed ee =
    let front = bytes 8 (2 ^ 61 + n) ++ bytes 4 arm ++ bytes 8 seal in
    let both : bytes 16 (value tag) ≡ bytes 8 tag.hi ++ bytes 8 tag.lo =
    ap (bytes 16) (value-small tag small) ∙ bytes-append 8 8 tag.hi tag.lo small.lo
    in
    let lt : value tag < 2 ^ 128 = value-lt tag in
    let version = stored_next 8 (2 ^ 61 + n) (stored-none out 0) ea in
    let nonce = stored_next 8 seal (stored_next 4 arm version eb) ec in
    stored-all (stored_next 8 tag.lo (stored_next 8 tag.hi nonce ed) ee) l
    ∙ append_assoc front (bytes 8 tag.hi) (bytes 8 tag.lo)
    ∙ ap (λ (t : List ℕ). front ++ t) (sym both)
    ∙ sym (slip-fields n arm seal (value tag) la ls lt)

-- ---- opening

module _ (slip : List ℕ) where
  -- hi and lo are the words of the tag, and tag its block
  pub open_done : {head arm seal hi lo : ℕ} {tag : Block} → length slip ≡ slip_bytes → head ≡ number slip 0 8 → head / 2 ^ 61 ≡ 1
      → arm ≡ number slip 8 4 → seal ≡ number slip 12 8 → hi ≡ number slip 20 8 → lo ≡ number slip 28 8
      → tag ≡ block (hi * 2 ^ 64 + lo)
      → ◌≡◌ {A = SlipFields} (record { refusal = 0; n = head % 2 ^ 61; arm = arm; number = seal; tag = value tag }) (opening slip)
  unfolding opening open_causes opened_with
  open_done {head} {arm} {seal} {hi} {lo} {tag} x e y ea es eh el et =
      let p = slip_parts slip in
      let z : slip_version slip ≡ 1 = p.version ∙ ap (λ (w : ℕ). w / 2 ^ 61) (sym e) ∙ y in
      let whole : tag ≡ block (number slip 20 16) =
      et ∙ ap₂ (λ (u v : ℕ). block (u * 2 ^ 64 + v)) eh el ∙ ap block (sym (number-split slip 20 8 8))
      in
      let t : value tag ≡ slip_tag slip = ap value whole ∙ value-block _ (number_lt slip 20 16) ∙ sym p.tag_is in
      let opens : 0 ≡ first (open_causes slip) = first_later _ _ _ (agree x) (first_later _ _ _ (agree z) first_none) in
      (λ i. record {
        refusal = 0;
        n = (ap (λ (w : ℕ). w % 2 ^ 61) e ∙ sym p.length_is) i;
        arm = (ea ∙ sym p.arm_is) i;
        number = (es ∙ sym p.number_is) i;
        tag = t i;
      })
      ∙ ap (λ (r : ℕ). opened_with r slip) opens
