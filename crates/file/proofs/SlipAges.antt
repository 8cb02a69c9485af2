-- How the slips of a list age: the last one is current where the bytes are those it sealed, an earlier one never is and is never ahead, and
-- none is ahead whose number the list issued.
-- It rests on demand 2 of every run on the way (`Demand2`), on check's verdicts at a state (`Verdicts`) and on the row that seal numbers stand
-- in (`Numbers`).
use mathlib.Core.Path.{◌≡◌, refl, sym, ap, subst, ◌∙◌}
use mathlib.Core.Bool.{Bool, true, false, cond}
use mathlib.Core.Logic.{⊎_elim}
use mathlib.Core.List.{List, [], ◌∷◌, ◌++◌, map, map-append, append-nil, append_assoc}
use mathlib.Core.List.Memᴰ
use mathlib.Core.List.{Memᴰ}
use Prim.Native.Nat.{ℕ, ◌+◌, ◌<◌, ◌^◌}
use native.Mathlib.Omega.{arith}
use lib.Dec.{eqb}
use lib.ListN.{length, length-append}
use lib.Seq.{get_or-append_seam}
use borrow.Author.Tests.{eqb-true}
use Rattle.file.specs.declared.sealing.Verdict.TheVariants.{Current, Stale, Ahead}
use Rattle.file.specs.Slips.{slip_number, sealed, Condition}
use Rattle.file.specs.Calls.{Call, edit, seal, check, call_answer}
use Rattle.file.specs.Machine.{machine_refusal}
use Rattle.file.specs.Runs.{Run, begun, further, run, begun_from, from_read, Written, written_by, written_in}
use Rattle.file.specs.Demands.{SlipOf, Sealing, Ages, SlipAges}
use Rattle.file.proofs.Invariant.{same_refusal}
use Rattle.file.proofs.Numbers.{Rise, rise_at, rise-count}
use Rattle.file.proofs.Agreement.{Agrees, agrees-run, agrees_start, agrees-read}
use Rattle.file.proofs.Demand1.{demand_1}
use Rattle.file.proofs.Demand2.{sealing}
use Rattle.file.proofs.Verdicts.{split}

-- ---- the numbers on the slips

abbrev number_on : Written → ℕ
number_on w = slip_number w.slip

one-or-none : (t : Bool) (w : Written) → cond t (number_on w ∷ []) [] ≡ map number_on (cond t (w ∷ []) [])
one-or-none true w = refl
one-or-none false w = refl

-- a call issues the number on the slip that it writes
issued_by : (r : Run) (c : Call) → (call_answer r.state c).issued ≡ map number_on (written_by r c)
unfolding call_answer written_by
issued_by r (edit e) = refl
issued_by r (seal out) = one-or-none (eqb (sealed r.state out).refusal 0) _
issued_by r (check slip) = refl

issued_in : (r : Run) (calls : List Call) → (run r calls).numbers ≡ r.numbers ++ map number_on (written_in r calls)
unfolding run further written_in
issued_in r [] = sym (append-nil r.numbers)
issued_in r (c ∷ cs) =
    let rest = written_in (further r c) cs in
    issued_in (further r c) cs
    ∙ append_assoc r.numbers _ _
    ∙ ap (λ (x : List ℕ). r.numbers ++ x) (ap (λ (x : List ℕ). x ++ map number_on rest) (issued_by r c) ∙ sym (map-append number_on (written_by r c) rest))

-- of slips whose numbers stand in a row, those after one are as many as its number is behind the last used
behind : (a b : ℕ) (slips before after : List Written) (w : Written) → Rise a (map number_on slips) b → slips ≡ before ++ (w ∷ after)
    → b ≡ number_on w + length (map number_on after)
behind a b slips before after w p e =
    let first = map number_on before in
    let rest = map number_on after in
    let row : map number_on slips ≡ first ++ (number_on w ∷ rest) = ap (map number_on) e ∙ map-append number_on before (w ∷ after) in
    let p' : Rise a (first ++ (number_on w ∷ rest)) b = subst (λ (x : List ℕ). Rise a x b) row p in
    let many = length-append first (number_on w ∷ rest) in
    omega (arith, many, rise-count a b _ p', rise_at a b _ p' (length first) (omega (arith, many)), get_or-append_seam first (number_on w) rest 0)

-- ---- the bytes that were sealed

-- calls were true before the list's end
truth_before : (r : Run) (calls : List Call) → (run r calls).truth → r.truth
unfolding run further
truth_before r [] t = t
truth_before r (c ∷ cs) t = (truth_before (further r c) cs t).0

-- the editor seals where the machine does
pub seal-refusal : {key : List ℕ} {arm last : ℕ} (r : Run) → Agrees key arm last r → (out : List ℕ)
    → (sealed r.state out).refusal ≡ machine_refusal r.machine (seal out)
unfolding call_answer
seal-refusal {key} {arm} r g out =
    demand_1.causes r.state (seal out) ∙ same_refusal key arm r.state r.machine g.holds (seal out)

module _ (key : List ℕ) (arm last : ℕ) (small : arm < 2 ^ 32) where
  call_fits : (r : Run) (c : Call) → Agrees key arm last r → r.truth → (w : Written) → Memᴰ w (written_by r c)
      → SlipOf key arm w.bytes w.slip
  unfolding written_by
  call_fits r (edit e) g t w m = absurd (Memᴰ.not-nil m)
  call_fits r (check slip) g t w m = absurd (Memᴰ.not-nil m)
  call_fits r (seal out) g t w m = by (eqb (sealed r.state out).refusal 0) refl m
    where
      by : (b : Bool) → eqb (sealed r.state out).refusal 0 ≡ b
          → Memᴰ w (cond b (record { slip = (sealed r.state out).slip; bytes = r.machine.bytes } ∷ []) [])
          → SlipOf key arm w.bytes w.slip
      by false e k = absurd (Memᴰ.not-nil k)
      by true e k =
          subst (λ (x : Written). SlipOf key arm x.bytes x.slip) (sym (Memᴰ.eq_of_singleton k))
          ((sealing key arm last r small g t).seals out (sym (seal-refusal r g out) ∙ eqb-true _ _ e))

  -- every slip that a list wrote is a slip of the bytes that it sealed
  slips-fit : (r : Run) (calls : List Call) → Agrees key arm last r → (run r calls).truth → (w : Written) → Memᴰ w (written_in r calls)
      → SlipOf key arm w.bytes w.slip
  unfolding run written_in
  slips-fit r [] g t w m = absurd (Memᴰ.not-nil m)
  slips-fit r (c ∷ cs) g t w m =
      ⊎_elim (call_fits r c g (truth_before r (c ∷ cs) t) w)
      (slips-fit (further r c) cs (agrees-run key arm last r (c ∷ []) small g) t w)
      (Memᴰ.append_cases (written_by r c) m)

  -- b is the run before the list's first call
  module _ (b : Run) (calls : List Call) (none : b.numbers ≡ []) (begin : Agrees key arm last b) where
    after_list : Agrees key arm last (run b calls)
    after_list = agrees-run key arm last b calls small begin

    all : map number_on (written_in b calls) ≡ (run b calls).numbers
    all = sym (issued_in b calls ∙ ap (λ (x : List ℕ). x ++ map number_on (written_in b calls)) none)

    row : Rise last (map number_on (written_in b calls)) (run b calls).machine.last
    row = subst (λ (x : List ℕ). Rise last x (run b calls).machine.last) (sym all) after_list.numbers

    -- a slip of the list is one of the bytes held where they are those it sealed
    held : (before after : List Written) (w : Written) → written_in b calls ≡ before ++ (w ∷ after) → (run b calls).truth
        → (run b calls).machine.bytes ≡ w.bytes → SlipOf key arm (run b calls).machine.bytes w.slip
    held before after w e t same =
        subst (λ (x : List ℕ). SlipOf key arm x w.slip) (sym same)
        (slips-fit b calls begin t w (subst (Memᴰ w) (sym e) (Memᴰ.append_right before (Memᴰ.head refl))))

    -- where the calls were true, demand 2 holds after it
    sealed-so : (run b calls).truth → Sealing key arm (run b calls)
    sealed-so = sealing key arm last (run b calls) small after_list

    ages : Ages (written_in b calls) (run b calls)
    unfolding Condition
    ages =
        let r = run b calls in
        let lasts = after_list.holds.same_last in
        let at = split.verdicts r.state in
        record {
          numbers = all;
          newest = λ before w e t same. ((sealed-so t).verdicts w.slip Current).1
              (held before [] w e t same, omega (arith, behind last _ _ before [] w row e));
          earlier = λ before after w next e.
              let k = behind last _ _ before (next ∷ after) w row e in
              (λ f. omega (arith, k, lasts, ((at w.slip Current).0 f).1), λ f. omega (arith, k, lasts, ((at w.slip Ahead).0 f).1));
          put_back = λ before after w next e t same. ((sealed-so t).verdicts w.slip Stale).1
              (held before (next ∷ after) w e t same, omega (arith, behind last _ _ before (next ∷ after) w row e));
          issued = λ slip i l e f.
              omega (arith, rise_at last _ _ after_list.numbers i l, rise-count last _ _ after_list.numbers, e, lasts, ((at slip Ahead).0 f).1);
        }

pub slip-ages : SlipAges
unfolding begun_from from_read run begun
slip-ages =
    record {
      start = λ s a calls. ages s.key s.arm s.last a.arm (begun_from s []) calls refl (agrees_start s a []);
      read = λ r a calls. ages r.key r.arm r.last a.arm (from_read r []) calls refl (agrees-read r a []);
    }
