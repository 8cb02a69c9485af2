-- Lists of appends and of seals, run by the plain machine: what they leave, however long they are.
-- It rests on what the machine answers to one call (`Calls`), on the order of an edit's causes (`ShapeLaws`) and on the length after an edit
-- (`Invariant`).
use mathlib.Core.Path.{◌≡◌, refl, sym, ap, ap₂, ◌∙◌}
use mathlib.Core.Bool.{Bool, true, false, cond}
use mathlib.Core.List.{List, [], ◌∷◌, ◌++◌, flatten, append-nil, append_assoc}
use mathlib.Core.List.Memᴰ
use mathlib.Core.List.{Memᴰ}
use mathlib.Core.Logic.{⊎_elim}
use Prim.Native.Nat.{ℕ, zero, suc, ◌+◌, ◌-◌, ◌≤◌, ◌<◌, ◌^◌}
use native.Mathlib.Nat.{add-zero, add_assoc}
use native.Mathlib.Omega.{arith}
use lib.Dec.{eqb}
use lib.ListN.{length, replicate, length-append, length-replicate}
use borrow.Author.Tests.{le-ltb, ne_eqb}
use Rattle.refusals.proofs.Laws.{first_none, first_later, agree}
use Rattle.field.specs.Field.{max_bytes}
use Rattle.file.specs.declared.geometry.Kind.TheVariants.{Append}
use Rattle.file.specs.Edits.{append, kind_of, place_of, given, replacing, kind_causes, kind_refusal, geometry_at, edit_refusal}
use Rattle.file.specs.Slips.{slip_bytes, seal_refusal, sealed}
use Rattle.file.specs.Calls.{Call, edit, seal, call_refusal}
use Rattle.file.specs.Machine.{Machine, with_bytes, with_last, bytes_after, MachineAnswer, accepted_by, machine_refusal, machine_answer}
use Rattle.file.specs.Machine.{NamesHeld, TrueCall}
use Rattle.file.specs.Runs.{Run, further, run, Written, written_by, written_in}
use Rattle.file.specs.Met.{appends, append_counts}
use Rattle.file.proofs.ShapeLaws.{geometry-refusal}
use Rattle.file.proofs.Calls.{machine-accepted}
use Rattle.file.proofs.Invariant.{length_kept}

-- a run of two lists one after the other
pub run-append : (r : Run) (cs ds : List Call) → run r (cs ++ ds) ≡ run (run r cs) ds
unfolding run
run-append r [] ds = refl
run-append r (c ∷ cs) ds = run-append (further r c) cs ds

-- ---- appends

pub append_true : (m : Machine) (s : List ℕ) → TrueCall m (edit (append s))
unfolding TrueCall NamesHeld
append_true m s a = tt

-- an append is accepted where there is room
pub append-refusal : (n : ℕ) (s : List ℕ) → n + length s ≤ max_bytes → edit_refusal n (append s) ≡ 0
unfolding edit_refusal geometry_at kind_of place_of given replacing kind_refusal kind_causes
append-refusal n s l =
    geometry-refusal Append 0 (length s) 0 n
    ∙ sym (first_later _ _ _ (le-ltb max_bytes n (omega arith)) (first_later _ _ _ (le-ltb _ _ l) first_none))

-- and makes the file longer by its bytes
pub append-length : (n : ℕ) (s : List ℕ) → n + length s ≤ max_bytes → (geometry_at n (append s)).n ≡ n + length s
unfolding bytes_after
append-length n s l =
    let f : List ℕ = replicate n 0 in
    let size : length f ≡ n = length-replicate n 0 in
    let a = append-refusal (length f) s (rw size l) in
    ap (λ (x : ℕ). (geometry_at x (append s)).n) (sym size)
    ∙ length_kept f (append s) a
    ∙ length-append f s
    ∙ ap (λ (x : ℕ). x + length s) size

-- what appends leave of a run: the machine has every part behind its bytes, and has refused none
pub record Longer (r : Run) (parts : List (List ℕ)) (after : Run) : Type 0 where
  pub bytes : after.machine.bytes ≡ r.machine.bytes ++ flatten parts
  pub last : after.machine.last ≡ r.machine.last
  pub truth : r.truth → after.truth
  pub refusals : after.machine_refusals ≡ r.machine_refusals ++ replicate (length parts) 0
  pub total : after.machine_total ≡ r.machine_total + append_counts (length r.machine.bytes) parts

pub longer : (r : Run) (parts : List (List ℕ)) → length r.machine.bytes + length (flatten parts) ≤ max_bytes
    → Longer r parts (run r (appends parts))
unfolding run further flatten append_counts accepted_by with_bytes bytes_after machine_refusal call_refusal
longer r [] l =
    record {
      bytes = sym (append-nil r.machine.bytes);
      last = refl;
      truth = λ t. t;
      refusals = sym (append-nil r.machine_refusals);
      total = sym (add-zero r.machine_total);
    }
longer r (part ∷ parts) l =
    let m = r.machine in
    let c : Call = edit (append part) in
    let both = length-append part (flatten parts) in
    let one = machine-accepted m c (append-refusal (length m.bytes) part (omega (arith, l, both))) in
    let bytes : (machine_answer m c).machine.bytes ≡ m.bytes ++ part = ap (λ (b : MachineAnswer). b.machine.bytes) one in
    let size : length (machine_answer m c).machine.bytes ≡ length m.bytes + length part = ap length bytes ∙ length-append m.bytes part in
    let rest = longer (further r c) parts (omega (arith, l, both, size)) in
    record {
      bytes = rest.bytes ∙ ap (λ (f : List ℕ). f ++ flatten parts) bytes ∙ append_assoc m.bytes part (flatten parts);
      last = rest.last ∙ ap (λ (b : MachineAnswer). b.machine.last) one;
      truth = λ t. rest.truth (t, append_true m part);
      refusals = rest.refusals
          ∙ ap (λ (b : MachineAnswer). (r.machine_refusals ++ (b.refusal ∷ [])) ++ replicate (length parts) 0) one
          ∙ append_assoc r.machine_refusals (0 ∷ []) (replicate (length parts) 0);
      total = rest.total
          ∙ ap₂ (λ (b : MachineAnswer) (n : ℕ). r.machine_total + b.count + append_counts n parts) one size
          ∙ add_assoc r.machine_total _ _;
    }

-- ---- seals

-- a seal is accepted of a file within the limits, with room for a slip and a number left
pub seal-accepts : (m : Machine) (out : List ℕ) → length m.bytes ≤ max_bytes → length out ≡ slip_bytes → m.last + 1 < 2 ^ 64
    → machine_refusal m (seal out) ≡ 0
unfolding machine_refusal call_refusal seal_refusal
seal-accepts m out l e r =
    let left : m.last ≡ 2 ^ 64 - 1 → ⊥ = λ z. omega arith in
    sym (first_later _ _ _ (le-ltb _ _ l) (first_later _ _ _ (agree e) (first_later _ _ _ (ne_eqb _ _ left) first_none)))

-- and then raises the number, and alters no byte
pub seal-machine : (m : Machine) (out : List ℕ) → machine_refusal m (seal out) ≡ 0
    → (machine_answer m (seal out)).machine ≡ with_last m (m.last + 1)
unfolding accepted_by
seal-machine m out z = ap (λ (x : MachineAnswer). x.machine) (machine-accepted m (seal out) z)

-- what a seal writes was sealed of the bytes that the machine held
written-bytes : (r : Run) (out : List ℕ) (w : Written) → Memᴰ w (written_by r (seal out)) → w.bytes ≡ r.machine.bytes
unfolding written_by
written-bytes r out w m = by (eqb (sealed r.state out).refusal 0) m
  where
    by : (b : Bool) → Memᴰ w (cond b (record { slip = (sealed r.state out).slip; bytes = r.machine.bytes } ∷ []) [])
        → w.bytes ≡ r.machine.bytes
    by false k = absurd (Memᴰ.not-nil k)
    by true k = ap (λ (x : Written). x.bytes) (Memᴰ.eq_of_singleton k)

-- what k seals leave of a run: the bytes are those that each of them sealed, and the number has risen by k
pub record Risen (r : Run) (out : List ℕ) (k : ℕ) (after : Run) : Type 0 where
  pub bytes : after.machine.bytes ≡ r.machine.bytes
  pub last : after.machine.last ≡ r.machine.last + k
  pub truth : r.truth → after.truth
  pub refusals : after.machine_refusals ≡ r.machine_refusals ++ replicate k 0
  pub total : after.machine_total ≡ r.machine_total
  pub slips : (w : Written) → Memᴰ w (written_in r (replicate k (seal out))) → w.bytes ≡ r.machine.bytes

pub risen : (r : Run) (out : List ℕ) (k : ℕ) → length r.machine.bytes ≤ max_bytes → length out ≡ slip_bytes → r.machine.last + k < 2 ^ 64
    → Risen r out k (run r (replicate k (seal out)))
unfolding run further written_in accepted_by with_last TrueCall
risen r out zero l e room =
    record {
      bytes = refl;
      last = sym (add-zero r.machine.last);
      truth = λ t. t;
      refusals = sym (append-nil r.machine_refusals);
      total = refl;
      slips = λ w m. absurd (Memᴰ.not-nil m);
    }
risen r out (suc k) l e room =
    let m = r.machine in
    let one = machine-accepted m (seal out) (seal-accepts m out l e (omega (arith, room))) in
    let bytes : (machine_answer m (seal out)).machine.bytes ≡ m.bytes = ap (λ (b : MachineAnswer). b.machine.bytes) one in
    let last : (machine_answer m (seal out)).machine.last ≡ m.last + 1 = ap (λ (b : MachineAnswer). b.machine.last) one in
    let rest = risen (further r (seal out)) out k (rw bytes l) e (omega (arith, room, last)) in
    record {
      bytes = rest.bytes ∙ bytes;
      last = omega (arith, rest.last, last);
      truth = λ t. rest.truth (t, tt);
      refusals = rest.refusals
          ∙ ap (λ (b : MachineAnswer). (r.machine_refusals ++ (b.refusal ∷ [])) ++ replicate k 0) one
          ∙ append_assoc r.machine_refusals (0 ∷ []) (replicate k 0);
      total = rest.total ∙ ap (λ (b : MachineAnswer). r.machine_total + b.count) one ∙ add-zero r.machine_total;
      slips = λ w k. ⊎_elim (written-bytes r out w) (λ x. rest.slips w x ∙ bytes) (Memᴰ.append_cases (written_by r (seal out)) k);
    }
