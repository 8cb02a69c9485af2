-- The invariant of demands 2 and 3: what the editor's state has to do with the plain machine (`Holds`), set up by an accepted start or read,
-- and all that one call keeps of it (`Agreed`): both answer the same, and the sum is the sum of the machine's bytes while the bytes named are
-- true. A new call costs one clause of `agreed-accepted`.
-- It rests on what one call answers (`Calls`), on an accepted seal's number (`SealLaws`), on the laws of edits (`EditLaws`) and on the sum's
-- laws of the field.
use mathlib.Core.Path.{◌≡◌, refl, sym, ap, ap₂, subst, ◌∙◌}
use mathlib.Core.Bool.{Bool, true, false, cond}
use mathlib.Core.Logic.{◌≢◌, ◌⊎◌, inl, inr}
use mathlib.Core.List.{List, [], ◌∷◌}
use Prim.Native.Nat.{ℕ, ◌+◌, ◌≤◌, ◌<◌, ◌^◌, zero-le}
use native.Mathlib.Nat.{eq-zero-or-pos}
use native.Mathlib.Omega.{arith}
use lib.Dec.{eqb}
use lib.ListN.{length, length-replicate}
use borrow.Author.Tests.{eq-eqb, ne_eqb}
use Rattle.field.specs.declared.blocks.Block.{Block}
use Rattle.field.specs.Field.{Small, sum, companion, max_bytes}
use Rattle.field.proofs.Ring.{small-⊕, small-•}
use Rattle.field.proofs.Sums.{small-sum}
use Rattle.field.proofs.Blank.{blank-sum, small-blank}
use Rattle.gcm.specs.Gcm.{hash_key}
use Rattle.gcm.proofs.TagLaws.{small-hash}
use Rattle.file.specs.declared.geometry.Kind.{Kind}
use Rattle.file.specs.declared.geometry.Kind.TheVariants.{Change, Append, Prepend, DropFront, CutTail}
use Rattle.file.specs.declared.states.State.{State}
use Rattle.file.specs.Edits.{Edit, kind_of, given, replacing, Geometry, geometry_at, edit_refusal, count_of}
use Rattle.file.specs.Table.{new_sum}
use Rattle.file.specs.States.{key_of, state_of, put, Start, Reading, started, read_file, sum_after}
use Rattle.file.specs.Slips.{seal_refusal, numbered}
use Rattle.file.specs.Calls.{Call, edit, seal, check, call_refusal, CallAnswer, call_answer}
use Rattle.file.specs.Machine.{Machine, blank, lent, with_bytes, with_last, bytes_after, MachineAnswer, accepted_by, refused_by}
use Rattle.file.specs.Machine.{machine_refusal, machine_answer, NamesHeld, TrueCall}
use Rattle.file.proofs.ShapeLaws.{geometry-refusal, geometry-nothing}
use Rattle.file.proofs.EditLaws.{geometry-some, some-touched, none-untouched, bytes_count, limit_kept, nothing_kept, sum_kept, count-within}
use Rattle.file.proofs.Calls.{refused_call, accepted_call, call-refused, call-accepted, machine-refused, machine-accepted}
use Rattle.file.proofs.Calls.{begun_start, begun-read}
use Rattle.file.proofs.SealLaws.{seal-room, next_number}

-- key, H, I and arm are as start made them, S is a block of two words, length and last used number are the machine's, and neither passes its
-- limit
pub record Holds (key : List ℕ) (arm : ℕ) (st : State) (m : Machine) : Type 0 where
  pub same_key : key_of st ≡ key
  pub same_h : st.h ≡ hash_key key
  pub same_i : st.i ≡ companion (hash_key key)
  pub small-s : Small st.s
  pub same_arm : st.arm ≡ arm
  pub same_n : st.n ≡ length m.bytes
  pub same_last : st.last ≡ m.last
  pub short : length m.bytes ≤ max_bytes
  pub room : m.last < 2 ^ 64

-- the sum is the sum of the machine's bytes
abbrev pub Summed : (key : List ℕ) (st : State) (m : Machine) → Type 0
Summed key st m = st.s ≡ sum (hash_key key) m.bytes

-- ---- set up

-- the state for a key holds
holds-made : (key : List ℕ) (s : Block) (n arm : ℕ) (m : Machine) → Small s → n ≡ length m.bytes → n ≤ max_bytes → m.last < 2 ^ 64
    → Holds key arm (state_of key s n arm m.last) m
unfolding state_of key_of
holds-made key s n arm m w e l r =
    record {
      same_key = refl;
      same_h = refl;
      same_i = refl;
      small-s = w;
      same_arm = refl;
      same_n = e;
      same_last = refl;
      short = subst (λ (x : ℕ). x ≤ max_bytes) e l;
      room = r;
    }

pub holds_start : (s : Start) → (started s).refusal ≡ 0 → s.last < 2 ^ 64 → Holds s.key s.arm (started s).state (blank s)
unfolding blank
holds_start s e r =
    let b = begun_start s e in
    subst (λ (st : State). Holds s.key s.arm st (blank s)) (sym b.state)
    (holds-made s.key _ s.n s.arm (blank s) (small-blank _ s.fill s.n) (sym (length-replicate s.n _)) b.short r)

pub summed_start : (s : Start) → (started s).refusal ≡ 0 → Summed s.key (started s).state (blank s)
unfolding blank state_of
summed_start s e = ap (λ (st : State). st.s) (begun_start s e).state ∙ blank-sum.sums (hash_key s.key) s.fill s.n

pub holds_read : (r : Reading) → (read_file r).refusal ≡ 0 → r.last < 2 ^ 64 → Holds r.key r.arm (read_file r).state (lent r)
unfolding lent
holds_read r e l =
    let b = begun-read r e in
    subst (λ (st : State). Holds r.key r.arm st (lent r)) (sym b.state)
    (holds-made r.key (sum (hash_key r.key) r.file) (length r.file) r.arm (lent r) (small-sum _ r.file) refl b.short l)

pub summed-read : (r : Reading) → (read_file r).refusal ≡ 0 → Summed r.key (read_file r).state (lent r)
unfolding lent state_of
summed-read r e = ap (λ (st : State). st.s) (begun-read r e).state

-- ---- an accepted edit

-- every sum of document 01's table is of two words
small-table : (kind : Kind) (h i s w : Block) (k : ℕ) → Small (new_sum kind h i s w k)
unfolding new_sum
small-table Change h i s w k = small-⊕ _ _
small-table Append h i s w k = small-⊕ _ _
small-table Prepend h i s w k = small-⊕ _ _
small-table DropFront h i s w k = small-⊕ _ _
small-table CutTail h i s w k = small-• _ _

small-choice : (t : Bool) (a b : Block) → Small a → Small b → Small (cond t a b)
small-choice true a b p q = p
small-choice false a b p q = q

small_after : (st : State) → Small st.s → (kind : Kind) (g : Geometry) (a b : List ℕ) → Small (sum_after st kind g a b)
unfolding sum_after
small_after st w kind g a b = small-choice (eqb g.q 0) _ _ w (small-table kind _ _ _ _ _)

-- one of no bytes keeps the length
none-length : (n : ℕ) (e : Edit) → edit_refusal n e ≡ 0 → length (given e) ≡ 0 → (geometry_at n e).n ≡ n
unfolding edit_refusal geometry_at
none-length n e a z = sym (ap (λ (g : Geometry). g.n) (geometry-nothing _ _ _ _ n (sym (geometry-refusal _ _ _ _ n) ∙ a) z))

-- the length is the count of the machine's bytes afterwards
length_by : (f : List ℕ) (e : Edit) → edit_refusal (length f) e ≡ 0 → (length (given e) ≡ 0) ⊎ (0 < length (given e))
    → (geometry_at (length f) e).n ≡ length (bytes_after f e)
length_by f e a (inl z) = none-length (length f) e a z ∙ ap length (sym (nothing_kept f e a z))
length_by f e a (inr z) = ap (λ (g : Geometry). g.n) (geometry-some (length f) e a (λ y. omega arith)) ∙ sym (bytes_count f e a)

pub length_kept : (f : List ℕ) (e : Edit) → edit_refusal (length f) e ≡ 0 → (geometry_at (length f) e).n ≡ length (bytes_after f e)
length_kept f e a = length_by f e a (eq-zero-or-pos (length (given e)))

module _ (key : List ℕ) (arm : ℕ) (st : State) (m : Machine) (h : Holds key arm st m) where
  holds-put : (s : Block) → Small s → (e : Edit) → edit_refusal (length m.bytes) e ≡ 0
      → Holds key arm (put st s (geometry_at st.n e).n) (with_bytes m (bytes_after m.bytes e))
  unfolding put with_bytes key_of
  holds-put s w e a =
      record {
        same_key = h.same_key;
        same_h = h.same_h;
        same_i = h.same_i;
        small-s = w;
        same_arm = h.same_arm;
        same_n = ap (λ (x : ℕ). (geometry_at x e).n) h.same_n ∙ length_kept m.bytes e a;
        same_last = h.same_last;
        short = rw (bytes_count m.bytes e a) (limit_kept (length m.bytes) e a);
        room = h.room;
      }

  -- document 01's table over the state's fields is the table over the machine's bytes
  summed_by : (e : Edit) → edit_refusal (length m.bytes) e ≡ 0 → NamesHeld m.bytes e → Summed key st m
      → (length (given e) ≡ 0) ⊎ (0 < length (given e))
      → sum_after st (kind_of e) (geometry_at (length m.bytes) e) (given e) (replacing e) ≡ sum (hash_key key) (bytes_after m.bytes e)
  unfolding sum_after
  summed_by e a t s (inl z) =
      rw (eq-eqb _ 0 (none-untouched (length m.bytes) e a z)) (s ∙ ap (sum (hash_key key)) (sym (nothing_kept m.bytes e a z)))
  summed_by e a t s (inr z) =
      rw (ne_eqb _ 0 (some-touched (length m.bytes) e a (λ y. omega arith)), geometry-some (length m.bytes) e a (λ y. omega arith))
      (rw (h.same_h, h.same_i, s) (sum_kept (hash_key key) m.bytes e (small-hash key) a (λ y. omega arith) t))

  summed-put : (e : Edit) → edit_refusal (length m.bytes) e ≡ 0 → NamesHeld m.bytes e → Summed key st m
      → sum_after st (kind_of e) (geometry_at st.n e) (given e) (replacing e) ≡ sum (hash_key key) (bytes_after m.bytes e)
  summed-put e a t s =
      ap (λ (x : ℕ). sum_after st (kind_of e) (geometry_at x e) (given e) (replacing e)) h.same_n
      ∙ summed_by e a t s (eq-zero-or-pos (length (given e)))

  -- ---- an accepted seal

  holds-numbered : (out : List ℕ) → seal_refusal (length m.bytes) m.last out ≡ 0
      → Holds key arm (numbered st (st.last + 1)) (with_last m (m.last + 1))
  unfolding numbered with_last key_of
  holds-numbered out a =
      record {
        same_key = h.same_key;
        same_h = h.same_h;
        same_i = h.same_i;
        small-s = h.small-s;
        same_arm = h.same_arm;
        same_n = h.same_n;
        same_last = ap (λ (x : ℕ). x + 1) h.same_last;
        short = h.short;
        room = seal-room (length m.bytes) m.last out a h.room;
      }

-- ---- any call

-- what the editor answers has to do with what the machine answers
pub record Agreed (key : List ℕ) (arm : ℕ) (st : State) (m : Machine) (c : Call) (a : CallAnswer) (b : MachineAnswer) : Type 0 where
  pub holds : Holds key arm a.state b.machine
  pub refusals : a.refusal ≡ b.refusal
  pub counts : a.count ≡ b.count
  pub within : a.count ≤ b.most
  pub issues : arm < 2 ^ 32 → a.issued ≡ b.issued
  pub summed : TrueCall m c → Summed key st m → Summed key a.state b.machine

module _ (key : List ℕ) (arm : ℕ) (st : State) (m : Machine) (h : Holds key arm st m) where
  -- both refuse by the same length and last used number
  pub same_refusal : (c : Call) → call_refusal st.n st.last c ≡ machine_refusal m c
  unfolding machine_refusal
  same_refusal c = ap₂ (λ (x y : ℕ). call_refusal x y c) h.same_n h.same_last

  agreed-refused : (c : Call) → Agreed key arm st m c (refused_call st c) (refused_by m (machine_refusal m c))
  unfolding refused_by
  agreed-refused c =
      record { holds = h; refusals = same_refusal c; counts = refl; within = zero-le; issues = λ w. refl; summed = λ t s. s }

  agreed-accepted : (c : Call) → machine_refusal m c ≡ 0 → Agreed key arm st m c (accepted_call st c) (accepted_by m c)
  unfolding accepted_by machine_refusal call_refusal TrueCall put numbered with_bytes with_last
  agreed-accepted (edit e) a =
      let counts = ap (λ (x : ℕ). count_of (geometry_at x e)) h.same_n in
      record {
        holds = holds-put key arm st m h _ (small_after st h.small-s _ _ _ _) e a;
        refusals = refl;
        counts = counts;
        within = rw counts (count-within (length m.bytes) e);
        issues = λ w. refl;
        summed = λ t s. summed-put key arm st m h e a (t a) s;
      }
  agreed-accepted (seal out) a =
      let same : seal_refusal st.n st.last out ≡ 0 = ap₂ (λ (x y : ℕ). seal_refusal x y out) h.same_n h.same_last ∙ a in
      record {
        holds = holds-numbered key arm st m h out a;
        refusals = refl;
        counts = refl;
        within = zero-le;
        issues = λ w. ap {B = List ℕ} (λ (x : ℕ). x ∷ [])
            (next_number st out same (rw h.same_arm w) (rw h.same_last h.room) ∙ ap (λ (x : ℕ). x + 1) h.same_last);
        summed = λ t s. s;
      }
  agreed-accepted (check slip) a =
      record { holds = h; refusals = refl; counts = refl; within = zero-le; issues = λ w. refl; summed = λ t s. s }

  agreed_by : (c : Call) → (machine_refusal m c ≡ 0) ⊎ (0 < machine_refusal m c) → Agreed key arm st m c (call_answer st c) (machine_answer m c)
  agreed_by c (inl z) = rw (call-accepted st c (same_refusal c ∙ z), machine-accepted m c z) (agreed-accepted c z)
  agreed_by c (inr z) =
      let some : machine_refusal m c ≢ 0 = λ y. omega arith in
      rw (call-refused st c (λ y. some (sym (same_refusal c) ∙ y)), machine-refused m c some) (agreed-refused c)

  pub agreed-call : (c : Call) → Agreed key arm st m c (call_answer st c) (machine_answer m c)
  agreed-call c = agreed_by c (eq-zero-or-pos (machine_refusal m c))

  -- so every call keeps the invariant
  pub holds_kept : (c : Call) → Holds key arm (call_answer st c).state (machine_answer m c).machine
  holds_kept c = (agreed-call c).holds
