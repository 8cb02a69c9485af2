-- The edits: the table's rows as factors, the new sum, and an edit asked for, one law for each return. They rest on the laws
-- of lengths (`Accepted`, `ShapeLaws`) and on Horner's rule and the ring's laws of the field.
use mathlib.Core.Path.{◌≡◌, sym, ap, ap₂, ◌∙◌}
use mathlib.Core.Logic.{◌⊎◌, inl, inr}
use mathlib.Core.List.{List, [], ◌++◌}
use Prim.Native.Nat.{ℕ, ◌+◌, ◌%◌, ◌≤◌, ◌<◌, ◌^◌, max}
use native.Mathlib.Omega.{arith}
use lib.ListN.{length, replicate, length-append, length-replicate}
use borrow.Author.Tests.{ne_eqb}
use Rattle.field.specs.declared.blocks.Block.{Block}
use Rattle.field.specs.declared.multiplying.Count.{Count}
use Rattle.field.specs.declared.multiplying.Counted.{Counted}
use Rattle.field.specs.Field.{◌⊕◌, ◌•◌, power, steps, blocks, sum, xor_bytes, Yᵢ, counted}
use Rattle.field.proofs.Values.{words, zero-words}
use Rattle.field.proofs.Ring.{⊕-comm, ⊕-zero, small-•}
use Rattle.field.proofs.BlockCounts.{blocks-value}
use Rattle.field.proofs.Horner.{horner}
use Rattle.field.proofs.XorBytes.{length-xor-max}
use Rattle.file.specs.declared.causes.Cause.{Cause}
use Rattle.file.specs.declared.geometry.Kind.{Kind}
use Rattle.file.specs.declared.geometry.Kind.TheVariants.{Change, Prepend, DropFront, CutTail}
use Rattle.file.specs.declared.geometry.Shape.{Shape}
use Rattle.std.specs.Prelude.{Result, Ok, Err}
use Rattle.file.specs.declared.edits.Factors.{Factors}
use Rattle.file.specs.declared.edits.Moved.{Moved}
use Rattle.file.specs.declared.states.State.{State}
use Rattle.file.specs.Edits.{Geometry, geometry, kind_refusal, stands_on, length_after, touched, exponent, count_of}
use Rattle.file.specs.Table.{placed_sum, new_sum}
use Rattle.file.specs.States.{AskAnswer, sum_after, asked_by}
use Rattle.file.specs.Clauses.{geometry_of, asked_of}
use Rattle.file.proofs.Accepted.{accepted_as}
use Rattle.file.proofs.ShapeLaws.{reach, touched-blocks, touched-some, geometry-refusal, geometry-fits, geometry-nothing}

-- ---- the table's rows as factors

module _ {kind : Kind} (h i s w : Block) where
  pub factors-shifted : (kind ≡ Change) ⊎ (kind ≡ Prepend) ⊎ (kind ≡ DropFront) → (k : ℕ) → w • power h k ⊕ s ≡ new_sum kind h i s w k
  unfolding new_sum
  factors-shifted (inl q) k = rw q (⊕-comm (w • power h k) s)
  factors-shifted (inr (inl q)) k = rw q (⊕-comm (w • power h k) s)
  factors-shifted (inr (inr q)) k = rw q (⊕-comm (w • power h k) s)

  pub factors-cut : {y : Block} → kind ≡ CutTail → y ≡ s ⊕ w → (k : ℕ) → y • power i k ⊕ words 0 0 ≡ new_sum kind h i s w k
  unfolding new_sum
  factors-cut q e k = rw (q, e, zero-words) (⊕-zero ((s ⊕ w) • power i k) (small-• (s ⊕ w) (power i k)))

-- ---- the new sum

-- w is what the fold over the placed bytes gives, f the factors of w, t their product with a power, and r the new sum
pub moved_sum : (kind : Kind) (h i s : Block) (placed : List ℕ) (q k : ℕ) (f : Factors) {w t : Counted} {c d : ℕ} {r : Block}
    → q ≡ blocks (length placed) → w ≡ counted (Yᵢ h (words 0 0) placed q) c
    → ((j : ℕ) → f.x • power f.base j ⊕ f.added ≡ new_sum kind h i s w.value j)
    → t ≡ counted (f.x • power f.base k) d → r ≡ t.value ⊕ f.added
    → r ≡ new_sum kind h i s (sum h placed) k
moved_sum kind h i s placed q k f {w} eq ew ef et er =
    let all : w.value ≡ sum h placed =
    ap (λ (c : Counted). c.value) ew ∙ ap₂ (λ (z : Block) (j : ℕ). Yᵢ h z placed j) zero-words eq ∙ horner h placed in
    er ∙ ap (λ (c : Counted). c.value ⊕ f.added) et ∙ ef k ∙ ap (λ (v : Block). new_sum kind h i s v k) all

-- ---- an edit asked for

-- an answer is that of an edit of a kind, at p, with given bytes a and of a change new bytes b
abbrev Asks : (st : State) (kind : Kind) (p : ℕ) (a b : List ℕ) → AskAnswer → Type 0
Asks st kind p a b x = x ≡ asked_by st kind (geometry kind p (length a) (length b) st.n) a b

pub ask_refused : (st : State) (kind : Kind) (p : ℕ) (a b : List ℕ) (c : Cause)
    → geometry_of st.n (Err c) ≡ geometry kind p (length a) (length b) st.n → Asks st kind p a b (asked_of st (Err c))
unfolding asked_by sum_after count_of
ask_refused st kind p a b c e = rw (← e)

module _ (st : State) (kind : Kind) (p : ℕ) (a b : List ℕ) {m : Result Shape Cause}
    (e : geometry_of st.n m ≡ geometry kind p (length a) (length b) st.n) where
  module _ {x : Shape} (g : m ≡ Ok x) where
    pub fits-refusal : kind_refusal kind p (length a) (length b) st.n ≡ 0
    fits-refusal =
        sym (geometry-refusal kind p (length a) (length b) st.n) ∙ sym (ap (λ (y : Geometry). y.refusal) e)
        ∙ ap (λ (y : Result Shape Cause). (geometry_of st.n y).refusal) g

    pub ask-nothing : {none : Count} → length a ≡ 0 → none.raised ≡ 0
        → Asks st kind p a b (asked_of st (Ok (record { s = st.s; n = st.n; count = none })))
    unfolding asked_by sum_after count_of
    ask-nothing z c = rw (sym (geometry-nothing kind p (length a) (length b) st.n fits-refusal z), c)

    module _ (z : 0 < length a) where
      fits-shape :
          geometry_of st.n (Ok x) ≡ record {
            refusal = 0;
            lead = stands_on kind p (length a) st.n % 16;
            q = touched (stands_on kind p (length a) st.n) (length a);
            k = exponent kind p (length a) st.n;
            n = length_after kind (length a) st.n;
          }
      fits-shape = sym (ap (geometry_of st.n) g) ∙ e ∙ geometry-fits kind p (length a) (length b) st.n fits-refusal z

      -- the blocks of an accepted edit's shape are those of its placed bytes, and few enough to count
      pub fits-placed : (kind ≡ Change) ⊎ (b ≡ [])
          → (x.q ≡ blocks (length (replicate x.lead 0 ++ xor_bytes a b))) × (x.q ≤ 2 ^ 59)
      fits-placed f =
          let lead = ap (λ (y : Geometry). y.lead) fits-shape in
          let q = ap (λ (y : Geometry). y.q) fits-shape in
          let blocks-are = touched-blocks (stands_on kind p (length a) st.n) (length a) z in
          let few = blocks-value (stands_on kind p (length a) st.n % 16 + length a) in (
            rw (length-append, length-replicate, length-xor-max, longer f, lead, q) blocks-are,
            omega (arith, q, blocks-are, few, reach kind p (length a) (length b) st.n fits-refusal),
          )
        where
          longer : (kind ≡ Change) ⊎ (b ≡ []) → max (length a) (length b) ≡ length a
          longer (inl k) = omega (arith, accepted_as Change p (length a) (length b) st.n k fits-refusal)
          longer (inr k) = rw k (omega arith)

      pub ask_done : {v : Moved}
          → v.s ≡ new_sum kind st.h st.i st.s (sum st.h (replicate x.lead 0 ++ xor_bytes a b)) x.k
          → v.n ≡ x.n → v.count.raised ≡ x.q + steps x.k + 1 → Asks st kind p a b (asked_of st (Ok v))
      unfolding asked_by sum_after placed_sum count_of
      ask_done es en ec =
          let some = ne_eqb x.q 0 (λ (y : x.q ≡ 0). touched-some _ _ z (sym (ap (λ (w : Geometry). w.q) fits-shape) ∙ y)) in
          rw (sym e ∙ ap (geometry_of st.n) g) (simp some (rw (es, en, ec)))
