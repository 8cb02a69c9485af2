-- `planes::moves::turned` meets its contract. The code's words are the moves `turning`, of which each bit has one source.
use mathlib.Core.Path.{◌≡◌, ap, ◌∙◌}
use mathlib.Core.List.{List, [], ◌∷◌}
use Prim.Native.Nat.{ℕ}
use Rattle.planes.specs.Tables.{grow, tab, at}
use Rattle.planes.specs.Substitution.{bit}
use Rattle.planes.specs.Lanes.{planes}
use Rattle.planes.proofs.BitMoves.{made, turning, exchanged, either, bit-turned}
use Rattle.planes.proofs.moves.turned.Goals as goal

pub returns : goal.returns
unfolding made turning exchanged either tab grow
returns c j i hj hi =
    let p0 = c.exchanged-p0.result in
    let p1 = c.exchanged-p1.result in
    let p2 = c.exchanged-p2.result in
    let p3 = c.exchanged-p3.result in
    let words : p0.0 ∷ p1.0 ∷ p2.0 ∷ p3.0 ∷ p0.1 ∷ p1.1 ∷ p2.1 ∷ p3.1 ∷ [] ≡ tab 8 (λ k. made (planes c.args.w) (turning k)) =
    rw (
      c.exchanged-p0.ensures.first,
      c.exchanged-p0.ensures.second,
      c.exchanged-p1.ensures.first,
      c.exchanged-p1.ensures.second,
      c.exchanged-p2.ensures.first,
      c.exchanged-p2.ensures.second,
      c.exchanged-p3.ensures.first,
      c.exchanged-p3.ensures.second,
      c.exchanged-b0.ensures.first,
      c.exchanged-b0.ensures.second,
      c.exchanged-b1.ensures.first,
      c.exchanged-b1.ensures.second,
      c.exchanged-b4.ensures.first,
      c.exchanged-b4.ensures.second,
      c.exchanged-b5.ensures.first,
      c.exchanged-b5.ensures.second,
      c.exchanged-a0.ensures.first,
      c.exchanged-a0.ensures.second,
      c.exchanged-a2.ensures.first,
      c.exchanged-a2.ensures.second,
      c.exchanged-a4.ensures.first,
      c.exchanged-a4.ensures.second,
      c.exchanged-a6.ensures.first,
      c.exchanged-a6.ensures.second,
    )
    in
    ap (λ (l : List ℕ). bit (at l j) i) words ∙ bit-turned (planes c.args.w) j i hj hi
