-- `clmul::sixteen::sum_of_products` meets its contract: Karatsuba's rule on the sums of the rows, and on what that makes. Rests on RowLaws.
use mathlib.Core.Path.{◌≡◌}
use Prim.Native.Nat.{ℕ, ◌*◌}
use Rattle.std.proofs.Common.{rules}
use Rattle.clmul.specs.Carryless.{total}
use Rattle.clmul.specs.Tables.{MixturesIn}
use Rattle.clmul.proofs.FromFn.{each_made}
use Rattle.clmul.proofs.RowLaws.{products, products_total}
use Rattle.clmul.proofs.sixteen.sum_of_products.Goals as goal

pub returns : goal.returns
unfolding total
returns c =
    let x = c.args.x.now in
    let t = c.args.t.now in
    products_total c.from_fn-p.result (λ w l.
    each_made _ _ (λ w v. (y : ℕ → ℕ) → MixturesIn y t → v ≡ total (products x y (16 * w)) 16)
    (λ w v f' k. (search rules, λ y m. search rules)) c.from_fn-p.ensures.items w 0 l)
    c.joined_halves-h.ensures c.joined_halves-l.ensures c.joined_halves-m.ensures
    c.joined_words.ensures
