-- What serves contracts alone and stands in no standard: planes of bits, Karatsuba's rule, and the mixtures that products of halves are made of.
use Rattle.std.specs.Prelude.{List, [], ◌∷◌, ℕ, zero, suc, get_or, ◌+◌, ◌*◌, ◌/◌, ◌%◌, ◌^◌}
use Rattle.clmul.specs.Xor.{xor}

-- of the n low digits of v to the base 16 the last bits, where they stand: every fourth bit of v
unfoldable pub plane : ℕ → ℕ → ℕ
plane zero v = 0
plane (suc n) v = plane n (v / 16) * 16 + v % 2

-- Karatsuba's rule: the product of two numbers cut k bits from the right, from the product h of their high parts, the product l of their low
-- parts and the product m of the sums of both
unfoldable pub karatsuba : ℕ → ℕ → ℕ → ℕ → ℕ
karatsuba k h l m = xor (h * 2 ^ (k + k)) (xor (xor (xor m h) l * 2 ^ k) l)

-- the n values of f from r on
unfoldable pub listed : (ℕ → ℕ) → ℕ → ℕ → List ℕ
listed f r zero = []
listed f r (suc n) = f r ∷ listed f (suc r) n

-- the four planes of the 32 low bits of x, and planes of sums, which are the sums of planes that Karatsuba's rule multiplies
unfoldable pub mixtures_of : ℕ → List ℕ
mixtures_of x =
    plane 8 x ∷ plane 8 (x / 2) ∷ plane 8 (x / 4) ∷ plane 8 (x / 8) ∷ plane 8 (xor (x / 2) x) ∷ plane 8 (xor (x / 8) (x / 4)) ∷
    plane 8 (xor (x / 4) x) ∷ plane 8 (xor (x / 8) (x / 2)) ∷ plane 8 (xor (xor (x / 8) (x / 2)) (xor (x / 4) x)) ∷ []

-- t with the integer products of two numbers' mixtures added, each read by its 32 low bits
unfoldable pub added_to : List ℕ → List ℕ → List ℕ → List ℕ
added_to t x y = listed (λ j. xor (get_or t j 0) (get_or x j 0 % 2 ^ 32 * (get_or y j 0 % 2 ^ 32))) 0 9

-- the number whose product's mixtures these are: Karatsuba's rule twice, on the used bits of the fifteen digits
unfoldable pub unmixed : List ℕ → ℕ
unmixed t =
    karatsuba 2
    (karatsuba 1 (plane 15 (get_or t 3 0)) (plane 15 (get_or t 2 0)) (plane 15 (get_or t 5 0)))
    (karatsuba 1 (plane 15 (get_or t 1 0)) (plane 15 (get_or t 0 0)) (plane 15 (get_or t 4 0)))
    (karatsuba 1 (plane 15 (get_or t 7 0)) (plane 15 (get_or t 6 0)) (plane 15 (get_or t 8 0)))
