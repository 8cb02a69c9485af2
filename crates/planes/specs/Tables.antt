-- Lists that are built from the front, as the loops of FIPS 197 fill an array.
use Rattle.std.specs.Prelude.{List, [], ◌∷◌, ◌++◌, ℕ, zero, suc, get_or}

-- n elements, each computed from the list of those before it and from its place (as FIPS 197, 5.2, Algorithm 2 fills w)
unfoldable pub grow : {A : Type 0} → (List A → ℕ → A) → ℕ → List A
grow g zero = []
grow g (suc n) = grow g n ++ (g (grow g n) n ∷ [])

-- f 0, f 1, .., f (n − 1) (as FIPS 197, 5.1.1 to 5.1.4 give the bytes of a state)
unfoldable pub tab : {A : Type 0} → ℕ → (ℕ → A) → List A
unfolding grow
tab n f = grow (λ before i. f i) n

-- the byte at place i of a list, counted from 0 (FIPS 197, 3.3)
abbrev pub at : List ℕ → ℕ → ℕ
at s i = get_or s i 0
