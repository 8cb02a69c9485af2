-- A call's refusal, read off the list of its causes in their order (document 01, "Causes and their numbers").
use Rattle.std.specs.Prelude.{Bool, cond, List, [], ◌∷◌, ℕ}

-- the number of the first cause that holds, and 0 where none does (document 01, "Causes and their numbers": "Order"). A cause stands in the
-- list as whether it holds and its number.
unfoldable pub first : List (Bool × ℕ) → ℕ
first [] = 0
first (cause ∷ rest) = cond cause.0 cause.1 (first rest)
