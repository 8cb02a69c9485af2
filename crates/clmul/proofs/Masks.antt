-- The masks of the digits to the base 16, as code writes them.
use Rattle.std.specs.Prelude.{ℕ}

-- of eight digits
abbrev pub eight : ℕ
eight = 0x11111111

-- of fifteen digits
abbrev pub fifteen : ℕ
fifteen = 0x0111111111111111
