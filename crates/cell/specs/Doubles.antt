-- A double and the number that a cell stores for it: document 02's rule for number and currency (request 02).
-- Definitions only.
use Rattle.std.specs.Prelude.{ℕ, ◌+◌, ◌-◌, cond, leb, Float}
use Rattle.std.specs.Float.{binary64}
use Rattle.std.specs.Float.Ieee.{of_bits, to_bits}
use Rattle.words.specs.Signed.{half}

-- a number with all its bits complemented; its top bit counts for `top`
abbrev pub all_complemented : ℕ → ℕ → ℕ
all_complemented top n = top + top - 1 - n

-- the bits that a stored number means: with top bit 1 that bit is cleared, with top bit 0 all bits are complemented
unfoldable pub meant_bits : ℕ → ℕ → ℕ
meant_bits top n = cond (leb top n) (n - top) (all_complemented top n)

-- and back, by the sign bit: with top bit 1 all bits are complemented, with top bit 0 that bit is set
unfoldable pub stored_bits : ℕ → ℕ → ℕ
stored_bits top b = cond (leb top b) (all_complemented top b) (b + top)

-- the double that a stored number of w bytes means
unfoldable pub double_of : ℕ → ℕ → Float
double_of w n = of_bits binary64 (meant_bits (half w) n)

-- the number of w bytes that a double is stored as
unfoldable pub stored_double : ℕ → Float → ℕ
stored_double w x = stored_bits (half w) (to_bits binary64 x)
