-- The top bit of a number of w bytes: complemented, and as a sign. Definitions only.
use Rattle.std.specs.Prelude.{ℕ, suc, ◌+◌, ◌-◌, ◌/◌, ◌^◌, cond, leb, ltb, ℤ, pos, negsuc}

-- what the top bit of w bytes counts for: half of what they can count
abbrev pub half : ℕ → ℕ
half w = 256 ^ w / 2

-- a number with its top bit complemented
unfoldable pub complemented : ℕ → ℕ → ℕ
complemented top n = cond (leb top n) (n - top) (n + top)

-- a number read as signed: where its top bit is set, twice that bit less. negsuc k is -(k + 1)
unfoldable pub signed : ℕ → ℕ → ℤ
signed top n = cond (ltb n top) (pos n) (negsuc (top + top - suc n))

-- a signed number with the top bit added
abbrev pub shifted : ℕ → ℤ → ℕ
shifted top (pos m) = m + top
shifted top (negsuc m) = top - suc m
