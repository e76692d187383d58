-- A part of some bytes replaced by as many others. Definitions only.
use Rattle.std.specs.Prelude.{ℕ, ◌+◌, List, ◌++◌, length, take, drop}

-- the bytes t with the bytes s in the place of as many from an offset on
unfoldable pub replace_at : List ℕ → ℕ → List ℕ → List ℕ
replace_at t at s = take at t ++ (s ++ drop (at + length s) t)
