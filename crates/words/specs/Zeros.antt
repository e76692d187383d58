-- Zero bytes at an offset of a file. Definitions only.
use Rattle.std.specs.Prelude.{ℕ, zero, suc, ◌+◌, Bool, cond, List, eqb}
use Rattle.words.specs.Each.{each}
use Rattle.words.specs.Numbers.{byte}

-- the n bytes at an offset are all zero
abbrev pub all_zero : List ℕ → ℕ → ℕ → Bool
all_zero s at n = each (λ (i : ℕ). eqb (byte s (at + i)) 0) n

-- how many of the next m bytes stand before the first zero; m where there is no zero
unfoldable pub before_zero : List ℕ → ℕ → ℕ → ℕ
before_zero s at zero = 0
before_zero s at (suc m) = cond (eqb (byte s at) 0) 0 (suc (before_zero s (suc at) m))
