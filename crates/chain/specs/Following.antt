-- A chain followed with marks: what following it tests, and leaves in the marks. No rule is stated here. Definitions
-- only.
use Rattle.std.specs.Prelude.{ℕ, ◌-◌, Bool, true, ◌&&◌, List, [], ◌∷◌, set}
use Rattle.chain.specs.Marks.{is_unmarked}

-- block b may come after another: it has no mark, and the test takes the two
abbrev pub takes : (ℕ → ℕ → Bool) → List ℕ → ℕ → ℕ → Bool
takes test m before b = is_unmarked m b && test before b

-- each block of a chain may come after the one before it, where those passed have the mark
unfoldable pub takes_all : (ℕ → ℕ → Bool) → ℕ → ℕ → List ℕ → List ℕ → Bool
takes_all test mark before [] m = true
takes_all test mark before (b ∷ bs) m = takes test m before b && takes_all test mark b bs (set m (b - 1) mark)

-- the marks after a chain
unfoldable pub marked : ℕ → List ℕ → List ℕ → List ℕ
marked mark [] m = m
marked mark (b ∷ bs) m = marked mark bs (set m (b - 1) mark)

-- any two blocks: in the free chain previous is not judged
abbrev pub any_two : ℕ → ℕ → Bool
any_two before b = true
