-- A lookup's answer as one number, and what is read back from it. Definitions only.
use Rattle.std.specs.Prelude.{ℕ, ◌+◌, ◌*◌, ◌/◌, ◌%◌, ◌≡◌, List}
use Rattle.lookup.specs.Found.{Lookup}
use Rattle.scan.specs.Scan.{scan_lookup}
use Rattle.index.specs.Walk.{walk_numbers}

-- bits 0 to 7 the refusal's number, 8 to 15 whether the key was found, 16 to 31 the block, 32 to 47 the place, 48 to
-- 63 the index blocks read
unfoldable pub packed : Lookup → ℕ → ℕ
packed l reads = l.refusal + 0x100 * l.found + 0x10000 * l.block + 0x100000000 * l.place + 0x1000000000000 * reads

-- ---- each part read back

unfoldable pub refusal_in : ℕ → ℕ
refusal_in answer = answer % 0x100

unfoldable pub found_in : ℕ → ℕ
found_in answer = answer / 0x100 % 0x100

unfoldable pub block_in : ℕ → ℕ
block_in answer = answer / 0x10000 % 0x10000

unfoldable pub place_in : ℕ → ℕ
place_in answer = answer / 0x100000000 % 0x10000

unfoldable pub reads_in : ℕ → ℕ
reads_in answer = answer / 0x1000000000000 % 0x10000

-- each part of a lookup, and the index blocks read, come back from a number
pub record Unpacked (answer : ℕ) (l : Lookup) (reads : ℕ) : Type 0 where
  pub refusal : refusal_in answer ≡ l.refusal
  pub found : found_in answer ≡ l.found
  pub block : block_in answer ≡ l.block
  pub place : place_in answer ≡ l.place
  pub reads_back : reads_in answer ≡ reads

-- ---- the two lookups

-- what the scan answers, packed
abbrev pub packed_scan : List ℕ → List ℕ → ℕ → ℕ
packed_scan t key room = packed (scan_lookup t key room) 0

-- and that each part of it comes back
abbrev pub ScanUnpacked : List ℕ → List ℕ → ℕ → ℕ → Type 0
ScanUnpacked t key room answer = Unpacked answer (scan_lookup t key room) 0

-- what the walk answers, packed
abbrev pub packed_walk : List ℕ → List ℕ → List ℕ → ℕ
packed_walk t x key = packed (walk_numbers t x key).0 (walk_numbers t x key).1

-- and that each part of it comes back
abbrev pub WalkUnpacked : List ℕ → List ℕ → List ℕ → ℕ → Type 0
WalkUnpacked t x key answer = Unpacked answer (walk_numbers t x key).0 (walk_numbers t x key).1
