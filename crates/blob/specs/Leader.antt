-- A blob's cell of w bytes at a place in the table: its leader, then offset, length and modification number, low byte
-- first. Offset and length are unsigned; the modification number is not judged. Definitions only.
use Rattle.std.specs.Prelude.{ℕ, ◌+◌, ◌-◌, List}
use Rattle.words.specs.Numbers.{long}

-- the bytes behind the leader: 4 of the offset, 4 of the length, 2 of the modification number
abbrev pub behind_leader : ℕ
behind_leader = 10

-- the leader's size
abbrev pub leader_size : ℕ → ℕ
leader_size w = w - behind_leader

-- the offset: a block of the MB file and, in its low byte, which blob of the block
abbrev pub offset_at : List ℕ → ℕ → ℕ → ℕ
offset_at t at w = long t (at + leader_size w)

-- the blob's length in bytes
abbrev pub length_at : List ℕ → ℕ → ℕ → ℕ
length_at t at w = long t (at + leader_size w + 4)
