-- What two tables, each with the numbers of a header, are to have in common for the table check to answer alike.
-- Definitions only.
use Rattle.std.specs.Prelude.{ℕ, ◌<◌, ◌≡◌, List, Some}
use Rattle.header.specs.declared.Header.{Header}
use Rattle.blocks.specs.Shape.{shape_of}
use Rattle.blocks.specs.Counts.{count_in}
use Rattle.table.specs.Keys.{key_at}

-- the same count of every block, and the same record count in the header
pub record SameCounts (t : List ℕ) (h : Header) (u : List ℕ) (k : Header) : Type 0 where
  pub count : (b : ℕ) → count_in u (shape_of k) b ≡ count_in t (shape_of h) b
  pub records : k.records ≡ h.records

-- the same key of every record that a block counts, and the same number of key fields
pub record SameKeys (t : List ℕ) (h : Header) (u : List ℕ) (k : Header) : Type 0 where
  pub fields : k.key_fields ≡ h.key_fields
  pub keys : (b n i : ℕ) → count_in t (shape_of h) b ≡ Some n → i < n →
      key_at u (shape_of k) k.key_length (record { block = b; place = i })
      ≡ key_at t (shape_of h) h.key_length (record { block = b; place = i })
