-- What a lookup is to find, as plain propositions. Definitions only.
use Rattle.std.specs.Prelude.{ℕ, ◌<◌, ◌≡◌, List, length, get_or}
use Rattle.header.specs.declared.Header.{Header}
use Rattle.blocks.specs.Shape.{shape_of}
use Rattle.table.specs.Records.{Position, records_of}
use Rattle.table.specs.Keys.{key_at}
use Rattle.lookup.specs.Found.{Lookup}

-- a record of the table, in chain order, whose key is the one sought
pub record HasKey (t : List ℕ) (h : Header) (key : List ℕ) (p : Position) : Type 0 where
  pub index : ℕ
  pub inside : index < length (records_of t h)
  pub there : get_or (records_of t h) index p ≡ p
  pub same : key_at t (shape_of h) h.key_length p ≡ key

-- what a lookup's numbers say of the records: it is not refused; absent exactly when no record has the key, found
-- exactly when one has it, and then it is that record
pub record Finds (t : List ℕ) (h : Header) (key : List ℕ) (l : Lookup) : Type 0 where
  pub accepted : l.refusal ≡ 0
  pub absent_gives : l.found ≡ 0 → (p : Position) → HasKey t h key p → ⊥
  pub absent_takes : ((p : Position) → HasKey t h key p → ⊥) → l.found ≡ 0
  pub found_gives : l.found ≡ 1 → HasKey t h key (record { block = l.block; place = l.place })
  pub found_takes : (p : Position) → HasKey t h key p →
      (l.found ≡ 1) × (l.block ≡ p.block) × (l.place ≡ p.place)

-- no place is handed out: the key is not found, and block and place are 0
abbrev pub NoPlace : Lookup → Type 0
NoPlace l = (l.found ≡ 0) × (l.block ≡ 0) × (l.place ≡ 0)
