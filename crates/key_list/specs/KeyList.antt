-- What request 03 comes to in a list of records: it is in the order of their first cells. Definitions only.
use Rattle.std.specs.Prelude.{ℕ, ◌≤◌, ◌<◌, ◌≡◌, List, ◌⊎◌, length, get_or, Ok}
use Rattle.header.specs.Numbers.{numbers_of, field_of, field_is}
use Rattle.header.specs.declared.kind.FieldKind.{FieldKind}
use Rattle.cell.specs.Amounts.{blank, amount_of, Compared, LessThan, AtMost, negative_zero, positive_zero, TwoZeros}
use Rattle.cell.specs.Locating.{cell_bytes}
use Rattle.cell.specs.Values.{Cell}
use Rattle.cell.specs.Reading.{cell_of, HasMeaning}
use Rattle.cell.specs.declared.value.Value.{Value}
use Rattle.cell.specs.declared.value.Value.TheVariants as Val
use Rattle.table.specs.Records.{Position}

-- a table has key fields, and the first of them is a date, a short, a long, a number or a currency
pub record ComparedKey (t : List ℕ) : Type 0 where
  pub keyed : 1 ≤ (numbers_of t).key_fields
  pub kind : FieldKind
  pub width : ℕ
  pub offset : ℕ
  pub field : field_of t (numbers_of t) 1 ≡ field_is kind width offset
  pub compared : Compared kind

-- record p comes before record q in a list
pub record Before (ps : List Position) (p q : Position) : Type 0 where
  pub first : ℕ
  pub second : ℕ
  pub earlier : first < second
  pub inside : second < length ps
  pub first_is : get_or ps first p ≡ p
  pub second_is : get_or ps second q ≡ q

-- what reading a record's first cell answers, and its bytes
abbrev pub first_cell : List ℕ → Position → Cell
first_cell t p = cell_of t p.block p.place 1

abbrev pub first_bytes : List ℕ → Position → List ℕ
first_bytes t p = cell_bytes t p.block p.place 1

-- a list of a table's records is in the order of their first cells
pub record ByFirstCell (t : List ℕ) (ps : List Position) : Type 0 where
  -- of two records whose first cells read as values the earlier one's is not greater
  pub ascends : (p q : Position) → Before ps p q → (v w : Value) → first_cell t p ≡ Ok v → first_cell t q ≡ Ok w →
      AtMost (amount_of v) (amount_of w)
  -- zero does not come before negative zero, which is equal
  pub negative_zero_first : (p q : Position) → Before ps p q → (v w : Value) → first_cell t p ≡ Ok v →
      first_cell t q ≡ Ok w → amount_of v ≡ positive_zero → amount_of w ≡ negative_zero → ⊥
  -- where the first key field is the only one, it is less, except for the two zeros, which are neighbours
  pub strictly : (numbers_of t).key_fields ≡ 1 → (p q : Position) → Before ps p q → (v w : Value) →
      first_cell t p ≡ Ok v → first_cell t q ≡ Ok w →
      LessThan (amount_of v) (amount_of w) ⊎ TwoZeros (amount_of v) (amount_of w) (first_bytes t p) (first_bytes t q)
  -- blank ones stand first of all: before one of them are no others
  pub blanks_first : (p q : Position) → Before ps p q → first_cell t q ≡ Ok Val.Blank → first_cell t p ≡ Ok Val.Blank
  -- those without a meaning stand at the ends: one between two that are numbers has a meaning
  pub unbroken : (p q r : Position) → Before ps p q → Before ps q r → (v w : Value) → first_cell t p ≡ Ok v →
      first_cell t r ≡ Ok w → LessThan blank (amount_of v) → HasMeaning (first_cell t q)
