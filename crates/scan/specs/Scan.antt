-- The scan: the table check, then 13, then the record whose key equals the one sought. Definitions only.
use Rattle.std.specs.Prelude.{ℕ, cond, List, [], ◌∷◌, ◌++◌, Option, Result, Ok, Err}
use Rattle.header.specs.declared.refusal.Refusal.{Refusal}
use Rattle.header.specs.declared.refusal.Refusal.TheVariants.{BadArgument}
use Rattle.header.specs.Numbers.{numbers_of}
use Rattle.header.specs.declared.Header.{Header}
use Rattle.blocks.specs.Shape.{shape_of}
use Rattle.table.specs.Records.{records_of}
use Rattle.table.specs.Table.{table_refusals, table_first, table_marks}
use Rattle.lookup.specs.Found.{Lookup, lookup_of}
use Rattle.lookup.specs.Sought.{key_fits, first_with}
use Rattle.lookup.specs.declared.found.Found.{Found}

-- 13, or the first such record among those of a table in chain order
unfoldable pub scan_in : List ℕ → Header → List ℕ → Result (Option Found) Refusal
scan_in t h key = cond (key_fits h key) (Ok (first_with t (shape_of h) key (records_of t h))) (Err BadArgument)

-- what scanning answers, for any bytes, any key and a mark buffer of `room` bytes
unfoldable pub scan_of : List ℕ → List ℕ → ℕ → Result (Option Found) Refusal
scan_of t key room = table_first t room Err (scan_in t (numbers_of t) key)

-- the same in document 01's numbers
unfoldable pub scan_lookup : List ℕ → List ℕ → ℕ → Lookup
scan_lookup t key room = lookup_of (scan_of t key room)

-- its refusals: the table check's, then 13
unfoldable pub scan_refusals : List Refusal
scan_refusals = table_refusals ++ BadArgument ∷ []

-- what scanning leaves in the mark buffer: what the table check does, also where 13, absent or a record is the answer
abbrev pub scan_marks : List ℕ → List ℕ → List ℕ
scan_marks t m = table_marks t m
