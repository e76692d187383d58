-- What opening a table answers, by what reading its header answers. Definitions only.
use Rattle.std.specs.Prelude.{Result, Ok, Err}
use Rattle.header.specs.declared.Header.{Header}
use Rattle.header.specs.declared.table.Table.{Table}
use Rattle.header.specs.declared.refusal.Refusal.{Refusal}

-- the header of the table that was opened, or the refusal
abbrev pub header_in : Result Table Refusal → Result Header Refusal
header_in (Ok table) = Ok table.header
header_in (Err refusal) = Err refusal
