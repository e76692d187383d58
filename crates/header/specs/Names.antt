-- The name of a field, as the part of the table it is. Fields count from 1. Definitions only.
use Rattle.std.specs.Prelude.{ℕ, ◌-◌, cond, ◌&&◌, List, [], leb, Result, Ok, Err}
use Rattle.words.specs.Order.{range}
use Rattle.words.specs.declared.part.Part.{Part}
use Rattle.header.specs.Fields.{name_length, name_start}
use Rattle.header.specs.Numbers.{numbers_of}
use Rattle.header.specs.Answers.{header_first}
use Rattle.header.specs.declared.Header.{Header}
use Rattle.header.specs.declared.refusal.Refusal.{Refusal}
use Rattle.header.specs.declared.refusal.Refusal.TheVariants.{BadArgument}

-- the name at a place: its length is without the ending zero
abbrev pub name_at : List ℕ → ℕ → Result Part Refusal
name_at t at = Ok (record { start = at; len = name_length t at })

-- the name of field f by the header's numbers; 13 for no such field
unfoldable pub name_in : List ℕ → Header → ℕ → Result Part Refusal
name_in t h f = cond (leb 1 f && leb f h.fields) (name_at t (name_start t (f - 1) h.names)) (Err BadArgument)

-- 1 to 7 first, for any bytes
unfoldable pub name_of : List ℕ → ℕ → Result Part Refusal
name_of t f = header_first t Err (name_in t (numbers_of t) f)

-- the bytes of a name; none where it is refused
unfoldable pub name_bytes : List ℕ → Result Part Refusal → List ℕ
name_bytes t (Ok part) = range t part.start part.len
name_bytes t (Err refusal) = []

-- where it begins in the table; 0 where it is refused
unfoldable pub name_begin : Result Part Refusal → ℕ
name_begin (Ok part) = part.start
name_begin (Err refusal) = 0
