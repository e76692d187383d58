-- What a lookup answers, in document 01's numbers. Definitions only.
use Rattle.std.specs.Prelude.{ℕ, Option, Some, None, Result, Ok, Err}
use Rattle.header.specs.Refusals.{number}
use Rattle.header.specs.declared.refusal.Refusal.{Refusal}
use Rattle.lookup.specs.declared.found.Found.{Found}

-- the numbers of a lookup: the refusal's, 1 where the key was found, and its record's block and place. A refusal has
-- its number only; absent has block and place 0
pub record Lookup : Type 0 where
  pub refusal : ℕ
  pub found : ℕ
  pub block : ℕ
  pub place : ℕ

unfoldable pub lookup_of : Result (Option Found) Refusal → Lookup
lookup_of (Ok (Some found)) = record { refusal = 0; found = 1; block = found.block; place = found.place }
lookup_of (Ok None) = record { refusal = 0; found = 0; block = 0; place = 0 }
lookup_of (Err r) = record { refusal = number r; found = 0; block = 0; place = 0 }

-- a record is found, by its block and place
abbrev pub found_at : ℕ → ℕ → Option Found
found_at b p = Some (record { block = b; place = p })
