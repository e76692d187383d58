-- What the functions that put a line together say of each other. Definitions only.
use Rattle.std.specs.Prelude.{ℕ, ◌+◌, ◌≤◌, ◌≡◌, true, List, ◌∷◌, length, Ok, Err}
use Rattle.std.specs.Float.Ieee.Scale.{finite}
use Rattle.cell.specs.Values.{Cell, content_of, answer_of}
use Rattle.cell.specs.declared.value.Value.{Value}
use Rattle.cell.specs.declared.value.Value.TheVariants as Val
use Rattle.listing.specs.Listing.{bar, cell_text}

-- the text of a value
abbrev pub value_text : List ℕ → Value → List ℕ
value_text t v = cell_text (0, content_of t v)

-- a bar and the text of a cell
abbrev pub barred_text : List ℕ → Cell → List ℕ
barred_text t c = bar ∷ cell_text (answer_of t c)

-- a value that a cell of these bytes can be: a finite number, a text inside them
unfoldable pub Printable : List ℕ → Value → Type 0
Printable t Val.Blank = Unit {0}
Printable t (Val.Short z) = Unit {0}
Printable t (Val.Long z) = Unit {0}
Printable t (Val.Date d) = Unit {0}
Printable t (Val.Number x) = finite x ≡ true
Printable t (Val.Logical b) = Unit {0}
Printable t (Val.Text start len) = start + len ≤ length t

-- the same of a cell
unfoldable pub PrintableCell : List ℕ → Cell → Type 0
PrintableCell t (Ok v) = Printable t v
PrintableCell t (Err refusal) = Unit {0}
