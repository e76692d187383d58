-- The values of document 01's cells, and what each case of the enum stands for. Definitions only.
use Rattle.std.specs.Prelude.{ℕ, ◌+◌, ◌≡◌, Bool, true, cond, List, [], leb, ℤ, Float, length, Result, Ok, Err}
use Rattle.std.specs.Float.Ieee.{fits}
use Rattle.std.specs.Float.{binary64}
use Rattle.words.specs.Order.{range}
use Rattle.words.specs.declared.part.Part.{Part}
use Rattle.header.specs.Refusals
use Rattle.header.specs.declared.refusal.Refusal.{Refusal}
use Rattle.cell.specs.declared.value.Value.{Value}
use Rattle.cell.specs.declared.value.Value.TheVariants as Val

-- a value; a text is its bytes
pub data Content : Type 0 where
  nothing : Content
  blank : Content
  short : ℤ → Content
  long : ℤ → Content
  date : ℕ → Content
  number : Float → Content
  logical : Bool → Content
  text : List ℕ → Content

-- what a Value stands for: a text is a part of lent bytes, and nothing where they have no such part
unfoldable pub content_of : List ℕ → Value → Content
content_of s Val.Blank = blank
content_of s (Val.Short z) = short z
content_of s (Val.Long z) = long z
content_of s (Val.Date d) = date d
content_of s (Val.Number x) = number x
content_of s (Val.Logical b) = logical b
content_of s (Val.Text start len) = cond (leb (start + len) (length s)) (text (range s start len)) nothing

-- what reading a cell answers: its value, or a refusal
abbrev pub Cell : Type 0
Cell = Result Value Refusal

-- a cell's answer as document 01's number and value: 0 and the value, or a refusal's number and no value
unfoldable pub answer_of : List ℕ → Cell → ℕ × Content
answer_of s (Ok v) = (0, content_of s v)
answer_of s (Err refusal) = (Refusals.number refusal, nothing)

-- the bytes of a text; empty where the value is no text
unfoldable pub text_of : Content → List ℕ
text_of nothing = []
text_of blank = []
text_of (short z) = []
text_of (long z) = []
text_of (date d) = []
text_of (number x) = []
text_of (logical b) = []
text_of (text bytes) = bytes

-- what every double of a program has: it is one of the format
unfoldable pub Held : Content → Type 0
Held nothing = Unit {0}
Held blank = Unit {0}
Held (short z) = Unit {0}
Held (long z) = Unit {0}
Held (date d) = Unit {0}
Held (number x) = fits binary64 x ≡ true
Held (logical b) = Unit {0}
Held (text s) = Unit {0}

-- ---- a text as the part of the lent bytes that it is

-- no text: the empty part
abbrev pub no_part : Part
no_part = record { start = 0; len = 0 }

-- the part that a value's text is; the empty one where it is no text
unfoldable pub value_part : Value → Part
value_part Val.Blank = no_part
value_part (Val.Short z) = no_part
value_part (Val.Long z) = no_part
value_part (Val.Date d) = no_part
value_part (Val.Number x) = no_part
value_part (Val.Logical b) = no_part
value_part (Val.Text start len) = record { start = start; len = len }

-- the part that a cell's text is; the empty one where it is refused
unfoldable pub part_of : Cell → Part
part_of (Ok v) = value_part v
part_of (Err refusal) = no_part
