-- What the private functions ask and answer: no rule is stated here. Definitions only.
use Rattle.std.specs.Prelude.{ℕ, ◌+◌, ◌-◌, ◌≤◌, ◌≡◌, true, List, ◌++◌, length, drop, replicate, Option, Some, None}
use Rattle.words.specs.Numbers.{digits}
use Rattle.words.specs.Order.{range}
use Rattle.header.specs.Refusals.{Verdict}
use Rattle.header.specs.Kinds.{Permitted}
use Rattle.header.specs.declared.kind.FieldKind.{FieldKind}
use Rattle.cell.specs.Values.{Content, content_of, value_part}
use Rattle.cell.specs.Writing.{Form, none, bytes, text_form, form_of, of_kind, put_form}
use Rattle.cell.specs.declared.value.Value.{Value}

-- the form of a number in w bytes, where there is one
unfoldable pub coded_form : ℕ → Option ℕ → Form
coded_form w (Some n) = bytes (digits w n)
coded_form w None = none

-- a width that a kind of the value permits
abbrev pub OfWidth : Content → ℕ → Type 0
OfWidth c w = (kind : FieldKind) × (of_kind c kind ≡ true) × Permitted kind w

-- a value's text is a part of the bytes lent for it
abbrev pub TextInside : List ℕ → Value → Type 0
TextInside s v = (value_part v).start + (value_part v).len ≤ length s

-- a part of lent bytes, and zeros behind it to a width
abbrev pub padded_text : List ℕ → ℕ → ℕ → ℕ → List ℕ
padded_text s start len w = range s start len ++ replicate (w - len) 0

-- the same over the front of a buffer
abbrev pub padded_over : List ℕ → ℕ → ℕ → ℕ → List ℕ → List ℕ
padded_over s start len w buffer = padded_text s start len w ++ drop w buffer

-- what putting a text, a part of lent bytes, answers: its form, or 11
abbrev pub put_text : ℕ → List ℕ → ℕ → ℕ → List ℕ → Verdict × List ℕ
put_text w s start len buffer = put_form w (text_form w (range s start len)) buffer

-- what putting a value answers
abbrev pub put_of : ℕ → List ℕ → Value → List ℕ → Verdict × List ℕ
put_of w s v buffer = put_form w (form_of w (content_of s v)) buffer
