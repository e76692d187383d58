-- Which bytes a value has in a cell, what writing it answers, and when what was written reads back. Definitions only.
use Rattle.std.specs.Prelude.{ℕ, suc, ◌+◌, ◌-◌, ◌≤◌, ◌≡◌, Bool, true, false, cond, not, ◌&&◌, eqb, leb, ltb}
use Rattle.std.specs.Prelude.{ℤ, pos, negsuc, Float, List, [], ◌∷◌, ◌++◌, length, drop, replicate}
use Rattle.std.specs.Prelude.{Option, Some, None, Err}
use Rattle.std.specs.Float.Ieee.Scale.{finite}
use Rattle.words.specs.Each.{each}
use Rattle.words.specs.Numbers.{byte, digits}
use Rattle.words.specs.Signed.{half}
use Rattle.header.specs.Refusals.{Verdict, kept}
use Rattle.header.specs.declared.refusal.Refusal.{Refusal}
use Rattle.header.specs.declared.refusal.Refusal.TheVariants.{NoMeaning, BlobCell, BadArgument, ShortBuffer}
use Rattle.header.specs.Kinds.{kind_of, is_blob}
use Rattle.header.specs.declared.kind.FieldKind.{FieldKind}
use Rattle.header.specs.declared.kind.FieldKind.TheVariants as Kin
use Rattle.cell.specs.Values.{Content, nothing, blank, short, long, date, number, logical, text, content_of}
use Rattle.cell.specs.Values.{answer_of}
use Rattle.cell.specs.Doubles.{stored_double}
use Rattle.cell.specs.Reading.{is_date, false_byte, true_byte, cell_at}
use Rattle.cell.specs.declared.value.Value.{Value}

-- ---- the stored form

-- the bytes of a cell, or none
pub data Form : Type 0 where
  none : Form
  bytes : List ℕ → Form

-- short, long: z and the top bit added, where that is above 0 and fits w bytes; the least number would be the blank
-- (11)
unfoldable pub signed_form : ℕ → ℤ → Form
signed_form w (pos m) = cond (ltb m (half w)) (bytes (digits w (m + half w))) none
signed_form w (negsuc m) = cond (ltb (suc m) (half w)) (bytes (digits w (half w - suc m))) none

-- date: stored as a long, where it is a day that has a meaning (11 else)
unfoldable pub date_form : ℕ → ℕ → Form
date_form w d = cond (is_date d) (bytes (digits w (d + half w))) none

-- number, currency: the number that a double is stored as, where the double is finite (11 else)
unfoldable pub number_form : ℕ → Float → Form
number_form w x = cond (finite x) (bytes (digits w (stored_double w x))) none

-- logical: its byte
abbrev pub logical_byte : Bool → ℕ
logical_byte false = false_byte
logical_byte true = true_byte

-- no byte is zero
abbrev pub no_zero : List ℕ → Bool
no_zero s = each (λ (i : ℕ). not (eqb (byte s i) 0)) (length s)

-- text: 1 to w bytes without a zero, and zeros behind them (11 else)
unfoldable pub text_form : ℕ → List ℕ → Form
text_form w s = cond (leb 1 (length s) && leb (length s) w && no_zero s) (bytes (s ++ replicate (w - length s) 0)) none

-- the w bytes of a value
unfoldable pub form_of : ℕ → Content → Form
form_of w nothing = none
form_of w blank = bytes (replicate w 0)
form_of w (short z) = signed_form w z
form_of w (long z) = signed_form w z
form_of w (date d) = date_form w d
form_of w (number x) = number_form w x
form_of w (logical b) = bytes (digits w (logical_byte b))
form_of w (text s) = text_form w s

-- ---- writing

-- whether a value is of a kind; a blank is of every kind, and what is no part of the lent bytes of none
unfoldable pub of_kind : Content → FieldKind → Bool
of_kind nothing kind = false
of_kind blank kind = true
of_kind (short z) Kin.Short = true
of_kind (long z) Kin.Long = true
of_kind (date d) Kin.Date = true
of_kind (number x) Kin.Number = true
of_kind (logical b) Kin.Logical = true
of_kind (text s) Kin.Text = true
of_kind content kind = false

-- 11 for no stored form; else the form in the first bytes
unfoldable pub put_form : ℕ → Form → List ℕ → Verdict × List ℕ
put_form w none buffer = (Err NoMeaning, buffer)
put_form w (bytes s) buffer = (kept, s ++ drop w buffer)

-- 14 for a short buffer
unfoldable pub put_value : ℕ → Content → List ℕ → Verdict × List ℕ
put_value w c buffer = cond (leb w (length buffer)) (put_form w (form_of w c) buffer) (Err ShortBuffer, buffer)

-- 12 for a blob, whatever the value; 13 for a value of another kind
unfoldable pub write_kind : FieldKind → ℕ → Content → List ℕ → Verdict × List ℕ
write_kind kind w c buffer =
    cond (is_blob kind) (Err BlobCell, buffer)
    (cond (of_kind c kind) (put_value w c buffer) (Err BadArgument, buffer))

-- 13 for a bad code or width
unfoldable pub write_stored : Option FieldKind → ℕ → Content → List ℕ → Verdict × List ℕ
write_stored None w c buffer = (Err BadArgument, buffer)
write_stored (Some kind) w c buffer = write_kind kind w c buffer

-- the answer and the whole buffer after it: 13, 12, 14, 11 in that order, and a refusal leaves the buffer as it was
unfoldable pub write_of : ℕ → ℕ → Content → List ℕ → Verdict × List ℕ
write_of code w c buffer = write_stored (kind_of code w) w c buffer

-- what writing refuses with
abbrev pub write_refusals : List Refusal
write_refusals = BadArgument ∷ BlobCell ∷ ShortBuffer ∷ NoMeaning ∷ []

-- the same of a Value, whose text is a part of lent bytes
abbrev pub written_of : ℕ → ℕ → List ℕ → Value → List ℕ → Verdict × List ℕ
written_of code w s v buffer = write_of code w (content_of s v) buffer

-- ---- the round trip

-- a value that was written: code and width are a kind's, the buffer has room, its first w bytes read as the value, a
-- double bit by bit, the bytes behind them are as before, and so is the buffer's length
pub record ReadsBack (code w : ℕ) (c : Content) (before after : List ℕ) : Type 0 where
  pub kind : FieldKind
  pub coded : kind_of code w ≡ Some kind
  pub room : w ≤ length before
  pub reads : answer_of after (cell_at kind after 0 w) ≡ (0, c)
  pub rest : drop w after ≡ drop w before
  pub long : length after ≡ length before

-- where writing is not refused, a Value, whose text is a part of lent bytes, reads back
abbrev pub GivesBack : ℕ → ℕ → List ℕ → Value → List ℕ → Verdict × List ℕ → Type 0
GivesBack code w s v before (verdict, after) = verdict ≡ kept → ReadsBack code w (content_of s v) before after
