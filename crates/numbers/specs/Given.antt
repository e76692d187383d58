-- A value that a program gives by numbers, as a cell's first two, and what writing it answers. Definitions only.
use Rattle.std.specs.Prelude.{ℕ, ◌^◌, true, false, cond, List, ℤ, pos, negsuc, ◌==◌, from_bits, nat_lt}
use Rattle.std.specs.Float.{binary64}
use Rattle.words.specs.Signed.{half, signed}
use Rattle.header.specs.Refusals.{answer_number}
use Rattle.cell.specs.Values.{Content, nothing, blank, short, long, date, number, logical, text}
use Rattle.cell.specs.Writing.{write_of}
use Rattle.numbers.specs.What as What

-- a signed number of a kind that has w bytes; no value where it does not fit them
unfoldable pub fitted : ℕ → (ℤ → Content) → ℤ → Content
fitted w kind (pos n) = cond (nat_lt n (half w)) (kind (pos n)) nothing
fitted w kind (negsuc n) = cond (nat_lt n (half w)) (kind (negsuc n)) nothing

-- a short and a long are signed numbers of 64 bits
abbrev pub short_given : ℕ → Content
short_given value = fitted 2 short (signed (half 8) value)

abbrev pub long_given : ℕ → Content
long_given value = fitted 4 long (signed (half 8) value)

-- a day number of four bytes
unfoldable pub date_given : ℕ → Content
date_given value = cond (nat_lt value (256 ^ 4)) (date value) nothing

-- any 64 bits are a double's
abbrev pub number_given : ℕ → Content
number_given value = number (from_bits binary64 value)

-- 0 and 1 are false and true
unfoldable pub logical_given : ℕ → Content
logical_given value = cond (value == 0) (logical false) (cond (value == 1) (logical true) nothing)

-- the value by what it is: of a text it is the bytes lent beside it, and neither there nor of a blank is the number
-- looked at. What is none of these is no value
unfoldable pub content_given : ℕ → ℕ → List ℕ → Content
content_given what value bytes =
    cond (what == What.blank) blank
    (cond (what == What.short) (short_given value)
    (cond (what == What.long) (long_given value)
    (cond (what == What.date) (date_given value)
    (cond (what == What.number) (number_given value)
    (cond (what == What.logical) (logical_given value)
    (cond (what == What.text) (text bytes) nothing))))))

-- what the writer answers, with the whole buffer after it: 13, 12, 14, 11, and a refusal leaves the buffer as it was
unfoldable pub write_given : ℕ → ℕ → ℕ → ℕ → List ℕ → List ℕ → ℕ × List ℕ
write_given code width what value bytes buffer =
    let w = write_of code width (content_given what value bytes) buffer in (answer_number w.0, w.1)
