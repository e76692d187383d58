-- A cursor as one number, and what starting and stepping it answer. Definitions only.
use Rattle.std.specs.Prelude.{ℕ, ◌+◌, ◌*◌, ◌/◌, ◌%◌, cond, List, ◌∷◌, length, drop, ◌==◌, slice_index, Result, Ok, Err}
use Rattle.header.specs.Refusals.{number}
use Rattle.header.specs.declared.refusal.Refusal.{Refusal}
use Rattle.cursor.specs.Cursor.{Stepped, start_of, step_of}
use Rattle.cursor.specs.declared.Cursor.{Cursor}
use Rattle.cursor.specs.declared.Step.{Step}
use Rattle.cursor.specs.declared.Step.TheVariants.{Record, End}
use Rattle.numbers.specs.Lent.{cleared, room_first}

-- ---- a cursor's parts stand where a lookup's answer has them

-- bits 8 to 15: 1 where it stands on a record, 0 where it has ended; 16 to 31 the block, 32 to 47 the place, 48 to 63
-- the moves
unfoldable pub cursor_number : Cursor → ℕ
cursor_number c =
    0x100 * cond c.ended 0 1 + 0x10000 * c.block + 0x100000000 * c.place + 0x1000000000000 * c.moves

-- the cursor that any number is: bits 0 to 7 are not looked at, and whatever is not 0 in bits 8 to 15 is no end
unfoldable pub cursor_in : ℕ → Cursor
cursor_in n =
    record {
      block = n / 0x10000 % 0x10000;
      place = n / 0x100000000 % 0x10000;
      moves = n / 0x1000000000000 % 0x10000;
      ended = (n / 0x100 % 0x100 == 0);
    }

-- ---- the answer: bits 0 to 7 the refusal's number, bits 8 to 15 whether a record came

abbrev pub came : ℕ
came = 0x100

-- the cursor in front, and the numbers behind it as they were
abbrev pub with_cursor : List ℕ → Cursor → List ℕ
with_cursor lent c = cursor_number c ∷ drop 1 lent

-- a step puts its cursor
unfoldable pub put_step : List ℕ → Step → ℕ × List ℕ
put_step lent (Record c) = (came, with_cursor lent c)
put_step lent (End c) = (0, with_cursor lent c)

-- a refusal without the cursor that it hands back
unfoldable pub refusal_only : Stepped → Result Step Refusal
refusal_only (Ok step) = Ok step
refusal_only (Err refused) = Err refused.refusal

-- ---- starting: a refusal gives an ended cursor, which is 0

unfoldable pub start_given : List ℕ → Result Step Refusal → ℕ × List ℕ
start_given lent (Ok step) = put_step lent step
start_given lent (Err refusal) = cleared lent refusal

abbrev pub start_answer : List ℕ → ℕ → Result Step Refusal
start_answer t room = room_first t room 1 (refusal_only (start_of t))

unfoldable pub start_lent : List ℕ → List ℕ → ℕ × List ℕ
start_lent t lent = start_given lent (start_answer t (length lent))

-- ---- stepping the cursor that the first number is: a refusal leaves it, and every other number, as it was

unfoldable pub step_given : List ℕ → Result Step Refusal → ℕ × List ℕ
step_given lent (Ok step) = put_step lent step
step_given lent (Err refusal) = (number refusal, lent)

-- 1 to 7 of the table, 14 for no number, then the cursor's own
abbrev pub step_answer : List ℕ → List ℕ → Result Step Refusal
step_answer t lent = room_first t (length lent) 1 (refusal_only (step_of t (cursor_in (slice_index lent 0))))

unfoldable pub step_lent : List ℕ → List ℕ → ℕ × List ℕ
step_lent t lent = step_given lent (step_answer t lent)
