-- The worked cells of document 01 and of request 02, as one table that antt computes. Assumes nothing.
use mathlib.Core.Path.{◌≡◌, refl}
use mathlib.Core.Bool.{Bool, true, false, cond}
use mathlib.Core.List.{List, [], ◌∷◌, ◌++◌, map}
use Prim.Native.Nat.{ℕ, ◌+◌, ◌-◌, ◌^◌}
use lib.IntN.{pos, negsuc}
use lib.Ieee.{fin, of_bits, to_bits}
use lib.ListN.{length, replicate}
use Rattle.std.specs.Prelude.{Some}
use Rattle.words.specs.Each.{each}
use Rattle.words.specs.Numbers.{big, digits}
use Rattle.words.specs.Signed.{complemented, signed}
use Rattle.header.specs.Refusals
use Rattle.header.specs.Refusals.{Verdict, kept}
use Rattle.header.specs.declared.refusal.Refusal.TheVariants.{NoMeaning}
use Rattle.header.specs.Kinds.{kinds, permit, kind_in, kind_of, is_blob}
use Rattle.header.specs.declared.kind.FieldKind.{FieldKind}
use Rattle.header.specs.declared.kind.FieldKind.TheVariants as Kin
use Rattle.cell.specs.Values.{Content, nothing, blank, short, date, number, content_of, answer_of}
use Rattle.cell.specs.Doubles.{meant_bits, stored_bits, double_of, stored_double}
use Rattle.cell.specs.Reading.{date_cell, number_cell, logical_cell, value_at, cell_at}
use Rattle.cell.specs.Writing.{signed_form, date_form, number_form, form_of, of_kind, put_form, put_value}
use Rattle.cell.specs.Writing.{write_kind, write_stored, write_of}

-- a kind, a code of it, the bytes, what they read as, and whether that is written so too
abbrev pub Row : Type 0
Row = FieldKind × ℕ × List ℕ × (ℕ × Content) × Bool

abbrev pub cells : List Row
cells =
    (Kin.Date, 0x02, 0x80 ∷ 0x0B ∷ 0x1E ∷ 0xCF ∷ [], (0, date 728783), true)
    ∷ (Kin.Date, 0x02, 0x80 ∷ 0x00 ∷ 0x8D ∷ 0x40 ∷ [], (0, date 36160), true)
    ∷ (Kin.Date, 0x02, 0x80 ∷ 0x00 ∷ 0x8D ∷ 0x3F ∷ [], (Refusals.number NoMeaning, nothing), false)
    ∷ (Kin.Date, 0x02, 0x80 ∷ 0x37 ∷ 0xB9 ∷ 0xDB ∷ [], (0, date 3652059), true)
    ∷ (Kin.Date, 0x02, 0x80 ∷ 0x37 ∷ 0xB9 ∷ 0xDC ∷ [], (Refusals.number NoMeaning, nothing), false)
    ∷ (Kin.Short, 0x03, 0x80 ∷ 0x01 ∷ [], (0, short (pos 1)), true)
    ∷ (Kin.Short, 0x03, 0x82 ∷ 0x00 ∷ [], (0, short (pos 512)), true)
    ∷ (Kin.Short, 0x03, 0x7F ∷ 0xFF ∷ [], (0, short (negsuc 0)), true)
    ∷ (Kin.Short, 0x03, 0x00 ∷ 0x00 ∷ [], (0, blank), true)
    ∷ (Kin.Number, 0x06, 0xBF ∷ 0xF0 ∷ replicate 6 0x00, (0, number (fin false 1 (pos 0))), true)
    ∷ (Kin.Number, 0x06, 0xFF ∷ 0xEF ∷ replicate 6 0xFF, (0, number (fin false (2 ^ 53 - 1) (pos 971))), true)
    ∷ (Kin.Number, 0x06, 0xFF ∷ 0xF0 ∷ replicate 6 0x00, (Refusals.number NoMeaning, nothing), false)
    ∷ (Kin.Number, 0x06, 0x40 ∷ 0x0F ∷ replicate 6 0xFF, (0, number (fin true 1 (pos 0))), true)
    ∷ (Kin.Number, 0x06, 0x7F ∷ replicate 7 0xFF, (0, number (fin true 0 (pos 0))), true)
    ∷ (Kin.Number, 0x06, 0x00 ∷ 0x10 ∷ replicate 6 0x00, (0, number (fin true (2 ^ 53 - 1) (pos 971))), true)
    ∷ (Kin.Number, 0x06, 0x00 ∷ 0x0F ∷ replicate 6 0xFF, (Refusals.number NoMeaning, nothing), false)
    ∷ (Kin.Logical, 0x09, 0x82 ∷ [], (Refusals.number NoMeaning, nothing), false)
    ∷ []

-- the rows that are written so too
abbrev pub both_ways : List Row → List Row
both_ways [] = []
both_ways (r ∷ rows) = cond r.4 (r ∷ both_ways rows) (both_ways rows)

-- what a row's bytes read as, and what writing its value answers, over other bytes of which there is one more
abbrev pub as_read : Row → ℕ × Content
as_read r = answer_of r.2 (cell_at r.0 r.2 0 (length r.2))

abbrev pub as_written : Row → Verdict × List ℕ
as_written r = write_of r.1 (length r.2) r.3.1 (replicate (length r.2 + 1) 0xAA)

-- each code with the width of its bytes is of the kind; each row reads as it says; and those marked so are written as
-- their bytes, over other bytes and with the byte behind them kept
pub cells_hold :
    (map (λ (r : Row). kind_of r.1 (length r.2)) cells ≡ map (λ (r : Row). Some r.0) cells)
    × (map as_read cells ≡ map (λ (r : Row). r.3) cells)
    × (map as_written (both_ways cells) ≡ map (λ (r : Row). (kept, r.2 ++ (0xAA ∷ []))) (both_ways cells))
unfolding each big digits complemented signed kinds permit kind_in kind_of is_blob content_of answer_of date_cell
    meant_bits stored_bits double_of stored_double number_cell logical_cell value_at cell_at of_bits to_bits signed_form
    date_form number_form form_of of_kind put_form put_value write_kind write_stored write_of
cells_hold = (refl, refl, refl)
