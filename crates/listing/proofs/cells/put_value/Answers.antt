-- `put_value` meets its contract, kind by kind. Assumes nothing.
use mathlib.Core.Path.{◌≡◌, ap, ◌∙◌}
use Prim.Native.Nat.{ℕ, ◌+◌, ◌-◌, ◌≤◌}
use native.Mathlib.Omega.{arith}
use lib.ListN.{length, take, drop}
use mir.Syntax.{w64}
use mir.Val.{to_z, of_z}
use Rattle.buffer.specs.Text.{signed_text}
use Rattle.buffer.proofs.PieceLaws.{room_as, wrote_as, wrote_nothing}
use Rattle.listing.specs.Steps.{value_text}
use Rattle.listing.proofs.CellLaws.{blank_text, short_text, long_text, date_text, number_text, logical_text}
use Rattle.listing.proofs.CellLaws.{part_text, number_finite, part_inside}
use borrow.Author.Rules.{rules}
use Rattle.listing.proofs.cells.put_value.Goals as goal
use Rattle.listing.proofs.cells.put_value.Goals.{After-from, After-from-in-Long, After-put-arg-1}

-- a short's text
short-is : (c : After-from) → let v = c.args in
    signed_text (to_z w64 (of_z w64 c.from.result)) ≡ value_text v.table.now v.value
short-is c = short_text _ _ _ _ c.in-Short.is (ap signed_text (search rules))

pub put_signed-requires : goal.put_signed-requires
put_signed-requires c = room_as (short-is (goal.at.put_signed-requires c).After-from) c.requires.room

-- a long's
long-is : (c : After-from-in-Long) → let v = c.args in
    signed_text (to_z w64 (of_z w64 c.from-in-Long.result)) ≡ value_text v.table.now v.value
long-is c = long_text _ _ _ _ c.in-Long.is (ap signed_text (search rules))

pub put_signed-requires-in-Long : goal.put_signed-requires-in-Long
put_signed-requires-in-Long c =
    room_as (long-is (goal.at.put_signed-requires-in-Long c).After-from-in-Long) c.requires.room

pub put_decimal-requires : goal.put_decimal-requires
put_decimal-requires c =
    let e = c.in-Date.is in
    room_as (date_text _ _ _ e) c.requires.room

pub put_number-requires : goal.put_number-requires
put_number-requires c =
    let e = c.in-Number.is in
    let p = c.requires in
    record { room = room_as (number_text _ _ _ e) p.room; x_value = number_finite _ _ _ e p.printable }

pub put_byte-requires : goal.put_byte-requires
put_byte-requires c =
    let l = logical_text _ _ _ _ c.in-Logical.is c.letter_of.ensures in
    room_as l c.requires.room

-- the text is inside the table
inside : (c : After-put-arg-1) → let v = c.args in
    c.in-Text.start + c.in-Text.len ≤ length v.table.now
inside c =
    let e = c.in-Text.is in
    part_inside _ _ _ _ e c.requires.printable

pub overflow_add-start : goal.overflow_add-start
overflow_add-start c = omega (arith, inside c)

pub slice_bounds-put-end : goal.slice_bounds-put-end
slice_bounds-put-end c = inside c

-- its part of the table is its text
part-is : (c : After-put-arg-1) → let v = c.args in
    take (c.in-Text.start + c.in-Text.len - c.in-Text.start) (drop c.in-Text.start v.table.now)
    ≡ value_text v.table.now v.value
part-is c =
    let v = c.args in
    let l : c.in-Text.start + c.in-Text.len - c.in-Text.start ≡ c.in-Text.len = omega arith in
    ap (λ (n : ℕ). take n (drop c.in-Text.start v.table.now)) l ∙ part_text _ _ _ _ c.in-Text.is (inside c)

pub put-requires : goal.put-requires
put-requires c =
    let r = c.requires.room in
    room_as (part-is (goal.at.put-requires c).After-put-arg-1) r

pub returns-in-Blank : goal.returns-in-Blank
returns-in-Blank c = wrote_as (blank_text _ _ c.in-Blank.is) (wrote_nothing _ _)

pub returns-in-Short : goal.returns-in-Short
returns-in-Short c = wrote_as (short-is (goal.at.returns-in-Short c).After-from) c.put_signed.ensures

pub returns-in-Long : goal.returns-in-Long
returns-in-Long c = wrote_as (long-is (goal.at.returns-in-Long c).After-from-in-Long) c.put_signed-in-Long.ensures

pub returns-in-Date : goal.returns-in-Date
returns-in-Date c =
    let e = c.in-Date.is in
    wrote_as (date_text _ _ _ e) c.put_decimal.ensures

pub returns-in-Number : goal.returns-in-Number
returns-in-Number c =
    let e = c.in-Number.is in
    wrote_as (number_text _ _ _ e) c.put_number.ensures

pub returns-in-Logical : goal.returns-in-Logical
returns-in-Logical c =
    let e = c.in-Logical.is in
    let l = logical_text _ _ _ _ e c.letter_of.ensures in
    wrote_as l c.put_byte.ensures

pub returns-in-Text : goal.returns-in-Text
returns-in-Text c = wrote_as (part-is (goal.at.returns-in-Text c).After-put-arg-1) c.put.ensures
