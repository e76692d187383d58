-- `value_list` meets its contract, case by case. Assumes nothing.
use Rattle.std.proofs.Common.{ap, ◌∙◌, rules}
use Rattle.cell.proofs.DoubleLaws.{finite_number}
use Rattle.numbers.specs.Cells.{signed_bits}
use Rattle.numbers.proofs.CellLaws.{blank_list, short_list, long_list, date_list, number_list, logical_list}
use Rattle.numbers.proofs.CellLaws.{text_list, number_finite}
use Rattle.numbers.proofs.list.value_list.Goals as goal

pub float_to_bits-result : goal.float_to_bits-result
float_to_bits-result c = finite_number _ (number_finite _ c.in-Number.x c.in-Number.is c.requires)

pub returns-in-Blank : goal.returns-in-Blank
returns-in-Blank c = blank_list _ c.in-Blank.is

pub returns-in-Short : goal.returns-in-Short
returns-in-Short c = short_list _ c.in-Short.z _ c.in-Short.is (c.signed_bits.ensures ∙ ap signed_bits (search rules))

pub returns-in-Long : goal.returns-in-Long
returns-in-Long c =
    long_list _ c.in-Long.z _ c.in-Long.is (c.signed_bits-in-Long.ensures ∙ ap signed_bits (search rules))

pub returns-in-Date : goal.returns-in-Date
returns-in-Date c = date_list _ c.in-Date.day _ c.in-Date.is c.from-in-Date.ensures

pub returns-in-Number : goal.returns-in-Number
returns-in-Number c = number_list _ c.in-Number.x c.in-Number.is

pub returns-in-Logical : goal.returns-in-Logical
returns-in-Logical c = logical_list _ c.in-Logical.b _ c.in-Logical.is c.from-in-Logical.ensures

pub returns-in-Text : goal.returns-in-Text
returns-in-Text c = text_list _ c.in-Text.start c.in-Text.len c.in-Text.is
