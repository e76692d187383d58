-- `of_header` meets its contract. Assumes nothing.
use Rattle.std.proofs.Common.{◌∙◌, ap, length, Ok, lit≤}
use Rattle.header.specs.Numbers.{numbers_of}
use Rattle.numbers.specs.Lent.{given}
use Rattle.numbers.specs.Header.{header_list, header_numbers}
use Rattle.numbers.proofs.LentLaws.{room_long}
use Rattle.numbers.proofs.FieldLaws.{header_long}
use Rattle.numbers.proofs.fields.of_header.Goals as goal

pub give-requires : goal.give-requires
give-requires c =
    let v = c.args in (
      lit≤ tt,
      room_long v.table.now (length v.numbers.now) 14 (Ok (header_list (numbers_of v.table.now))) _
          c.header_given-answer.ensures
          (header_long (numbers_of v.table.now)),
    )

pub returns : goal.returns
unfolding header_numbers
returns c = c.give.ensures ∙ ap (given c.args.numbers.now) c.header_given-answer.ensures
