-- `of_field` meets its contract. Assumes nothing.
use Rattle.std.proofs.Common.{◌∙◌, ap, length, lit≤}
use Rattle.header.specs.Numbers.{numbers_of}
use Rattle.numbers.specs.Lent.{given}
use Rattle.numbers.specs.Header.{field_in, field_numbers}
use Rattle.numbers.proofs.LentLaws.{room_long}
use Rattle.numbers.proofs.FieldLaws.{field_long}
use Rattle.numbers.proofs.fields.of_field.Goals as goal

pub give-requires : goal.give-requires
give-requires c =
    let v = c.args in
    let t = v.table.now in (
      lit≤ tt,
      room_long t (length v.numbers.now) 6 (field_in t (numbers_of t) v.field) _ c.field_answer-answer.ensures
          (field_long t (numbers_of t) v.field),
    )

pub returns : goal.returns
unfolding field_numbers
returns c = c.give.ensures ∙ ap (given c.args.numbers.now) c.field_answer-answer.ensures
