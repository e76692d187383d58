-- `value_given` meets its contract, case by case: each is what its helper answers, a text is all the lent bytes, and
-- another number is no value. Assumes nothing.
use Rattle.std.proofs.Common.{ap, rules}
use Rattle.cell.specs.Values.{number, content_of}
use Rattle.numbers.specs.Steps.{content_if}
use Rattle.numbers.specs.Given.{content_given}
use Rattle.numbers.proofs.GivenLaws.{text_content, given_none}
use Rattle.numbers.proofs.given.value_given.Goals as goal

pub returns-in-1 : goal.returns-in-1
unfolding content_if content_of content_given
returns-in-1 c = rw c.in-1.is

pub returns-in-2 : goal.returns-in-2
unfolding content_given
returns-in-2 c = rw c.in-2.is (c.short_given.ensures c.args.text.now)

pub returns-in-3 : goal.returns-in-3
unfolding content_given
returns-in-3 c = rw c.in-3.is (c.long_given.ensures c.args.text.now)

pub returns-in-4 : goal.returns-in-4
unfolding content_given
returns-in-4 c = rw c.in-4.is (c.date_given.ensures c.args.text.now)

pub returns-in-5 : goal.returns-in-5
unfolding content_if content_of content_given
returns-in-5 c = rw c.in-5.is (ap number c.double_of.ensures)

pub returns-in-6 : goal.returns-in-6
unfolding content_given
returns-in-6 c = rw c.in-6.is (c.logical_given.ensures c.args.text.now)

pub returns-in-7 : goal.returns-in-7
unfolding content_if content_given
returns-in-7 c = rw c.in-7.is (text_content c.args.text.now)

pub returns-in_default : goal.returns-in_default
unfolding content_if
returns-in_default c =
    let v = c.args in
    given_none v.what v.value v.text.now (search rules) (search rules) (search rules) (search rules)
    (search rules) (search rules) (search rules)
