-- `FieldKind::row_of` meets its contract: each arm is a row of the table, and a code of no arm permits nothing. Assumes
-- nothing.
use mathlib.Core.Path.{sym, ◌∙◌}
use Rattle.header.specs.Kinds.{kinds, kind_in, kind_of}
use Rattle.header.specs.declared.kind.FieldKind.TheVariants.{Blob}
use Rattle.header.proofs.KindLaws.{unknown_code, permit_none}
use borrow.Author.Rules.{rules}
use Rattle.header.proofs.kind.FieldKind.row_of.Goals as goal

pub returns-in-1 : goal.returns-in-1
unfolding kind_of kind_in kinds
returns-in-1 c = λ w. rw c.in-1.is

pub returns-in-2 : goal.returns-in-2
unfolding kind_of kind_in kinds
returns-in-2 c = λ w. rw c.in-2.is

pub returns-in-3 : goal.returns-in-3
unfolding kind_of kind_in kinds
returns-in-3 c = λ w. rw c.in-3.is

pub returns-in-4 : goal.returns-in-4
unfolding kind_of kind_in kinds
returns-in-4 c = λ w. rw c.in-4.is

pub returns-in-5 : goal.returns-in-5
unfolding kind_of kind_in kinds
returns-in-5 c = λ w. rw c.in-5.is

pub returns-in-6 : goal.returns-in-6
unfolding kind_of kind_in kinds
returns-in-6 c = λ w. rw c.in-6.is

pub returns-in-9 : goal.returns-in-9
unfolding kind_of kind_in kinds
returns-in-9 c = λ w. rw c.in-9.is

pub returns-in-12 : goal.returns-in-12
unfolding kind_of kind_in kinds
returns-in-12 c = λ w. rw c.in-12.is

pub returns-in-13 : goal.returns-in-13
unfolding kind_of kind_in kinds
returns-in-13 c = λ w. rw c.in-13.is

pub returns-in-14 : goal.returns-in-14
unfolding kind_of kind_in kinds
returns-in-14 c = λ w. rw c.in-14.is

pub returns-in-15 : goal.returns-in-15
unfolding kind_of kind_in kinds
returns-in-15 c = λ w. rw c.in-15.is

pub returns-in-16 : goal.returns-in-16
unfolding kind_of kind_in kinds
returns-in-16 c = λ w. rw c.in-16.is

pub returns-in_default : goal.returns-in_default
returns-in_default c = λ w. permit_none Blob w
    ∙ sym (unknown_code c.args.code w (search rules) (search rules) (search rules) (search rules) (search rules)
    (search rules) (search rules) (search rules) (search rules) (search rules) (search rules) (search rules))
