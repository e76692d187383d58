-- `kind_of` meets its contract: a row of each code, and blobs for the rest. Assumes nothing.
use Rattle.header.specs.Kinds.{kinds, kind_in, kind_of}
use Rattle.header.specs.declared.kind.FieldKind.TheVariants as Kin
use Rattle.numbers.proofs.KindLaws.{by_row, by_rest}
use Rattle.std.proofs.Common.{rules}
use Rattle.numbers.proofs.run.kind_of.Goals as goal

pub returns-in-1 : goal.returns-in-1
unfolding kind_of kind_in kinds
returns-in-1 c = by_row c.args.code c.args.width c.requires Kin.Text 1 255 (rw c.in-1.is)

pub returns-in-2 : goal.returns-in-2
unfolding kind_of kind_in kinds
returns-in-2 c = by_row c.args.code c.args.width c.requires Kin.Date 4 4 (rw c.in-2.is)

pub returns-in-3 : goal.returns-in-3
unfolding kind_of kind_in kinds
returns-in-3 c = by_row c.args.code c.args.width c.requires Kin.Short 2 2 (rw c.in-3.is)

pub returns-in-4 : goal.returns-in-4
unfolding kind_of kind_in kinds
returns-in-4 c = by_row c.args.code c.args.width c.requires Kin.Long 4 4 (rw c.in-4.is)

pub returns-in-5 : goal.returns-in-5
unfolding kind_of kind_in kinds
returns-in-5 c = by_row c.args.code c.args.width c.requires Kin.Number 8 8 (rw c.in-5.is)

pub returns-in-6 : goal.returns-in-6
unfolding kind_of kind_in kinds
returns-in-6 c = by_row c.args.code c.args.width c.requires Kin.Number 8 8 (rw c.in-6.is)

pub returns-in-9 : goal.returns-in-9
unfolding kind_of kind_in kinds
returns-in-9 c = by_row c.args.code c.args.width c.requires Kin.Logical 1 1 (rw c.in-9.is)

pub returns-in_default : goal.returns-in_default
returns-in_default c =
    by_rest c.args.code c.args.width c.requires (search rules) (search rules) (search rules) (search rules)
    (search rules) (search rules) (search rules)
