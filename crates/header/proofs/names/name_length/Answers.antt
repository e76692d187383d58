-- `name_length` meets its contract: a name that fits ends before the header does. Assumes nothing.
use mathlib.Core.Path.{◌∙◌}
use native.Mathlib.Omega.{arith}
use Rattle.header.proofs.NameLaws.{fit_ends, fit_length}
use Rattle.header.proofs.names.name_length.Goals as goal

pub overflow_sub-end : goal.overflow_sub-end
overflow_sub-end c = omega (arith, (fit_ends c.args.t.now c.args.end 0 c.args.at c.requires.1).1)

pub before_zero-requires : goal.before_zero-requires
before_zero-requires c = omega (arith, c.requires.0, (fit_ends c.args.t.now c.args.end 0 c.args.at c.requires.1).1)

pub returns : goal.returns
returns c = c.before_zero.ensures ∙ fit_length c.args.t.now c.args.end 0 c.args.at c.requires.1
