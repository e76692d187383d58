-- `long_form` meets its contract: the top bit added, where that is above 0. Assumes nothing.
use mathlib.Core.Path.{refl}
use mir.Syntax.{w32}
use mir.ValLaws.{to_z-of_z}
use Rattle.cell.specs.Steps.{coded_form}
use Rattle.cell.proofs.SignedCasts.{form_none, form_is}
use Rattle.cell.proofs.form.long_form.Goals as goal

pub returns-then-z-eq-LEAST_LONG : goal.returns-then-z-eq-LEAST_LONG
unfolding coded_form
returns-then-z-eq-LEAST_LONG c = form_none w32 4 c.args.z 2147483648 c.ranges.z refl refl refl c.if-z-eq-LEAST_LONG.true

pub returns : goal.returns
unfolding coded_form
returns c =
    rw (c.shifted_long.ensures, to_z-of_z w32 c.args.z c.ranges.z)
    (form_is w32 4 c.args.z 2147483648 c.ranges.z refl refl refl c.if-z-eq-LEAST_LONG.false)
