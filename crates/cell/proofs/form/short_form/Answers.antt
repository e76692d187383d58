-- `short_form` meets its contract: the top bit added, where that is above 0. Assumes nothing.
use mathlib.Core.Path.{refl}
use mir.Syntax.{w16}
use mir.ValLaws.{to_z-of_z}
use Rattle.cell.specs.Steps.{coded_form}
use Rattle.cell.proofs.SignedCasts.{form_none, form_is}
use Rattle.cell.proofs.form.short_form.Goals as goal

pub returns-then-z-eq-LEAST_SHORT : goal.returns-then-z-eq-LEAST_SHORT
unfolding coded_form
returns-then-z-eq-LEAST_SHORT c = form_none w16 2 c.args.z 32768 c.ranges.z refl refl refl c.if-z-eq-LEAST_SHORT.true

pub returns : goal.returns
unfolding coded_form
returns c =
    rw (c.shifted_short.ensures, to_z-of_z w16 c.args.z c.ranges.z)
    (form_is w16 2 c.args.z 32768 c.ranges.z refl refl refl c.if-z-eq-LEAST_SHORT.false)
