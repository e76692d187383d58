-- `names_at` meets its contract: the place fits a word. Assumes nothing.
use native.Mathlib.Omega.{arith}
use Rattle.header.proofs.FieldLaws.{area_most}
use Rattle.header.proofs.stored.names_at.Goals as goal

pub overflow_add-result-2 : goal.overflow_add-result-2
overflow_add-result-2 c = omega (arith, c.area_at.ensures, area_most c.args.s.version)
