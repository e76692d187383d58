-- `FieldKind::of` meets its contract: the row of the code, where it permits the width. Assumes nothing.
use mathlib.Core.Path.{◌∙◌}
use Rattle.header.proofs.KindLaws.{permit_is}
use Rattle.header.proofs.kind.FieldKind.of.Goals as goal

pub returns : goal.returns
returns c =
    let row = c.row_of-kind.result in
    c.then_some.ensures ∙ permit_is row.0 c.args.width row.1 row.2 ∙ c.row_of-kind.ensures c.args.width
