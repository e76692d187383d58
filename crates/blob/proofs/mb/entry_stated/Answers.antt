-- `entry_stated` meets its contract: the kind, then the entry. Assumes nothing.
use mathlib.Core.Path.{◌∙◌}
use Rattle.blob.proofs.MbLaws.{entry_other, entry_states}
use Rattle.blob.proofs.mb.entry_stated.Goals as goal

pub returns-then-mb-base-ne-SUBALLOCATED : goal.returns-then-mb-base-ne-SUBALLOCATED
returns-then-mb-base-ne-SUBALLOCATED c =
    let v = c.args in entry_other v.mb.now v.base v.i c.if-mb-base-ne-SUBALLOCATED.true

pub returns : goal.returns
returns c =
    let v = c.args in
    c.entry_blob.ensures ∙ entry_states v.mb.now v.base v.i c.if-mb-base-ne-SUBALLOCATED.false
