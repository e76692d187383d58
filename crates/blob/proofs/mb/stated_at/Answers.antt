-- `stated_at` meets its contract: a block of its own, an entry, or neither. Assumes nothing.
use mathlib.Core.Path.{◌∙◌}
use Rattle.blob.proofs.MbLaws.{low_own, low_entry, low_other}
use Rattle.blob.proofs.mb.stated_at.Goals as goal

pub returns-then-low-eq-OWN : goal.returns-then-low-eq-OWN
returns-then-low-eq-OWN c =
    let v = c.args in
    c.own_stated.ensures ∙ low_own v.mb.now v.base v.low c.if-low-eq-OWN.true

pub returns-then-low-lt-ENTRIES : goal.returns-then-low-lt-ENTRIES
returns-then-low-lt-ENTRIES c =
    let v = c.args in
    c.entry_stated.ensures ∙ low_entry v.mb.now v.base v.low c.if-low-lt-ENTRIES.true

pub returns : goal.returns
returns c =
    let v = c.args in
    low_other v.mb.now v.base v.low c.if-low-eq-OWN.false c.if-low-lt-ENTRIES.false
