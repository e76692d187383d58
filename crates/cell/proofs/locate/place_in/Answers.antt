-- `place_in` meets its contract: what search leaves, a place that the count does not reach. Assumes nothing.
use mathlib.Core.Path.{sym, ◌∙◌}
use Rattle.cell.proofs.LocatingLaws.{place_short}
use Rattle.cell.proofs.locate.place_in.Goals as goal

pub returns-then-records-place : goal.returns-then-records-place
returns-then-records-place c =
    let v = c.args in
    let f = v.file.now in
    place_short f.bytes.now f.shape v.block v.place v.offset c.in_ok-records.records
    (sym c.count.ensures ∙ c.in_ok-records.ensures.ok_part) c.if-records-place.true
