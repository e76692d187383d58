-- What holds on the way in `add_widths`.
use Rattle.header.proofs.FieldLaws.{Added}
use Rattle.header.proofs.fields.add_widths.Given as goal

abbrev pub invariant-loop-f : goal.invariant-loop-f
invariant-loop-f l = Added l.t l.area l.keys l.n l.offsets l.sum l.f
