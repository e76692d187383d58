-- What holds on the way in `put_cells`.
use Rattle.std.proofs.Common.{◌≡◌, length}
use Rattle.numbers.proofs.RecordLaws.{Going}
use Rattle.numbers.proofs.run.put_cells.Given as goal

abbrev pub invariant-loop-field : goal.invariant-loop-field
invariant-loop-field l =
    (length l.cells ≡ length l.initial.cells)
    × Going l.table l.run.area l.run.fields l.run.start
    l.initial.cells l.cells l.at l.end l.field
