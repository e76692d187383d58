-- What holds on the way in `put_cells`.
use mathlib.Core.Path.{◌≡◌}
use Prim.Native.Nat.{◌+◌, ◌-◌, ◌≤◌}
use lib.ListN.{length}
use Rattle.buffer.specs.Pieces.{Wrote}
use Rattle.listing.specs.Listing.{cells_text}
use Rattle.listing.proofs.cells.put_cells.Given as goal

abbrev pub invariant-loop-field : goal.invariant-loop-field
invariant-loop-field l =
    (l.field ≤ l.fields + 1) × (length l.out ≡ length l.initial.out)
    × Wrote l.initial.out l.at (cells_text l.table.bytes.now l.table.header l.block l.place (l.field - 1)) l.out l.end
