-- `paradox_scan` meets its contract: what the scan answers, packed. Assumes nothing.
use Rattle.paradox.proofs.PackingLaws.{scan_packs}
use Rattle.paradox.proofs.paradox_scan.Goals as goal

pub returns : goal.returns
returns c =
    let e = c.find.ensures in
    let q = scan_packs _ _ _ e.result_value (c.pack.ensures.value, c.pack.ensures.unpacked) in
    record { value = q.0; scan_unpacked = q.1; marks_after = e.marks_after }
