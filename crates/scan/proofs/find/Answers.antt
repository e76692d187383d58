-- `find` meets its contract: the table check's refusals, 13, then the first record with the key in the used chain.
-- Assumes nothing.
use Rattle.std.specs.Prelude.{Ok, Err}
use Rattle.std.proofs.lemmas.Result.{err_from_is_err_and}
use mathlib.Core.Path.{◌≡◌, sym, ap, ◌∙◌}
use mathlib.Core.Bool.{true}
use lib.ListN.{length}
use Rattle.header.specs.Refusals.{kept}
use Rattle.header.specs.declared.refusal.Refusal.TheVariants.{BadArgument}
use Rattle.header.specs.Numbers.{numbers_of}
use Rattle.header.specs.Opened.{header_in}
use Rattle.header.specs.declared.Header.{Header}
use Rattle.blocks.specs.Shape.{shape_of}
use Rattle.table.specs.Table.{table_answer}
use Rattle.table.proofs.CheckLaws.{checked_refusal, checked_kept, checked_numbers}
use Rattle.table.proofs.RuleLaws.{accepted_table}
use Rattle.lookup.specs.Sought.{key_fits}
use Rattle.scan.proofs.ScanLaws.{scan_refused, scan_unfit, scan_first, scans, first_all, searchable}
use Rattle.scan.proofs.find.Goals as goal
use Rattle.scan.proofs.find.Goals.{After-of, Else-not-key_fits, In_ok-table}

pub returns-in_err-table : goal.returns-in_err-table
returns-in_err-table c =
    let v = c.args in
    let room = length v.marks.now in
    let p = err_from_is_err_and c.from_residual.result c.from_residual.ensures.1 in
    let refused = checked_refusal v.table.now room _ c.read.ensures.value (ap header_in c.in_err-table.was) in
    let e = scans v.table.now v.key.now room c.from_residual.result
    (p.1 ∙ ap Err p.2 ∙ sym (scan_refused v.table.now v.key.now room refused)) in
    record { value = e.0; result_value = e.1; marks_after = c.read.ensures.marks_after }

-- where the table is accepted

taken : (c : In_ok-table) → table_answer c.args.table.now (length c.args.marks.now) ≡ kept
taken c =
    checked_kept c.args.table.now (length c.args.marks.now) _ c.read.ensures.value (ap header_in c.in_ok-table.was)

header : (c : In_ok-table) → c.in_ok-table.table.header ≡ numbers_of c.args.table.now
header c =
    checked_numbers c.args.table.now (length c.args.marks.now) _ c.read.ensures.value
    (ap header_in c.in_ok-table.was)

pub returns-then-not-key_fits : goal.returns-then-not-key_fits
returns-then-not-key_fits c =
    let v = c.args in
    let room = length v.marks.now in
    let at = (goal.at.returns-then-not-key_fits c).In_ok-table in
    let unfit = rw (header at) at (sym c.key_fits.ensures ∙ c.if-not-key_fits.true) in
    let e = scans v.table.now v.key.now room (Err BadArgument)
    (sym (scan_unfit v.table.now v.key.now room (taken at) unfit)) in
    record { value = e.0; result_value = e.1; marks_after = c.read.ensures.marks_after }

fits : (c : Else-not-key_fits) → key_fits (numbers_of c.args.table.now) c.args.key.now ≡ true
fits c =
    let header = checked_numbers c.args.table.now (length c.args.marks.now) _ c.read.ensures.value
    (ap header_in c.in_ok-table.was) in
    rw header at (sym c.key_fits.ensures ∙ c.if-not-key_fits.false)

-- the shape is that of the table
shape : (c : After-of) → c.of.result.shape ≡ shape_of (numbers_of c.args.table.now)
shape c =
    let header = checked_numbers c.args.table.now (length c.args.marks.now) _ c.read.ensures.value
    (ap header_in c.in_ok-table.was) in
    c.of.ensures.shape ∙ ap shape_of header

-- and so are the bytes
bytes : (c : After-of) → c.of.result.bytes ≡ c.args.table
bytes c = c.of.ensures.bytes ∙ (rw c.in_ok-table.was at c.read.ensures.its_bytes)

pub find_from-requires : goal.find_from-requires
find_from-requires c =
    let v = c.args in
    let p = goal.at.find_from-requires c in
    rw (bytes p.After-of)
    (searchable v.table.now (numbers_of v.table.now) _ _ (shape p.After-of)
    (ap (λ (h : Header). h.first) (header p.In_ok-table))
    (accepted_table v.table.now (length v.marks.now) (taken p.In_ok-table)) v.key.now (fits p.Else-not-key_fits))

pub returns : goal.returns
returns c =
    let v = c.args in
    let room = length v.marks.now in
    let p = goal.at.returns c in
    let all = first_all v.table.now (numbers_of v.table.now) _ _ (shape p.After-of)
    (ap (λ (h : Header). h.first) (header p.In_ok-table)) v.key.now in
    let e = scans v.table.now v.key.now room c.find_from.result
    ((rw (bytes p.After-of) at c.find_from.ensures) ∙ ap Ok all
    ∙ sym (scan_first v.table.now v.key.now room (taken p.In_ok-table) (fits p.Else-not-key_fits))) in
    record { value = e.0; result_value = e.1; marks_after = c.read.ensures.marks_after }
