-- `Table::open` meets its contract: the header that was read is accepted. Assumes nothing.
use Rattle.std.proofs.Common.{refl, ap, ◌∙◌, Err}
use Rattle.std.proofs.lemmas.Result.{err_from_is_err_and}
use Rattle.header.specs.Opened.{header_in}
use Rattle.header.proofs.AcceptedLaws.{read_accepted}
use Rattle.header.proofs.table.Table.open.Goals as goal

pub returns-in_err-header-clause-its_header : goal.returns-in_err-header-clause-its_header
returns-in_err-header-clause-its_header c =
    let p = err_from_is_err_and c.from_residual.result c.from_residual.ensures.1 in
    ap header_in (p.1 ∙ ap Err p.2) ∙ c.in_err-header.ensures

pub invariant_of-result : goal.invariant_of-result
invariant_of-result c = record { accepted = read_accepted c.args.bytes.now _ c.in_ok-header.ensures refl }

pub returns-clause-its_header : goal.returns-clause-its_header
returns-clause-its_header c = c.in_ok-header.ensures
