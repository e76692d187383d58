-- `cell_list` meets its contract: its value's numbers, or its refusal's. Assumes nothing.
use Rattle.std.proofs.Common.{◌∙◌}
use Rattle.numbers.proofs.CellLaws.{is_list, refused_list, its_finite}
use Rattle.numbers.proofs.list.cell_list.Goals as goal

pub value_list-requires : goal.value_list-requires
value_list-requires c = its_finite _ c.in-Ok.value c.in-Ok.is c.requires

pub returns-in-Ok : goal.returns-in-Ok
returns-in-Ok c = is_list _ c.in-Ok.value _ c.in-Ok.is c.value_list.ensures

pub returns-in-Err : goal.returns-in-Err
returns-in-Err c = refused_list _ c.in-Err.refusal _ c.in-Err.is (c.from-in-Err.ensures ∙ c.from.ensures)
