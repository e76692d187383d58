-- `field_in` meets its contract: 13, or the field with its name, which every field has. Assumes nothing.
use Rattle.std.proofs.Common.{◌≡◌, ◌+◌, ◌*◌, ◌≤◌, length, sym, ap, ◌∙◌, arith, Some, Err}
use Rattle.header.specs.Numbers.{field_of}
use Rattle.numbers.proofs.FieldLaws.{field_missing, pair_inside, field_unnamed, field_named}
use Rattle.numbers.proofs.LentLaws.{leaves, same_refusal}
use Rattle.numbers.proofs.fields.field_in.Goals as goal
use Rattle.numbers.proofs.fields.field_in.Goals.{In_ok-found}

pub returns-in_err-found : goal.returns-in_err-found
returns-in_err-found c =
    let t = c.args.table.now in
    let q = c.in_err-found.ensures in
    leaves _ c.from_residual.ensures.1
    ∙ ap Err (same_refusal (rw q.ok_part at q.value))
    ∙ sym (field_missing t.bytes.now t.header c.args.field (sym c.field.ensures ∙ q.ok_part))

-- the field that is found
found : (c : In_ok-found) → let t = c.args.table.now in
    field_of t.bytes.now t.header c.args.field ≡ Some c.in_ok-found.found
found c = sym c.field.ensures ∙ c.in_ok-found.ensures.ok_part

-- has its pair inside the table
inside : (c : In_ok-found) → let t = c.args.table.now in
    (1 ≤ c.args.field) × (t.header.area + 2 * c.args.field ≤ length t.bytes.now)
inside c =
    let t = c.args.table.now in pair_inside t.bytes.now t.header c.args.field _ (found c) t.accepted

pub returns-in_err-name : goal.returns-in_err-name
returns-in_err-name c =
    let t = c.args.table.now in
    leaves _ c.from_residual-in_err-name.ensures.1
    ∙ sym (field_unnamed t.bytes.now t.header c.args.field _ (found (goal.at.returns-in_err-name c).In_ok-found) _
    (sym c.in_err-name.ensures))

pub overflow_sub-code : goal.overflow_sub-code
overflow_sub-code c = (inside (goal.at.overflow_sub-code c).In_ok-found).0

pub overflow_mul-code : goal.overflow_mul-code
overflow_mul-code c = omega (arith, inside (goal.at.overflow_mul-code c).In_ok-found)

pub overflow_add-code : goal.overflow_add-code
overflow_add-code c = omega (arith, inside (goal.at.overflow_add-code c).In_ok-found)

pub bounds-table-table : goal.bounds-table-table
bounds-table-table c = omega (arith, inside (goal.at.bounds-table-table c).In_ok-found)

pub returns : goal.returns
returns c =
    let t = c.args.table.now in
    sym (field_named t.bytes.now t.header c.args.field _ (found (goal.at.returns c).In_ok-found) _
    (sym c.in_ok-name.ensures) _ c.kind_number.ensures)
