-- `Table::field` meets its contract: no such number, or the pair and the offset of the field. Assumes nothing.
use mathlib.Core.Path.{sym, ◌∙◌}
use Prim.Native.Nat.{◌-◌}
use Rattle.header.specs.Numbers.{field_with}
use Rattle.header.proofs.AcceptedLaws.{field_low, field_high, field_here}
use borrow.Author.Rules.{rules}
use Rattle.header.proofs.table.Table.field.Goals as goal

pub returns-then-f-lt1 : goal.returns-then-f-lt1
returns-then-f-lt1 c = let v = c.args in sym (field_low v.self.now.bytes.now v.self.now.header v.f c.if-f-lt1.true)

pub returns-then-n-f : goal.returns-then-n-f
returns-then-n-f c = let v = c.args in sym (field_high v.self.now.bytes.now v.self.now.header v.f c.if-n-f.true)

pub returns-in_err-kind : goal.returns-in_err-kind
unfolding field_with
returns-in_err-kind c =
    let v = c.args in
    c.from_residual.ensures
    ∙ sym (field_here v.self.now.bytes.now v.self.now.header v.f (search rules) (search rules)
    ∙ rw (sym c.in_err-kind.ensures))

pub returns : goal.returns
unfolding field_with
returns c =
    let v = c.args in
    sym (field_here v.self.now.bytes.now v.self.now.header v.f (search rules) (search rules)
    ∙ rw (← c.in_ok-kind.ensures, ← c.args.self.now.accepted.offset (v.f - 1) (search rules)))
