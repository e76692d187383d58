-- `Table::name` meets its contract: no such field, or the name behind the names before it. Assumes nothing.
use mathlib.Core.Path.{sym}
use borrow.Author.Rules.{rules}
use Rattle.header.proofs.NamedLaws.{name_low, name_high, names_to, start_fit, name_is}
use Rattle.header.proofs.table.Table.name.Goals as goal

pub returns-then-f-lt1 : goal.returns-then-f-lt1
returns-then-f-lt1 c = let v = c.args in sym (name_low v.self.now.bytes.now v.self.now.header v.f c.if-f-lt1.true)

pub returns-then-n-f : goal.returns-then-n-f
returns-then-n-f c = let v = c.args in sym (name_high v.self.now.bytes.now v.self.now.header v.f c.if-n-f.true)

pub name_start-start-requires : goal.name_start-start-requires
name_start-start-requires c =
    let v = c.args in
    let t = v.self.now in
    (search rules, names_to t.bytes.now t.header t.accepted v.f (search rules) (search rules))

pub name_length-requires : goal.name_length-requires
name_length-requires c =
    let v = c.args in (
      search rules,
      start_fit v.self.now.bytes.now v.self.now.header v.self.now.accepted v.f (search rules) (search rules)
          c.name_start-start.result c.name_start-start.ensures,
    )

pub returns : goal.returns
returns c =
    let v = c.args in
    let t = v.self.now in
    name_is t.bytes.now t.header t.accepted v.f (search rules) (search rules) c.name_start-start.result
    c.name_start-start.ensures c.name_length.result c.name_length.ensures
