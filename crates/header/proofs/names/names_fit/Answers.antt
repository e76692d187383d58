-- `names_fit` meets its contract: what is left of the names fits exactly when all of them do. Assumes nothing.
use mathlib.Core.Path.{sym, ◌∙◌}
use borrow.Author.Rules.{rules}
use Rattle.header.proofs.NameLaws.{names_begin, names_more, names_broken, names_end}
use Rattle.header.proofs.names.names_fit.Goals as goal

pub loop-init : goal.loop-init
loop-init c = let v = c.args in names_begin v.t.now v.end v.n v.start (search rules)

pub returns-in_default : goal.returns-in_default
returns-in_default c =
    let v = c.args in
    sym (names_broken v.t.now v.end v.n v.start c.loop.counter c.loop.at c.loop.invariant (search rules)
    (sym c.name_end.ensures ∙ c.in_default.is))

pub loop-preserved : goal.loop-preserved
loop-preserved c =
    let v = c.args in
    names_more v.t.now v.end v.n v.start c.loop.counter c.loop.at c.loop.invariant (search rules)
    c.in-Some.next (sym c.name_end.ensures ∙ c.in-Some.is)

pub returns : goal.returns
returns c =
    let v = c.args in
    sym (names_end v.t.now v.end v.n v.start c.loop.counter c.loop.at c.loop.invariant (search rules))
