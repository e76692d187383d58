-- `name_end` meets its contract: after i turns the first i bytes are no zeros. Assumes nothing.
use mathlib.Core.Path.{sym, ◌∙◌}
use native.Mathlib.Omega.{arith}
use borrow.Author.Rules.{rules}
use Rattle.words.proofs.ZeroLaws.{nonzero_none, nonzero_more, before_least, before_is}
use Rattle.header.proofs.NameLaws.{name_beyond, name_empty, name_long, name_fits_lem}
use Rattle.header.proofs.names.name_end.Goals as goal

pub loop-i-init : goal.loop-i-init
loop-i-init c = nonzero_none c.args.t.now c.args.at

pub returns-then-end-at : goal.returns-then-end-at
returns-then-end-at c =
    let v = c.args in
    sym (name_beyond v.t.now v.end v.at (omega (
      arith,
      c.if-end-at.true,
      before_least v.t.now v.at 26 c.loop-i.i c.loop-i.auto.i-end c.loop-i.invariant,
    )))

pub returns-then-i-eq0 : goal.returns-then-i-eq0
returns-then-i-eq0 c =
    let v = c.args in
    sym (name_empty v.t.now v.end v.at (before_is v.t.now v.at 26 c.loop-i.i (search rules)
    c.loop-i.invariant c.if-t-at-eq0.true ∙ c.if-i-eq0.true))

pub returns-then-t-at-eq0 : goal.returns-then-t-at-eq0
returns-then-t-at-eq0 c =
    let v = c.args in
    sym (name_fits_lem v.t.now v.end v.at c.loop-i.i
    (before_is v.t.now v.at 26 c.loop-i.i (search rules) c.loop-i.invariant c.if-t-at-eq0.true)
    (search rules) (search rules) (search rules))

pub loop-i-preserved : goal.loop-i-preserved
loop-i-preserved c =
    let v = c.args in
    nonzero_more v.t.now v.at c.loop-i.i c.loop-i.invariant c.if-t-at-eq0.false

pub returns : goal.returns
returns c =
    let v = c.args in
    sym (name_long v.t.now v.end v.at (omega (
      arith,
      c.loop-i-test.false,
      before_least v.t.now v.at 26 c.loop-i.i c.loop-i.auto.i-end c.loop-i.invariant,
    )))
