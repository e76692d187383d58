-- `find_in_block` meets its contract: from the present place on the first record with the key is that of the whole
-- block. Assumes nothing.
use mathlib.Core.Path.{◌≡◌, sym, ap, ◌∙◌}
use native.Mathlib.Nat.{sub-zero}
use native.Mathlib.Omega.{arith}
use lib.Seq.{take-length}
use borrow.Author.Rules.{rules}
use Rattle.words.specs.Order.{is_same}
use Rattle.lookup.specs.Sought.{is_sought}
use Rattle.lookup.proofs.FirstLaws.{places_none, places_hit, places_miss}
use Rattle.lookup.proofs.block.find_in_block.Goals as goal
use Rattle.lookup.proofs.block.find_in_block.Goals.{After-is_eq}

pub loop-place-init : goal.loop-place-init
loop-place-init c = rw sub-zero

pub compare-requires : goal.compare-requires
compare-requires c =
    let r = c.requires in (
      omega (
        arith,
        c.record_at-at.ensures,
        r.short,
        r.inside c.loop-place.place c.loop-place-test.true,
      ),
      omega arith,
    )

-- the test is the definition's
tested : (c : After-is_eq) → let v = c.args in
    is_sought v.table.now v.shape v.key.now (record { block = v.block; place = c.loop-place.place }) ≡ c.is_eq.result
tested c =
    sym (c.is_eq.ensures ∙ ap is_same c.compare.ensures ∙ rw (c.record_at-at.ensures, take-length))

pub overflow_cast-result : goal.overflow_cast-result
overflow_cast-result c = let h = c.requires.high in search rules

pub returns-then-is_eq : goal.returns-then-is_eq
returns-then-is_eq c =
    let l = c.loop-place in
    let v = c.args in
    sym (l.invariant ∙ places_hit v.table.now v.shape v.key.now v.block l.place v.count
    c.loop-place-test.true (tested (goal.at.returns-then-is_eq c).After-is_eq ∙ c.if-is_eq.true))

pub loop-place-preserved : goal.loop-place-preserved
loop-place-preserved c =
    let l = c.loop-place in
    let v = c.args in
    l.invariant ∙ places_miss v.table.now v.shape v.key.now v.block l.place v.count
    c.loop-place-test.true (tested (goal.at.loop-place-preserved c).After-is_eq ∙ c.if-is_eq.false)

pub returns : goal.returns
returns c =
    let l = c.loop-place in
    let v = c.args in
    sym (l.invariant ∙ places_none v.table.now v.shape v.key.now v.block l.place v.count c.loop-place-test.false)
