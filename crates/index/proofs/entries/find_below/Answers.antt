-- `find_below` meets its contract: the entries not yet looked at lead where all of them do. Assumes nothing.
use mathlib.Core.Path.{◌≡◌, refl, sym, ap, ◌∙◌}
use Prim.Native.Nat.{◌-◌}
use native.Mathlib.Omega.{arith}
use lib.ListN.{length}
use lib.Seq.{take-length}
use Rattle.words.specs.Order.{is_at_most, order}
use Rattle.index.specs.Entries.{entry_key, entry_block}
use Rattle.index.proofs.EntryLaws.{below_hit, below_miss, below_none}
use borrow.Author.Rules.{rules}
use Rattle.index.proofs.entries.find_below.Goals as goal
use Rattle.index.proofs.entries.find_below.Goals.{After-is_le}

pub loop-i-init : goal.loop-i-init
loop-i-init c = (search rules, refl)

pub compare-requires : goal.compare-requires
compare-requires c =
    let r = c.requires in
    let l = c.loop-i in (
      omega (
        arith,
        c.record_at-at.ensures,
        r.short,
        r.inside (l.i - 1) (omega (arith, l.invariant.0, c.loop-i-test.true)),
      ),
      omega arith,
    )

pub overflow_add-at : goal.overflow_add-at
overflow_add-at c =
    let r = c.requires in
    let l = c.loop-i in
    omega (
      arith,
      c.record_at-at.ensures,
      r.short,
      r.inside (l.i - 1) (omega (arith, l.invariant.0, c.loop-i-test.true)),
    )

pub block_named-requires : goal.block_named-requires
block_named-requires c =
    let r = c.requires in
    let l = c.loop-i in
    omega (
      arith,
      c.record_at-at.ensures,
      r.short,
      r.inside (l.i - 1) (omega (arith, l.invariant.0, c.loop-i-test.true)),
    )

-- the test is the definition's
tested : (c : After-is_le) → let l = c.loop-i in
    let v = c.args in
    is_at_most (order (entry_key v.file.now.bytes.now v.file.now.shape (length v.key.now) v.block (l.i - 1))
    v.key.now) ≡ c.is_le.result
tested c =
    sym (c.is_le.ensures ∙ ap is_at_most c.compare.ensures
    ∙ rw (c.record_at-at.ensures, take-length))

pub returns-then-is_le : goal.returns-then-is_le
unfolding entry_block
returns-then-is_le c =
    let v = c.args in
    let l = c.loop-i in
    sym (l.invariant.1
    ∙ below_hit v.file.now.bytes.now v.file.now.shape v.block v.key.now l.i
    c.loop-i-test.true (tested (goal.at.returns-then-is_le c).After-is_le ∙ c.if-is_le.true)
    ∙ rw (c.block_named.ensures, c.record_at-at.ensures))

pub loop-i-preserved : goal.loop-i-preserved
loop-i-preserved c =
    let v = c.args in
    let l = c.loop-i in (
      search rules,
      l.invariant.1 ∙ below_miss v.file.now.bytes.now v.file.now.shape v.block v.key.now l.i
          c.loop-i-test.true (tested (goal.at.loop-i-preserved c).After-is_le ∙ c.if-is_le.false),
    )

pub returns : goal.returns
returns c =
    let v = c.args in
    let l = c.loop-i in
    sym (l.invariant.1 ∙ below_none v.file.now.bytes.now v.file.now.shape v.block v.key.now l.i c.loop-i-test.false)
