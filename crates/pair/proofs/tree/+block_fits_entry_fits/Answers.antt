-- `block_fits` and `entry_fits` meet their contracts, which call each other down the tree: the entries passed come to
-- where the used chain is, those counted and those to come are all that are looked at, and the level falls at each
-- descent. Assumes nothing.
use Prim.Native.Nat.{◌-◌}
use mathlib.Core.Path.{sym, ◌∙◌}
use native.Mathlib.Nat.{pos_of_ne-zero}
use native.Mathlib.Omega.{arith}
use borrow.Author.Rules.{rules}
use Rattle.index.proofs.EntryLaws.{with_entries}
use Rattle.pair.specs.Tree.{entry_at}
use Rattle.pair.specs.Steps.{shapes_in}
use Rattle.pair.proofs.EntryLaws.{read_entry, entry_ends, entry_as_leaf, below_unfit, named_there, first_ends}
use Rattle.pair.proofs.EntryLaws.{key_unlike, key_alike, its_looked, descend_on}
use Rattle.pair.proofs.FollowLaws.{up_to_none, block_empty, block_done, block_turn, block_refused}
use Rattle.pair.proofs.LookedLaws.{counted_begin, counted_empty, counted_done, counted_turn}
use Rattle.pair.proofs.LookedLaws.{counted_refused, counted_within, leaf_looked, looked_small}
use Rattle.pair.proofs.tree.+block_fits_entry_fits.Goals as goal

pub block_fits-returns-then-count-eq0 : goal.block_fits-returns-then-count-eq0
block_fits-returns-then-count-eq0 t c =
    let v = c.args in
    let q = v.pair.now in
    let l = c.requires.1 in
    let m = c.entries_in-count in record {
      fit_value = sym (block_empty q.table.bytes.now q.index.bytes.now (shapes_in q) v.level v.block v.from m.result l
          m.ensures c.if-count-eq0.true);
      entries_value = counted_empty q.table.bytes.now q.index.bytes.now (shapes_in q) v.level v.block v.from m.result l
          m.ensures c.if-count-eq0.true;
    }

pub block_fits-loop-i-init : goal.block_fits-loop-i-init
block_fits-loop-i-init t c =
    let v = c.args in
    let q = v.pair.now in (
      up_to_none q.table.bytes.now q.index.bytes.now (shapes_in q) (v.level - 1) v.block v.from,
      counted_begin q.table.bytes.now q.index.bytes.now (shapes_in q) v.level v.block v.from
          c.entries_in-count.result c.requires.1
          c.entries_in-count.ensures,
    )

pub block_fits-overflow_sub-level : goal.block_fits-overflow_sub-level
block_fits-overflow_sub-level t c = c.requires.1

pub block_fits-entry_fits-read-requires : goal.block_fits-entry_fits-read-requires
block_fits-entry_fits-read-requires t c =
    let v = c.args in
    let l = c.loop-i in
    let p = c.requires in (
      omega (arith, c.decreases, p.1),
      (
        descend_on (v.level - 1) v.block l.i v.from l.reached
            p.0 l.invariant.0,
        omega (arith, c.entries_in-count.ensures, c.loop-i-test.true),
      ),
    )

pub block_fits-overflow_add-entries : goal.block_fits-overflow_add-entries
block_fits-overflow_add-entries t c =
    let v = c.args in
    let q = v.pair.now in
    let p = c.requires in
    let m = c.entries_in-count in
    let l = c.loop-i in
    let k = counted_within q.table.bytes.now q.index.bytes.now (shapes_in q) v.level v.block v.from m.result
    p.1 m.ensures l.i l.reached l.entries c.entry_fits-read.result.entries
    c.loop-i-test.true l.invariant.1 c.entry_fits-read.ensures.entries_value in
    let few = looked_small q.table.bytes.now q.index.bytes.now (shapes_in q) v.level v.block v.from
    (omega (arith, c.well_formed)) p.0.few p.0.chain in
    omega (arith, k, few)

pub block_fits-returns-in_default : goal.block_fits-returns-in_default
block_fits-returns-in_default t c =
    let v = c.args in
    let q = v.pair.now in
    let p = c.requires.1 in
    let m = c.entries_in-count in
    let l = c.loop-i in
    let j = c.loop-i-test.true in
    let some = c.if-count-eq0.false in
    let u = sym c.entry_fits-read.ensures.fit_value ∙ c.in_default.is in record {
      fit_value = sym (block_refused q.table.bytes.now q.index.bytes.now (shapes_in q) v.level v.block v.from m.result
          p m.ensures l.i l.reached some j l.invariant.0 u);
      entries_value = counted_refused q.table.bytes.now q.index.bytes.now (shapes_in q) v.level v.block v.from m.result
          p m.ensures l.i l.reached l.entries c.entry_fits-read.result.entries j l.invariant.1
          c.entry_fits-read.ensures.entries_value u;
    }

pub block_fits-loop-i-preserved : goal.block_fits-loop-i-preserved
block_fits-loop-i-preserved t c =
    let v = c.args in
    let q = v.pair.now in
    let p = c.requires.1 in
    let m = c.entries_in-count in
    let l = c.loop-i in
    let j = c.loop-i-test.true in
    let d = c.in-Some.next in
    let u = sym c.entry_fits-read.ensures.fit_value ∙ c.in-Some.is in (
      block_turn q.table.bytes.now q.index.bytes.now (shapes_in q) v.level v.block v.from m.result p
          m.ensures l.i l.reached d l.invariant.0 u,
      counted_turn q.table.bytes.now q.index.bytes.now (shapes_in q) v.level v.block v.from m.result p
          m.ensures l.i l.reached l.entries c.entry_fits-read.result.entries j l.invariant.1
          c.entry_fits-read.ensures.entries_value d u,
    )

pub block_fits-returns : goal.block_fits-returns
block_fits-returns t c =
    let v = c.args in
    let q = v.pair.now in
    let p = c.requires.1 in
    let m = c.entries_in-count in
    let k = c.loop-i-test.false in
    let l = c.loop-i in record {
      fit_value = sym (block_done q.table.bytes.now q.index.bytes.now (shapes_in q) v.level v.block v.from m.result p
          m.ensures l.i l.reached c.if-count-eq0.false l.auto.i-end k l.invariant.0);
      entries_value = counted_done q.table.bytes.now q.index.bytes.now (shapes_in q) v.level v.block v.from m.result p
          m.ensures l.i l.reached l.entries k l.invariant.1;
    }

pub entry_fits-record_at-at-requires : goal.entry_fits-record_at-at-requires
entry_fits-record_at-at-requires t c =
    let v = c.args in
    let q = v.pair.now in
    let w = with_entries q.index.bytes.now q.index.shape v.block
    (omega (arith, c.requires.1)) in
    (w.low, w.high, search rules)

pub entry_fits-overflow_add-at : goal.entry_fits-overflow_add-at
entry_fits-overflow_add-at t c =
    let i = entry_ends c.args.block c.args.i c.requires.0 c.requires.1 c.record_at-at.ensures in search rules

pub entry_fits-block_named-named-requires : goal.entry_fits-block_named-named-requires
entry_fits-block_named-named-requires t c =
    omega (arith, entry_ends c.args.block c.args.i c.requires.0 c.requires.1 c.record_at-at.ensures)

pub entry_fits-leaf_fits-fit-requires : goal.entry_fits-leaf_fits-fit-requires
entry_fits-leaf_fits-fit-requires t c =
    (c.requires.0, omega (arith, entry_ends c.args.block c.args.i c.requires.0 c.requires.1 c.record_at-at.ensures))

pub entry_fits-returns-then-level-eq0 : goal.entry_fits-returns-then-level-eq0
entry_fits-returns-then-level-eq0 t c =
    let v = c.args in
    let q = v.pair.now in
    let z = c.if-level-eq0.true in
    let r = read_entry c.requires.0 c.requires.1 c.record_at-at.ensures c.block_named-named.ensures in
    record {
      fit_value = entry_as_leaf r z c.leaf_fits-fit.ensures;
      entries_value =
          sym (leaf_looked q.table.bytes.now q.index.bytes.now (shapes_in q) v.level
          (entry_at q.index.bytes.now q.index.shape q.key_length v.block v.i) v.from z);
    }

pub entry_fits-block_fits-read-requires : goal.entry_fits-block_fits-read-requires
entry_fits-block_fits-read-requires t c =
    (omega (arith, c.decreases), (c.requires.0, pos_of_ne-zero c.if-level-eq0.false))

pub entry_fits-overflow_add-entries : goal.entry_fits-overflow_add-entries
entry_fits-overflow_add-entries t c =
    let v = c.args in
    let q = v.pair.now in
    let few = looked_small q.table.bytes.now q.index.bytes.now (shapes_in q) v.level c.block_named-named.result v.from
    (omega (arith, c.well_formed)) c.requires.0.few c.requires.0.chain in
    omega (arith, few, c.block_fits-read.ensures.entries_value)

pub entry_fits-returns-in_default : goal.entry_fits-returns-in_default
entry_fits-returns-in_default t c =
    let r = read_entry c.requires.0 c.requires.1 c.record_at-at.ensures c.block_named-named.ensures in
    let e = c.block_fits-read.ensures in
    record {
      fit_value = below_unfit r c.if-level-eq0.false e.fit_value c.in_default.is;
      entries_value = its_looked c.args.level r e.entries_value;
    }

pub entry_fits-record_at-first-requires : goal.entry_fits-record_at-first-requires
entry_fits-record_at-first-requires t c =
    let r = read_entry c.requires.0 c.requires.1 c.record_at-at.ensures c.block_named-named.ensures in
    let w = named_there r c.if-level-eq0.false c.block_fits-read.ensures.fit_value c.in-Some.next c.in-Some.is in
    (w.low, w.high, omega arith)

pub entry_fits-compare-requires : goal.entry_fits-compare-requires
entry_fits-compare-requires t c =
    let r = read_entry c.requires.0 c.requires.1 c.record_at-at.ensures c.block_named-named.ensures in
    let w = first_ends r c.if-level-eq0.false c.block_fits-read.ensures.fit_value c.in-Some.next c.in-Some.is in
    let its = entry_ends c.args.block c.args.i c.requires.0 c.requires.1 c.record_at-at.ensures in
    (omega (arith, its), omega (arith, w, c.record_at-first.ensures))

pub entry_fits-returns-then-not-is_eq : goal.entry_fits-returns-then-not-is_eq
entry_fits-returns-then-not-is_eq t c =
    let r = read_entry c.requires.0 c.requires.1 c.record_at-at.ensures c.block_named-named.ensures in
    let e = c.block_fits-read.ensures in
    record {
      fit_value =
          key_unlike r c.if-level-eq0.false e.fit_value c.in-Some.next c.in-Some.is c.record_at-first.ensures
          c.compare.ensures c.is_eq.ensures c.if-not-is_eq.true;
      entries_value = its_looked c.args.level r e.entries_value;
    }

pub entry_fits-returns : goal.entry_fits-returns
entry_fits-returns t c =
    let r = read_entry c.requires.0 c.requires.1 c.record_at-at.ensures c.block_named-named.ensures in
    let e = c.block_fits-read.ensures in
    record {
      fit_value =
          key_alike r c.if-level-eq0.false e.fit_value c.in-Some.next c.in-Some.is c.record_at-first.ensures
          c.compare.ensures c.is_eq.ensures c.if-not-is_eq.false;
      entries_value = its_looked c.args.level r e.entries_value;
    }
