-- `with_records` meets its contract: key length 0 and no records change nothing, else the keys of the block follow
-- those passed. Assumes nothing.
use native.Mathlib.Omega.{arith}
use mathlib.Core.Path.{sym, ap, ◌∙◌}
use Prim.Native.Nat.{ℕ, ◌-◌}
use Rattle.table.specs.Steps.{keys_after, run_after}
use Rattle.table.specs.declared.keys.Keys.TheVariants.{Last}
use Rattle.table.proofs.KeyLaws.{run_keyless, run_empty, run_first, run_last, run_unordered, last_inside}
use Rattle.table.proofs.keys.with_records.Goals as goal

pub returns-then-key-eq0 : goal.returns-then-key-eq0
returns-then-key-eq0 c =
    let v = c.args in
    let f = v.file.now in
    sym (run_keyless f.bytes.now f.shape v.key v.block v.count v.keys c.if-key-eq0.true)

pub returns-then-count-eq0 : goal.returns-then-count-eq0
returns-then-count-eq0 c =
    let v = c.args in
    let f = v.file.now in
    sym (run_empty f.bytes.now f.shape v.key v.block v.count v.keys c.if-count-eq0.true)

pub ascend-requires : goal.ascend-requires
ascend-requires c =
    let r = c.requires.0 in
    record {
      run_inside = r;
      before_inside =
          omega (arith, c.record_at-first.ensures, r.short, r.inside 0 (omega (arith, c.if-count-eq0.false)));
      from_bound = omega (arith, c.if-count-eq0.false);
    }

pub ascend-requires-in-Last : goal.ascend-requires-in-Last
ascend-requires-in-Last c =
    let v = c.args in
    let f = v.file.now in
    record {
      run_inside = c.requires.0;
      before_inside = last_inside f.bytes.now v.key c.in-Last.before (rw c.in-Last.is at c.requires.1);
      from_bound = omega arith;
    }

pub returns-in-Empty : goal.returns-in-Empty
returns-in-Empty c =
    let v = c.args in
    let f = v.file.now in
    c.ascend.ensures
    ∙ ap (λ (a : ℕ). keys_after f.bytes.now f.shape v.key v.block 1 (v.count - 1) (Last a))
    c.record_at-first.ensures
    ∙ sym (ap (run_after f.bytes.now f.shape v.key v.block v.count)
    c.in-Empty.is
    ∙ run_first f.bytes.now f.shape v.key v.block c.if-key-eq0.false v.count c.if-count-eq0.false)

pub returns-in-Last : goal.returns-in-Last
returns-in-Last c =
    let v = c.args in
    let f = v.file.now in
    c.ascend-in-Last.ensures
    ∙ sym (ap (run_after f.bytes.now f.shape v.key v.block v.count) c.in-Last.is
    ∙ run_last f.bytes.now f.shape v.key v.block c.if-key-eq0.false v.count c.in-Last.before)

pub returns-in-Unordered : goal.returns-in-Unordered
returns-in-Unordered c =
    let v = c.args in
    let f = v.file.now in
    sym (ap (run_after f.bytes.now f.shape v.key v.block v.count) c.in-Unordered.is
    ∙ run_unordered f.bytes.now f.shape v.key v.block c.if-key-eq0.false v.count)
