-- `walk_tree` meets its contract: the walk from the present block, at the level that is left, is the whole walk.
-- Assumes nothing.
use Rattle.std.specs.Prelude.{Ok, Err}
use Rattle.std.proofs.lemmas.Result.{err_from_is_err_and}
use Prim.Native.Nat.{◌-◌, ◌+◌}
use mathlib.Core.Path.{◌≡◌, sym, ap, ◌∙◌}
use native.Mathlib.Nat.{sub-zero}
use native.Mathlib.Omega.{arith}
use Rattle.index.specs.Walk.{found_after}
use Rattle.index.proofs.WalkLaws.{walk_refused, walk_absent, walk_down, walk_end}
use Rattle.index.proofs.walking.walk_tree.Goals as goal

pub loop-reads-init : goal.loop-reads-init
loop-reads-init c = rw sub-zero

pub descend-requires : goal.descend-requires
descend-requires c = c.requires.size

pub returns-in_err-next : goal.returns-in_err-next
returns-in_err-next c =
    let v = c.args in
    let t = v.table.now in
    let x = v.index.now in
    let l = c.loop-reads in
    let p = err_from_is_err_and c.from_residual.result c.from_residual.ensures.1 in
    p.1 ∙ ap Err p.2
    ∙ sym (l.invariant
    ∙ walk_refused t.bytes.now t.shape x.bytes.now x.shape v.key.now l.block l.reads (v.levels - l.reads)
    (omega arith) (sym c.in_err-next.ensures))

pub returns-in_default : goal.returns-in_default
unfolding found_after
returns-in_default c =
    let v = c.args in
    let t = v.table.now in
    let x = v.index.now in
    let l = c.loop-reads in
    sym (l.invariant
    ∙ walk_absent t.bytes.now t.shape x.bytes.now x.shape v.key.now l.block l.reads (v.levels - l.reads)
    (omega arith) (sym c.in_ok-next.ensures ∙ ap Ok c.in_default.is))

pub loop-reads-preserved : goal.loop-reads-preserved
loop-reads-preserved c =
    let v = c.args in
    let t = v.table.now in
    let x = v.index.now in
    let l = c.loop-reads in
    let e : v.levels - l.reads - 1 ≡ v.levels - (l.reads + 1) = omega arith in
    l.invariant
    ∙ walk_down t.bytes.now t.shape x.bytes.now x.shape v.key.now l.block l.reads (v.levels - l.reads)
    (omega arith) c.in-Some.next (sym c.in_ok-next.ensures ∙ ap Ok c.in-Some.is) ∙ rw e

pub find_in_data-requires : goal.find_in_data-requires
find_in_data-requires c = c.requires.short

pub returns : goal.returns
returns c =
    let v = c.args in
    let t = v.table.now in
    let x = v.index.now in
    let l = c.loop-reads in
    c.find_in_data.ensures
    ∙ sym (l.invariant
    ∙ walk_end t.bytes.now t.shape x.bytes.now x.shape v.key.now l.block l.reads v.levels (omega arith))
