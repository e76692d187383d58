-- `follow_free` meets its contract: the chain that is left decides what the whole comes to (FollowLaws). Assumes
-- nothing.
use mathlib.Core.Path.{◌≡◌, refl, sym, ◌∙◌}
use mathlib.Core.Bool.{true, false, false≢true}
use Prim.Native.Nat.{◌≤◌}
use native.Mathlib.Omega.{arith}
use Rattle.blocks.proofs.ShapeLaws.{head_inside}
use Rattle.chain.specs.Links.{next_of, blocks_from}
use Rattle.chain.specs.Marks.{is_unmarked}
use Rattle.chain.specs.Following.{any_two}
use Rattle.chain.proofs.FollowLaws.{Unmarked, unmarked_gives, fewer, begin, step, broken, whole_judged}
use Rattle.chain.proofs.FollowLaws.{whole_stored}
use Rattle.table.proofs.free.follow_free.Invariants.{keep}
use Rattle.table.proofs.free.follow_free.Goals as goal
use Rattle.table.proofs.free.follow_free.Goals.{Else-not-is_unmarked}

pub loop-block-init : goal.loop-block-init
loop-block-init c =
    let v = c.args in (
      0,
      begin (next_of v.file.now.bytes.now v.file.now.shape) any_two 2 keep 0 v.file.now.shape.blocks
          v.first v.marks.now c.requires,
    )

pub shape_of-marks-then-not-is_unmarked : goal.shape_of-marks-then-not-is_unmarked
shape_of-marks-then-not-is_unmarked c = c.loop-block.invariant.1.same

pub returns-then-not-is_unmarked : goal.returns-then-not-is_unmarked
returns-then-not-is_unmarked c =
    let v = c.args in
    let l = c.loop-block in
    let next = next_of v.file.now.bytes.now v.file.now.shape in
    let has-mark : is_unmarked l.marks l.block ≡ false = sym c.is_unmarked.ensures
    ∙ c.if-not-is_unmarked.true in
    record {
      judged =
          broken next any_two 2 keep 0 (blocks_from v.file.now.bytes.now v.file.now.shape v.first) v.marks.now l.marks 0
          l.invariant.0 l.block c.loop-block-test.true (rw has-mark) l.invariant.1;
      stored = λ e. absurd (false≢true e);
    }

-- where a block may be taken

is-unmarked : (c : Else-not-is_unmarked) → is_unmarked c.loop-block.marks c.loop-block.block ≡ true
is-unmarked c = sym c.is_unmarked.ensures ∙ c.if-not-is_unmarked.false

here : (c : Else-not-is_unmarked) → Unmarked c.loop-block.marks c.loop-block.block
here c = unmarked_gives c.loop-block.marks c.loop-block.block (is-unmarked c)

pub overflow_sub-marks : goal.overflow_sub-marks
overflow_sub-marks c = (here c).low

pub bounds-marks-block : goal.bounds-marks-block
bounds-marks-block c = omega (arith, here c)

pub next_of-block-requires : goal.next_of-block-requires
next_of-block-requires c =
    let v = c.args in
    let u = here (goal.at.next_of-block-requires c).Else-not-is_unmarked in
    let high : c.loop-block.block ≤ v.file.now.shape.blocks = omega (
      arith,
      u,
      c.requires,
      c.loop-block.invariant.1.same,
    ) in
    (u.low, high, head_inside v.file.now.bytes.now v.file.now.shape v.file.now.sound c.loop-block.block u.low high)

pub loop-block-smaller : goal.loop-block-smaller
loop-block-smaller c =
    let l = c.loop-block in
    let u = here (goal.at.loop-block-smaller c).Else-not-is_unmarked in
    omega (arith, fewer l.marks l.block 2 u (omega arith))

pub loop-block-preserved : goal.loop-block-preserved
loop-block-preserved c =
    let v = c.args in
    let l = c.loop-block in
    let e = is-unmarked (goal.at.loop-block-preserved c).Else-not-is_unmarked in
    let next = next_of v.file.now.bytes.now v.file.now.shape in (
      l.block,
      rw c.next_of-block.ensures
          (step next any_two 2 keep 0 (blocks_from v.file.now.bytes.now v.file.now.shape v.first) v.marks.now l.marks 0
          l.invariant.0 l.block c.loop-block-test.true (omega arith) e refl
          l.invariant.1),
    )

pub shape_of-marks : goal.shape_of-marks
shape_of-marks c = c.loop-block.invariant.1.same

pub returns : goal.returns
returns c =
    let v = c.args in
    let l = c.loop-block in
    let next = next_of v.file.now.bytes.now v.file.now.shape in
    let whole = blocks_from v.file.now.bytes.now v.file.now.shape v.first in
    record {
      judged =
          whole_judged next any_two 2 keep 0 whole v.marks.now l.marks 0 l.invariant.0 l.block
          c.loop-block-test.false l.invariant.1;
      stored =
          λ _. whole_stored next any_two 2 keep 0 whole v.marks.now l.marks 0 l.invariant.0 l.block
          c.loop-block-test.false l.invariant.1;
    }
