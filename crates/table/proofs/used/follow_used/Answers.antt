-- `follow_used` meets its contract: at each block it holds what `Following` says (UsedLaws). Assumes nothing.
use mathlib.Core.Path.{◌≡◌, sym, ◌∙◌}
use mathlib.Core.Bool.{true}
use native.Mathlib.Omega.{arith}
use Rattle.chain.specs.Marks.{is_unmarked}
use Rattle.chain.proofs.FollowLaws.{Unmarked, unmarked_gives, fewer}
use Rattle.table.proofs.UsedLaws.{follow_begins, block_here, head_here, room_here, follow_on}
use Rattle.table.proofs.UsedLaws.{follow_marked, follow_unnamed, follow_ends}
use Rattle.table.proofs.used.follow_used.Goals as goal
use Rattle.table.proofs.used.follow_used.Goals.{Else-not-is_unmarked}

pub loop-block-init : goal.loop-block-init
loop-block-init c =
    let v = c.args in
    rw c.start.ensures (follow_begins v.file.now.bytes.now v.file.now.shape v.key v.first v.marks.now
    c.requires.long)

pub shape_of-marks-then-not-is_unmarked : goal.shape_of-marks-then-not-is_unmarked
shape_of-marks-then-not-is_unmarked c = c.loop-block.invariant.going.same

pub returns-then-not-is_unmarked : goal.returns-then-not-is_unmarked
returns-then-not-is_unmarked c =
    let l = c.loop-block in
    follow_marked l.invariant c.loop-block-test.true (sym c.is_unmarked.ensures ∙ c.if-not-is_unmarked.true) l.marks

-- where the block has no mark

here : (c : Else-not-is_unmarked) → is_unmarked c.loop-block.marks c.loop-block.block ≡ true
here c = sym c.is_unmarked.ensures ∙ c.if-not-is_unmarked.false

unmarked : (c : Else-not-is_unmarked) → Unmarked c.loop-block.marks c.loop-block.block
unmarked c = unmarked_gives c.loop-block.marks c.loop-block.block (here c)

pub previous_of-requires : goal.previous_of-requires
previous_of-requires c =
    head_here c.loop-block.invariant c.requires (here (goal.at.previous_of-requires c).Else-not-is_unmarked)
    c.args.file.now.sound

pub shape_of-marks-then-previous_of-before : goal.shape_of-marks-then-previous_of-before
shape_of-marks-then-previous_of-before c = c.loop-block.invariant.going.same

pub returns-then-previous_of-before : goal.returns-then-previous_of-before
returns-then-previous_of-before c =
    let l = c.loop-block in
    let before = goal.at.returns-then-previous_of-before c in
    follow_unnamed l.invariant c.loop-block-test.true (here before.Else-not-is_unmarked)
    (λ e. c.if-previous_of-before.true (c.previous_of.ensures ∙ e)) l.marks

pub overflow_sub-marks : goal.overflow_sub-marks
overflow_sub-marks c = (unmarked (goal.at.overflow_sub-marks c).Else-not-is_unmarked).low

pub bounds-marks-block : goal.bounds-marks-block
bounds-marks-block c = omega (arith, unmarked (goal.at.bounds-marks-block c).Else-not-is_unmarked)

pub with_block-tally-requires : goal.with_block-tally-requires
with_block-tally-requires c =
    let w = c.loop-block.invariant in
    let a = c.requires in
    let e = here (goal.at.with_block-tally-requires c).Else-not-is_unmarked in
    record { le_block = block_here w a e; key_bound = a.short; within = room_here w a e }

pub next_of-block-requires : goal.next_of-block-requires
next_of-block-requires c =
    head_here c.loop-block.invariant c.requires (here (goal.at.next_of-block-requires c).Else-not-is_unmarked)
    c.args.file.now.sound

pub loop-block-smaller : goal.loop-block-smaller
loop-block-smaller c =
    let l = c.loop-block in
    let u = unmarked (goal.at.loop-block-smaller c).Else-not-is_unmarked in
    omega (arith, fewer l.marks l.block 1 u (omega arith))

pub loop-block-preserved : goal.loop-block-preserved
loop-block-preserved c =
    let e = here (goal.at.loop-block-preserved c).Else-not-is_unmarked in
    rw (c.next_of-block.ensures, c.with_block-tally.ensures)
    (follow_on c.loop-block.invariant c.requires e c.args.file.now.sound c.loop-block-test.true
    (sym c.previous_of.ensures ∙ c.if-previous_of-before.false))

pub shape_of-marks : goal.shape_of-marks
shape_of-marks c = c.loop-block.invariant.going.same

pub returns : goal.returns
returns c = follow_ends c.loop-block.invariant c.loop-block-test.false
