-- `first_from` meets its contract: from the present block on the first record is that of the whole. Each turn leaves
-- one move fewer. Assumes nothing.
use mathlib.Core.Path.{◌≡◌, sym, ap, ◌∙◌}
use mathlib.Core.Bool.{true}
use Prim.Native.Nat.{◌≤◌}
use native.Mathlib.Omega.{arith}
use Rattle.std.specs.Prelude.{Some, Ok, Err}
use borrow.Author.Rules.{rules}
use Rattle.header.specs.declared.refusal.Refusal.TheVariants.{ChainRule, WrongCount}
use Rattle.blocks.specs.Counts.{count_in}
use Rattle.blocks.proofs.ShapeLaws.{head_inside}
use Rattle.cursor.specs.Cursor.{Stepped, refused, in_reach, first_from}
use Rattle.cursor.specs.declared.Cursor.{Cursor}
use Rattle.cursor.specs.declared.Step.TheVariants.{End}
use Rattle.cursor.proofs.CursorLaws.{reach_block, reach_moves, from_end, from_outside, from_bad, from_record}
use Rattle.cursor.proofs.CursorLaws.{from_empty}
use Rattle.cursor.proofs.moves.first_from.Goals as goal
use Rattle.cursor.proofs.moves.first_from.Goals.{Else-not-in_reach, In_ok-count}

pub returns-then-not-in_reach : goal.returns-then-not-in_reach
returns-then-not-in_reach c =
    let l = c.loop-block in
    let v = c.args in
    let f = v.file.now in
    let q : ◌≡◌ {A = Stepped} (Err c.refused.result) (refused ChainRule v.back) = search rules in
    q
    ∙ sym (l.invariant ∙ from_outside f.bytes.now f.shape v.back l.made l.block
    c.loop-block-test.true (sym c.in_reach.ensures.value ∙ c.if-not-in_reach.true))

-- where the block is in reach

so_far : (c : Else-not-in_reach) → let f = c.args.file.now in
    first_from f.bytes.now f.shape c.args.back c.args.moves c.args.first
    ≡ first_from f.bytes.now f.shape c.args.back c.loop-block.made c.loop-block.block
so_far c = c.loop-block.invariant

met : (c : Else-not-in_reach) → c.loop-block.block ≡ 0 → ⊥
met c = c.loop-block-test.true

enters : (c : Else-not-in_reach) → in_reach c.args.file.now.shape c.loop-block.block c.loop-block.made ≡ true
enters c = sym c.in_reach.ensures.value ∙ c.if-not-in_reach.false

here : (c : Else-not-in_reach) → (1 ≤ c.loop-block.block) × (c.loop-block.block ≤ c.args.file.now.shape.blocks)
here c = reach_block c.args.file.now.shape c.loop-block.block c.loop-block.made (enters c)

pub count-requires : goal.count-requires
count-requires c = here c

pub returns-in_err-count : goal.returns-in_err-count
returns-in_err-count c =
    let v = c.args in
    let f = v.file.now in
    let d = (goal.at.returns-in_err-count c).Else-not-in_reach in
    let q : ◌≡◌ {A = Stepped} c.from_residual.result (refused WrongCount v.back) = search rules in
    q
    ∙ sym (so_far d ∙ from_bad f.bytes.now f.shape v.back c.loop-block.made c.loop-block.block (met d) (enters d)
    (sym c.count.ensures ∙ c.in_err-count.ensures.ok_part))

pub overflow_cast-result : goal.overflow_cast-result
overflow_cast-result c =
    let h = here (goal.at.overflow_cast-result c).Else-not-in_reach in
    let fits = c.in_reach.ensures.fits in search rules

-- where its count is good

counted : (c : In_ok-count) → let f = c.args.file.now in
    count_in f.bytes.now f.shape c.loop-block.block ≡ Some c.in_ok-count.count
counted c = sym c.count.ensures ∙ c.in_ok-count.ensures.ok_part

pub returns-then-count-ne0 : goal.returns-then-count-ne0
returns-then-count-ne0 c =
    let v = c.args in
    let f = v.file.now in
    let l = c.loop-block in
    let d = goal.at.returns-then-count-ne0 c in
    let e = d.Else-not-in_reach in
    sym (so_far e ∙ from_record f.bytes.now f.shape v.back l.made l.block (met e) (enters e) c.in_ok-count.count
    (counted d.In_ok-count) c.if-count-ne0.true)

pub next_of-block-requires : goal.next_of-block-requires
next_of-block-requires c =
    let v = c.args in
    let f = v.file.now in
    let d = (goal.at.next_of-block-requires c).Else-not-in_reach in
    let h = here d in
    (h.0, h.1, head_inside f.bytes.now f.shape f.sound c.loop-block.block h.0 h.1)

pub overflow_add-made : goal.overflow_add-made
overflow_add-made c =
    let l = reach_moves c.args.file.now.shape c.loop-block.block c.loop-block.made
    (enters (goal.at.overflow_add-made c).Else-not-in_reach) in
    let fits = c.in_reach.ensures.fits in search rules

pub loop-block-smaller : goal.loop-block-smaller
loop-block-smaller c =
    let l = reach_moves c.args.file.now.shape c.loop-block.block c.loop-block.made
    (enters (goal.at.loop-block-smaller c).Else-not-in_reach) in omega arith

pub loop-block-preserved : goal.loop-block-preserved
loop-block-preserved c =
    let v = c.args in
    let f = v.file.now in
    let l = c.loop-block in
    let d = goal.at.loop-block-preserved c in
    let e = d.Else-not-in_reach in
    rw c.next_of-block.ensures
    (so_far e ∙ from_empty f.bytes.now f.shape v.back l.made l.block (met e) (enters e) c.in_ok-count.count
    (counted d.In_ok-count) c.if-count-ne0.false)

pub returns : goal.returns
returns c =
    let l = c.loop-block in
    let v = c.args in
    let f = v.file.now in
    ap {B = Stepped} (λ (k : Cursor). Ok (End k)) c.at_end.ensures
    ∙ sym (l.invariant ∙ from_end f.bytes.now f.shape v.back l.made l.block c.loop-block-test.false)
