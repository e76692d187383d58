-- `next_record` meets its contract: 13, 9, 13 for the cursor itself, then the next place of its block or the next
-- block. Assumes nothing.
use mathlib.Core.Path.{◌≡◌, sym, ap, ◌∙◌}
use mathlib.Core.Bool.{true}
use Prim.Native.Nat.{◌+◌, ◌≤◌}
use Rattle.std.specs.Prelude.{Some, Err}
use borrow.Author.Rules.{rules}
use Rattle.header.specs.declared.refusal.Refusal.TheVariants.{WrongCount, BadArgument}
use Rattle.blocks.specs.Counts.{count_in}
use Rattle.blocks.proofs.ShapeLaws.{head_inside}
use Rattle.cursor.specs.Cursor.{Stepped, refused, in_reach, first_from}
use Rattle.cursor.proofs.CursorLaws.{reach_block, reach_moves, step_outside, step_bad, step_past, step_stays}
use Rattle.cursor.proofs.CursorLaws.{step_moves}
use Rattle.cursor.proofs.next_record.Goals as goal
use Rattle.cursor.proofs.next_record.Goals.{Else-not-in_reach, In_ok-count}

pub returns-then-not-in_reach : goal.returns-then-not-in_reach
returns-then-not-in_reach c =
    let v = c.args in
    let f = v.file.now in
    let q : ◌≡◌ {A = Stepped} (Err c.refused.result) (refused BadArgument v.cursor) = search rules in
    q ∙ sym (step_outside f.bytes.now f.shape v.cursor (sym c.in_reach.ensures.value ∙ c.if-not-in_reach.true))

-- where the cursor's block is in the file

enters : (c : Else-not-in_reach) → in_reach c.args.file.now.shape c.args.cursor.block c.args.cursor.moves ≡ true
enters c = sym c.in_reach.ensures.value ∙ c.if-not-in_reach.false

here : (c : Else-not-in_reach) → (1 ≤ c.args.cursor.block) × (c.args.cursor.block ≤ c.args.file.now.shape.blocks)
here c = reach_block c.args.file.now.shape c.args.cursor.block c.args.cursor.moves (enters c)

pub count-requires : goal.count-requires
count-requires c = here c

pub returns-in_err-count : goal.returns-in_err-count
returns-in_err-count c =
    let v = c.args in
    let f = v.file.now in
    let q : ◌≡◌ {A = Stepped} c.from_residual.result (refused WrongCount v.cursor) = search rules in
    q
    ∙ sym (step_bad f.bytes.now f.shape v.cursor (enters (goal.at.returns-in_err-count c).Else-not-in_reach)
    (sym c.count.ensures ∙ c.in_err-count.ensures.ok_part))

-- where its count is good

counted : (c : In_ok-count) → let f = c.args.file.now in
    count_in f.bytes.now f.shape c.args.cursor.block ≡ Some c.in_ok-count.count
counted c = sym c.count.ensures ∙ c.in_ok-count.ensures.ok_part

pub returns-then-count-cursor : goal.returns-then-count-cursor
returns-then-count-cursor c =
    let v = c.args in
    let f = v.file.now in
    let d = goal.at.returns-then-count-cursor c in
    let q : ◌≡◌ {A = Stepped} (Err c.refused-then-count-cursor.result) (refused BadArgument v.cursor) = search rules in
    q
    ∙ sym (step_past f.bytes.now f.shape v.cursor (enters d.Else-not-in_reach) c.in_ok-count.count
    (counted d.In_ok-count) c.if-count-cursor.true)

pub returns-then-place-count : goal.returns-then-place-count
returns-then-place-count c =
    let v = c.args in
    let f = v.file.now in
    let d = goal.at.returns-then-place-count c in
    sym (step_stays f.bytes.now f.shape v.cursor (enters d.Else-not-in_reach) c.in_ok-count.count
    (counted d.In_ok-count) c.if-place-count.true)

pub next_of-next-requires : goal.next_of-next-requires
next_of-next-requires c =
    let v = c.args in
    let f = v.file.now in
    let h = here (goal.at.next_of-next-requires c).Else-not-in_reach in
    (h.0, h.1, head_inside f.bytes.now f.shape f.sound v.cursor.block h.0 h.1)

pub overflow_add-cursor : goal.overflow_add-cursor
overflow_add-cursor c =
    let v = c.args in
    let f = v.file.now in
    let d = (goal.at.overflow_add-cursor c).Else-not-in_reach in
    let l = reach_moves f.shape v.cursor.block v.cursor.moves (enters d) in
    let fits = c.in_reach.ensures.fits in search rules

pub returns : goal.returns
returns c =
    let v = c.args in
    let f = v.file.now in
    let d = goal.at.returns c in
    c.first_from.ensures
    ∙ ap (first_from f.bytes.now f.shape v.cursor (v.cursor.moves + 1)) c.next_of-next.ensures
    ∙ sym (step_moves f.bytes.now f.shape v.cursor (enters d.Else-not-in_reach) c.in_ok-count.count
    (counted d.In_ok-count) c.if-count-cursor.false c.if-place-count.false)
