-- `step_answer` meets its contract: with no number 1 to 7, then 14; else what stepping the first number's cursor
-- answers. Assumes nothing.
use Rattle.std.proofs.Common.{◌≡◌, length, get_or, refl, sym, ap, ◌∙◌, Ok, Err, arith, rules}
use native.Mathlib.Nat.{pos_of_ne-zero}
use borrow.Author.Tests.{eqb-true, eqb-false}
use Rattle.cursor.specs.Cursor.{Stepped, step_of}
use Rattle.numbers.specs.Cursor.{cursor_in, refusal_only}
use Rattle.numbers.proofs.LentLaws.{leaves, room_refused, room_short}
use Rattle.numbers.proofs.CursorLaws.{step_some}
use Rattle.numbers.proofs.cursors.step_answer.Goals as goal
use Rattle.numbers.proofs.cursors.step_answer.Goals.{After-map_err}

pub returns-in_err-read : goal.returns-in_err-read
returns-in_err-read c =
    let t = c.args.table.now in
    let n = c.args.cursor.now in
    leaves _ c.from_residual.ensures.1
    ∙ sym (room_refused t (length n) 1 (refusal_only (step_of t (cursor_in (get_or n 0 0)))) _ c.in_err-read.ensures
    refl)

pub returns-then-is_empty : goal.returns-then-is_empty
returns-then-is_empty c =
    let t = c.args.table.now in
    let n = c.args.cursor.now in
    sym (room_short t (length n) 1 (refusal_only (step_of t (cursor_in (get_or n 0 0)))) _ c.in_ok-read.ensures refl
    (omega (arith, eqb-true (length n) 0 (sym c.if-is_empty.ensures))))

-- the cursor that a refusal hands back is left out
only : (c : After-map_err) → c.map_err.result ≡ refusal_only c.step.result
unfolding refusal_only
only c = go c.step.result refl
  where
    go : (a : Stepped) → c.step.result ≡ a → c.map_err.result ≡ refusal_only a
    go (Ok step) e = search rules
    go (Err refused) e = search rules

pub returns : goal.returns
returns c =
    let t = c.args.table.now in
    let n = c.args.cursor.now in
    let some = pos_of_ne-zero (eqb-false (length n) 0 (sym c.if-is_empty.ensures)) in
    only c
    ∙ ap refusal_only (c.step.ensures.value ∙ ap (step_of t) c.unpack.ensures)
    ∙ sym (step_some t n some)
