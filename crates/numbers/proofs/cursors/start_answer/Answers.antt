-- `start_answer` meets its contract: with no number 1 to 7, then 14; else what starting a cursor answers. Assumes
-- nothing.
use Rattle.std.proofs.Common.{◌≡◌, refl, sym, ap, ◌∙◌, Ok, Err, rules}
use Rattle.cursor.specs.Cursor.{Stepped, start_of}
use Rattle.numbers.specs.Cursor.{refusal_only}
use Rattle.numbers.proofs.LentLaws.{leaves, room_refused, room_short}
use Rattle.numbers.proofs.CursorLaws.{start_some}
use Rattle.numbers.proofs.cursors.start_answer.Goals as goal
use Rattle.numbers.proofs.cursors.start_answer.Goals.{After-map_err}

pub returns-in_err-read : goal.returns-in_err-read
returns-in_err-read c =
    let t = c.args.table.now in
    leaves _ c.from_residual.ensures.1
    ∙ sym (room_refused t c.args.room 1 (refusal_only (start_of t)) _ c.in_err-read.ensures refl)

pub returns-then-room-lt1 : goal.returns-then-room-lt1
returns-then-room-lt1 c =
    let t = c.args.table.now in
    sym (room_short t c.args.room 1 (refusal_only (start_of t)) _ c.in_ok-read.ensures refl c.if-room-lt1.true)

-- the cursor that a refusal hands back is left out
only : (c : After-map_err) → c.map_err.result ≡ refusal_only c.start.result
unfolding refusal_only
only c = go c.start.result refl
  where
    go : (a : Stepped) → c.start.result ≡ a → c.map_err.result ≡ refusal_only a
    go (Ok step) e = search rules
    go (Err refused) e = search rules

pub returns : goal.returns
returns c =
    only c
    ∙ ap refusal_only c.start.ensures.value
    ∙ sym (start_some c.args.table.now c.args.room c.if-room-lt1.false)
