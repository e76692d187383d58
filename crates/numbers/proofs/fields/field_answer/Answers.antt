-- `field_answer` meets its contract: 1 to 7, 14, then the field or 13. Assumes nothing.
use Rattle.std.proofs.Common.{sym, ◌∙◌}
use Rattle.header.specs.Numbers.{numbers_of}
use Rattle.numbers.specs.Header.{field_in}
use Rattle.numbers.proofs.LentLaws.{leaves, room_err, room_asked}
use Rattle.numbers.proofs.fields.field_answer.Goals as goal

pub returns-in_err-opened : goal.returns-in_err-opened
returns-in_err-opened c =
    let v = c.args in
    let t = v.table.now in
    leaves _ c.from_residual.ensures.1
    ∙ sym (room_err t v.room 6 (field_in t (numbers_of t) v.field) c.in_err-opened.ensures.its_header)

pub returns : goal.returns
returns c =
    let v = c.args in
    let o = c.in_ok-opened.ensures in
    c.field_in.ensures ∙ room_asked (λ t h. field_in t h v.field) v.table v.room 6 _ o.its_header _ o.its_bytes
