-- `header_given` meets its contract: 1 to 7, 14, then the numbers. Assumes nothing.
use Rattle.std.proofs.Common.{Ok, sym, ap, ◌∙◌}
use Rattle.header.specs.Numbers.{numbers_of}
use Rattle.numbers.specs.Header.{header_list}
use Rattle.numbers.proofs.LentLaws.{leaves, room_err, room_asked}
use Rattle.numbers.proofs.fields.header_given.Goals as goal

pub returns-in_err-opened : goal.returns-in_err-opened
returns-in_err-opened c =
    let t = c.args.table.now in
    leaves _ c.from_residual.ensures.1
    ∙ sym (room_err t c.args.room 14 (Ok (header_list (numbers_of t))) c.in_err-opened.ensures.its_header)

pub returns : goal.returns
returns c =
    let v = c.args in
    let o = c.in_ok-opened.ensures in
    ap Ok c.header_list.ensures ∙ room_asked (λ t h. Ok (header_list h)) v.table v.room 14 _ o.its_header _ o.its_bytes
