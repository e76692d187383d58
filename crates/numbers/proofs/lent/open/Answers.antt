-- `open` meets its contract: 1 to 7, then 14. Assumes nothing.
use Rattle.std.proofs.Common.{Ok, refl, sym, ap, ◌∙◌}
use Rattle.header.specs.Numbers.{numbers_of}
use Rattle.header.specs.Opened as Opened
use Rattle.header.proofs.AcceptedLaws.{read_numbers}
use Rattle.numbers.proofs.LentLaws.{leaves, room_refused, room_short, room_kept}
use Rattle.numbers.proofs.lent.open.Goals as goal

pub returns-in_err-opened : goal.returns-in_err-opened
returns-in_err-opened c =
    let v = c.args in
    let t = v.table.now in
    let p = leaves _ c.from_residual.ensures.1 in
    record {
      its_header =
          ap Opened.header_in p
          ∙ sym (room_refused t v.room v.count (Ok (numbers_of t)) _ c.in_err-opened.ensures.its_header refl);
      its_bytes = rw p tt;
    }

pub returns-then-room-count : goal.returns-then-room-count
returns-then-room-count c =
    let v = c.args in
    let t = v.table.now in
    let o = c.in_ok-opened.ensures in
    record {
      its_header = sym (room_short t v.room v.count (Ok (numbers_of t)) _ o.its_header refl c.if-room-count.true);
      its_bytes = tt;
    }

pub returns : goal.returns
returns c =
    let v = c.args in
    let t = v.table.now in
    let o = c.in_ok-opened.ensures in
    record {
      its_header =
          ap Ok (read_numbers t _ o.its_header refl)
          ∙ sym (room_kept t v.room v.count (Ok (numbers_of t)) _ o.its_header refl c.if-room-count.false);
      its_bytes = o.its_bytes;
    }
