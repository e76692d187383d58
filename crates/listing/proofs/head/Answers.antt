-- `head` meets its contract: 14, the refusals of the table check, or the head line. Assumes nothing.
use mathlib.Core.Path.{refl}
use Rattle.header.specs.declared.refusal.Refusal.TheVariants.{ShortBuffer}
use Rattle.table.proofs.CheckLaws.{checked_numbers}
use Rattle.listing.proofs.HeadLaws.{long_answer, read_refused, read_kept, refused_head, accepted_head}
use borrow.Author.Rules.{rules}
use Rattle.listing.proofs.head.Goals as goal

pub returns-then-table-gt-MOST_BYTES : goal.returns-then-table-gt-MOST_BYTES
returns-then-table-gt-MOST_BYTES c =
    let r = c.refused.ensures in
    let w = refused_head _ _ _ _ ShortBuffer _ (long_answer c.args.table.now c.if-table-gt-MOST_BYTES.true)
    (r.prefix_len, (r.at_front, r.records_value)) in
    record { prefix_len = w.0; at_front = w.1.0; records_value = w.1.1 }

pub returns-in-Err : goal.returns-in-Err
returns-in-Err c =
    let short = c.if-table-gt-MOST_BYTES.false in
    let answered = rw c.in-Err.is at c.read.ensures.value in
    let a = read_refused _ _ _ answered short (search rules) refl in
    let r = c.refused-in-Err.ensures in
    let w = refused_head _ _ _ _ _ _ a (r.prefix_len, (r.at_front, r.records_value)) in
    record { prefix_len = w.0; at_front = w.1.0; records_value = w.1.1 }

pub returns-in-Ok : goal.returns-in-Ok
returns-in-Ok c =
    let short = c.if-table-gt-MOST_BYTES.false in
    let answered = rw c.in-Ok.is at c.read.ensures.value in
    let a = read_kept _ _ _ answered short (search rules) refl in
    let h = checked_numbers _ _ _ answered refl in
    let r = c.put_head.ensures in
    let w = accepted_head _ _ _ _ _ h a (r.prefix_len, r.at_front) in
    record { prefix_len = w.0; at_front = w.1.0; records_value = w.1.1 }
