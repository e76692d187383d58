-- `Cursor::start` meets its contract: 1 to 7, then the first record from the first block on. Assumes nothing.
use mathlib.Core.Path.{◌≡◌, refl, sym, ap, ◌∙◌}
use Rattle.std.specs.Prelude.{Result, Ok, Err}
use borrow.Author.Rules.{rules}
use Rattle.header.specs.Answers.{header_answer}
use Rattle.header.specs.declared.refusal.Refusal.{Refusal}
use Rattle.header.specs.declared.table.Table.{Table}
use Rattle.cursor.specs.Cursor.{Stepped, refused, at_end, answer_numbers, start_of, start_numbers}
use Rattle.cursor.proofs.CursorLaws.{start_refused, start_read}
use Rattle.cursor.proofs.Cursor.start.Goals as goal
use Rattle.cursor.proofs.Cursor.start.Goals.{After-from_residual}

-- what opening the table refuses with
stops : (c : After-from_residual) → c.from_residual.result ≡ start_of c.args.table.now
stops c = go c.open.result refl
  where
    go : (r : Result Table Refusal) → c.open.result ≡ r → c.from_residual.result ≡ start_of c.args.table.now
    go (Ok table) e = absurd (search rules)
    go (Err x) e =
        let q : ◌≡◌ {A = Stepped} c.from_residual.result (refused x at_end) = search rules in
        let read : Err x ≡ header_answer c.args.table.now = rw e at c.open.ensures.its_header in
        q ∙ sym (start_refused c.args.table.now (Err x) read refl)

pub returns-in_err-opened : goal.returns-in_err-opened
unfolding start_numbers
returns-in_err-opened c = record { value = stops c; result_value = ap answer_numbers (stops c) }

pub returns : goal.returns
unfolding start_numbers
returns c =
    let e : c.open.result ≡ Ok c.in_ok-opened.opened = search rules in
    let o = rw e at c.open.ensures in
    let q = c.first_from.ensures
    ∙ rw (c.of-file.ensures.shape, c.of-file.ensures.bytes, o.its_bytes, c.at_end.ensures)
    (sym (start_read c.args.table.now (Ok c.in_ok-opened.opened.header) o.its_header refl)) in
    record { value = q; result_value = ap answer_numbers q }
