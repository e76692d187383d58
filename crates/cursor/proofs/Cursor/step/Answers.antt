-- `Cursor::step` meets its contract: 1 to 7, the end for an ended cursor, else the record after the cursor's. Assumes
-- nothing.
use mathlib.Core.Path.{◌≡◌, refl, sym, ap, ◌∙◌}
use Rattle.std.specs.Prelude.{Result, Ok, Err}
use borrow.Author.Rules.{rules}
use Rattle.header.specs.Answers.{header_answer}
use Rattle.header.specs.declared.refusal.Refusal.{Refusal}
use Rattle.header.specs.declared.table.Table.{Table}
use Rattle.cursor.specs.Cursor.{Stepped, refused, answer_numbers, step_of, step_numbers}
use Rattle.cursor.specs.declared.Step.TheVariants.{End}
use Rattle.cursor.proofs.CursorLaws.{step_refused, step_ended, step_read}
use Rattle.cursor.proofs.Cursor.step.Goals as goal
use Rattle.cursor.proofs.Cursor.step.Goals.{After-from_residual}

-- what opening the table refuses with
stops : (c : After-from_residual) → c.from_residual.result ≡ step_of c.args.table.now c.args.self
stops c = go c.open.result refl
  where
    go : (r : Result Table Refusal) → c.open.result ≡ r → c.from_residual.result ≡ step_of c.args.table.now c.args.self
    go (Ok table) e = absurd (search rules)
    go (Err x) e =
        let q : ◌≡◌ {A = Stepped} c.from_residual.result (refused x c.args.self) = search rules in
        let read : Err x ≡ header_answer c.args.table.now = rw e at c.open.ensures.its_header in
        q ∙ sym (step_refused c.args.table.now (Err x) read c.args.self refl)

pub returns-in_err-opened : goal.returns-in_err-opened
unfolding step_numbers
returns-in_err-opened c = record { value = stops c; result_value = ap answer_numbers (stops c) }

pub returns-then-self : goal.returns-then-self
unfolding step_numbers
returns-then-self c =
    let v = c.args in
    let e : c.open.result ≡ Ok c.in_ok-opened.opened = search rules in
    let o = rw e at c.open.ensures in
    let q : Ok (End c.at_end.result) ≡ step_of v.table.now v.self =
    rw c.at_end.ensures
    (sym (step_ended v.table.now (Ok c.in_ok-opened.opened.header) o.its_header v.self refl c.if-self.true)) in
    record { value = q; result_value = ap answer_numbers q }

pub returns : goal.returns
unfolding step_numbers
returns c =
    let v = c.args in
    let e : c.open.result ≡ Ok c.in_ok-opened.opened = search rules in
    let o = rw e at c.open.ensures in
    let q = c.next_record.ensures
    ∙ rw (c.of.ensures.shape, c.of.ensures.bytes, o.its_bytes)
    (sym (step_read v.table.now (Ok c.in_ok-opened.opened.header) o.its_header v.self refl c.if-self.false)) in
    record { value = q; result_value = ap answer_numbers q }
