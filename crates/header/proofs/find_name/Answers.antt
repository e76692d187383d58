-- `find_name` meets its contract: 1 to 7, then the name of an accepted table. Assumes nothing.
use Rattle.std.proofs.Common.{List, refl, sym, ap, ◌∙◌, Bor, Err, ℕ}
use Rattle.std.proofs.lemmas.Result.{err_from_is_err_and}
use Rattle.header.specs.Numbers.{numbers_of}
use Rattle.header.specs.Names.{name_in, name_of}
use Rattle.header.specs.declared.Header.{Header}
use Rattle.header.proofs.AcceptedLaws.{read_numbers, first_kept, first_refused}
use Rattle.header.proofs.find_name.Goals as goal

pub returns-in_err-open : goal.returns-in_err-open
unfolding name_of
returns-in_err-open c =
    let t = c.args.t.now in
    let p = err_from_is_err_and c.from_residual.result c.from_residual.ensures.1 in
    p.1 ∙ ap Err p.2
    ∙ sym (first_refused t _ c.in_err-open.ensures.its_header Err (name_in t (numbers_of t) c.args.field) refl)

pub returns : goal.returns
unfolding name_of
returns c =
    let t = c.args.t.now in
    let f = c.args.field in
    let o = c.in_ok-open.ensures in
    c.name.ensures
    ∙ ap (λ (b : Bor (List ℕ)). name_in b.now c.in_ok-open.field-0.header f) o.its_bytes
    ∙ ap (λ (h : Header). name_in t h f) (read_numbers t _ o.its_header refl)
    ∙ sym (first_kept t _ o.its_header Err (name_in t (numbers_of t) f) refl)
