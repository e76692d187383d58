-- `read` meets its contract: a whole file is its own front. Assumes nothing.
use mathlib.Core.Path.{sym, ap, ◌∙◌}
use lib.ListN.{length}
use Rattle.std.specs.Prelude.{Err}
use Rattle.std.proofs.lemmas.Result.{err_from_is_err_and}
use Rattle.header.specs.Steps.{rest_answer}
use Rattle.header.specs.declared.stored.Stored.{Stored}
use Rattle.header.proofs.HeaderLaws.{held_limits, header_refused, header_rest, limited_by, whole_inside}
use Rattle.header.proofs.read.Goals as goal

pub returns-in_err-s : goal.returns-in_err-s
returns-in_err-s c =
    let p = err_from_is_err_and c.from_residual.result c.from_residual.ensures.1 in
    p.1 ∙ ap Err p.2 ∙ sym (header_refused c.args.t.now (sym c.in_err-s.ensures))

pub rest-requires : goal.rest-requires
rest-requires c =
    let t = c.args.t.now in
    let p = held_limits t (length t) (sym c.in_ok-s.ensures) in
    rw p.1 (limited_by t (length t) p.0 (whole_inside t))

pub returns : goal.returns
returns c =
    let t = c.args.t.now in
    let p = held_limits t (length t) (sym c.in_ok-s.ensures) in
    c.rest.ensures ∙ ap (λ (s : Stored). rest_answer t (length t) s) p.1 ∙ sym (header_rest t p.0)
