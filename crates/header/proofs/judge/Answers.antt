-- `judge` meets its contract: rules 1 to 5, whether the front has the whole header, then 6 and 7. Assumes nothing.
use mathlib.Core.Path.{sym, ap, ◌∙◌}
use Rattle.std.specs.Prelude.{Err}
use Rattle.std.proofs.lemmas.Result.{err_from_is_err_and}
use Rattle.header.specs.Steps.{rest_answer}
use Rattle.header.specs.declared.stored.Stored.{Stored}
use Rattle.header.proofs.HeaderLaws.{held_limits, front_refused, front_short, front_rest, fronted, limited_by}
use Rattle.header.proofs.judge.Goals as goal

pub returns-in_err-s : goal.returns-in_err-s
returns-in_err-s c =
    let p = err_from_is_err_and c.from_residual.result c.from_residual.ensures.1 in
    p.1 ∙ ap Err p.2 ∙ sym (front_refused c.args.front.now c.args.long (sym c.in_err-s.ensures))

pub returns-then-front-s : goal.returns-then-front-s
returns-then-front-s c =
    let v = c.args in
    let p = held_limits v.front.now v.long (sym c.in_ok-s.ensures) in
    sym (front_short v.front.now v.long p.0 (rw p.1 at c.if-front-s.true))

pub rest-requires : goal.rest-requires
rest-requires c =
    let v = c.args in
    let p = held_limits v.front.now v.long (sym c.in_ok-s.ensures) in
    rw p.1 (limited_by v.front.now v.long p.0 (λ z. rw p.1 at c.if-front-s.false))

pub returns-in_err-rest : goal.returns-in_err-rest
returns-in_err-rest c =
    let v = c.args in
    let p = held_limits v.front.now v.long (sym c.in_ok-s.ensures) in
    let q = err_from_is_err_and c.from_residual-in_err-rest.result c.from_residual-in_err-rest.ensures.1 in
    q.1 ∙ ap Err q.2
    ∙ sym (front_rest v.front.now v.long p.0 (rw p.1 at c.if-front-s.false)
    ∙ ap fronted (ap (λ (s : Stored). rest_answer v.front.now v.long s) (sym p.1) ∙ sym c.in_err-rest.ensures))

pub returns : goal.returns
returns c =
    let v = c.args in
    let p = held_limits v.front.now v.long (sym c.in_ok-s.ensures) in
    sym (front_rest v.front.now v.long p.0 (rw p.1 at c.if-front-s.false)
    ∙ ap fronted (ap (λ (s : Stored). rest_answer v.front.now v.long s) (sym p.1) ∙ sym c.in_ok-rest.ensures))
