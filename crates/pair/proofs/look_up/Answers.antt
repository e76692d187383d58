-- `look_up` meets its contract: the pair check's refusal, or the walk's answer, which by demand 3 is the scan's too.
-- Assumes nothing.
use mathlib.Core.Path.{sym, ◌∙◌}
use Rattle.words.proofs.Cases.{apart}
use Rattle.pair.proofs.CheckLaws.{leaves}
use Rattle.pair.proofs.PairLaws.{looked_up_refused, looked_up_walked}
use Rattle.pair.proofs.Demand.{both_ways}
use Rattle.pair.proofs.look_up.Goals as goal

pub returns-in_err-check : goal.returns-in_err-check
returns-in_err-check c =
    let v = c.args in
    let p = c.check.ensures in
    let refused = sym p.value ∙ c.in_err-check.was in
    record {
      value =
          leaves _ c.from_residual.ensures.1
          ∙ sym (looked_up_refused v.table.now v.index.now v.key.now v.marks.now _ refused);
      marks_after = p.marks_after;
      agreeing = λ z. apart cc;
    }

pub returns : goal.returns
returns c =
    let v = c.args in
    let p = c.check.ensures in
    let accepted = sym p.value ∙ c.in_ok-check.was in
    let w = c.walk.ensures.value in
    record {
      value = w ∙ sym (looked_up_walked v.table.now v.index.now v.key.now v.marks.now accepted);
      marks_after = p.marks_after;
      agreeing = both_ways v.table.now v.index.now v.key.now v.marks.now c.walk.result w;
    }
