-- `width_at` meets its contract: no kind, a blob in the key, or the width. Assumes nothing.
use mathlib.Core.Path.{sym, ◌∙◌}
use mathlib.Core.Bool.{true, false}
use Prim.Native.Nat.{◌+◌}
use Rattle.header.specs.Kinds.{kind_of}
use Rattle.header.specs.Steps.{judged_if}
use Rattle.words.specs.Numbers.{byte}
use Rattle.header.proofs.FieldLaws.{width_unknown, width_known}
use Rattle.header.proofs.fields.width_at.Goals as goal

pub returns-in_err-kind : goal.returns-in_err-kind
returns-in_err-kind c =
    let v = c.args in
    c.from_residual.ensures ∙ sym (width_unknown v.keyed (kind_of (byte v.t.now v.at) (byte v.t.now (v.at + 1)))
    (byte v.t.now (v.at + 1)) (sym c.in_err-kind.ensures))

pub returns-then-keyed-is_blob : goal.returns-then-keyed-is_blob
unfolding judged_if
returns-then-keyed-is_blob c =
    let v = c.args in
    sym (width_known v.keyed (kind_of (byte v.t.now v.at) (byte v.t.now (v.at + 1)))
    c.in_ok-kind.kind (byte v.t.now (v.at + 1)) true
    (sym c.in_ok-kind.ensures)
    (rw (← c.is_blob.ensures) c.if-keyed-is_blob.true))

pub returns : goal.returns
unfolding judged_if
returns c =
    let v = c.args in
    sym (width_known v.keyed (kind_of (byte v.t.now v.at) (byte v.t.now (v.at + 1)))
    c.in_ok-kind.kind (byte v.t.now (v.at + 1)) false
    (sym c.in_ok-kind.ensures)
    (rw (← c.is_blob.ensures) c.if-keyed-is_blob.false))
