-- `write` meets its contract: 13, 12, 14, 11 in that order, then the form; and what has the form reads back, since a
-- program's double is one of the format. Assumes nothing.
use mathlib.Core.Path.{◌≡◌, sym, ◌∙◌}
use mathlib.Core.Bool.{true, false}
use Rattle.std.specs.Prelude.{Some}
use Rattle.header.specs.declared.refusal.Refusal.TheVariants.{BadArgument}
use Rattle.header.specs.Kinds.{kind_of, is_blob}
use Rattle.header.proofs.KindLaws.{kind_width}
use Rattle.cell.specs.Writing.{of_kind, written_of}
use Rattle.cell.specs.Values.{content_of}
use Rattle.cell.proofs.Exits.{missing_early}
use Rattle.cell.proofs.ValueKinds.{of_kind_inside}
use Rattle.cell.proofs.RoundTrip.{reads_back, good_held}
use Rattle.cell.proofs.WritingLaws.{write_unknown, write_blob, write_other, write_short, write_form}
use Rattle.cell.proofs.write.Goals as goal
use Rattle.cell.proofs.write.Goals.{Else-is_blob, Else-not-is_of_kind, In_ok-kind}

pub returns-in_err-kind-clause-buffer_after : goal.returns-in_err-kind-clause-buffer_after
returns-in_err-kind-clause-buffer_after c =
    let v = c.args in
    let p = missing_early c.of.result BadArgument _ _ c.in_err-kind.ensures.value c.from_residual.ensures.1 in
    rw p.1
    (write_unknown v.code v.width (content_of v.text.now v.value) v.buffer.now (sym c.of.ensures ∙ p.0))

-- the kind of the code and the width
known : (c : In_ok-kind) → let v = c.args in
    kind_of v.code v.width ≡ Some c.in_ok-kind.kind
known c = sym c.of.ensures ∙ c.in_ok-kind.ensures.ok_part

pub returns-then-is_blob-clause-buffer_after : goal.returns-then-is_blob-clause-buffer_after
returns-then-is_blob-clause-buffer_after c =
    let v = c.args in
    write_blob v.code v.width (content_of v.text.now v.value) v.buffer.now c.in_ok-kind.kind
    (known (goal.at.returns-then-is_blob-clause-buffer_after c).In_ok-kind) (sym c.is_blob.ensures ∙ c.if-is_blob.true)

-- it is no blob's
plain : (c : Else-is_blob) → is_blob c.in_ok-kind.kind ≡ false
plain c = sym c.is_blob.ensures ∙ c.if-is_blob.false

pub returns-then-not-is_of_kind-clause-buffer_after : goal.returns-then-not-is_of_kind-clause-buffer_after
returns-then-not-is_of_kind-clause-buffer_after c =
    let v = c.args in
    let at = goal.at.returns-then-not-is_of_kind-clause-buffer_after c in
    write_other v.code v.width (content_of v.text.now v.value) v.buffer.now c.in_ok-kind.kind (known at.In_ok-kind)
    (plain at.Else-is_blob) (sym c.is_of_kind.ensures ∙ c.if-not-is_of_kind.true)

-- the value is of the kind
kindred : (c : Else-not-is_of_kind) → let v = c.args in
    of_kind (content_of v.text.now v.value) c.in_ok-kind.kind ≡ true
kindred c = sym c.is_of_kind.ensures ∙ c.if-not-is_of_kind.false

pub returns-then-buffer-width-clause-buffer_after : goal.returns-then-buffer-width-clause-buffer_after
returns-then-buffer-width-clause-buffer_after c =
    let v = c.args in
    let at = goal.at.returns-then-buffer-width-clause-buffer_after c in
    write_short v.code v.width (content_of v.text.now v.value) v.buffer.now c.in_ok-kind.kind (known at.In_ok-kind)
    (plain at.Else-is_blob) (kindred at.Else-not-is_of_kind) c.if-buffer-width.true

pub put_value-requires : goal.put_value-requires
put_value-requires c =
    let v = c.args in
    let at = goal.at.put_value-requires c in
    let kind = c.in_ok-kind.kind in
    let f = kindred at.Else-not-is_of_kind in
    record {
      width_in_bounds = c.if-buffer-width.false;
      of_width = (kind, f, kind_width v.code v.width kind (known at.In_ok-kind));
      text_inside = of_kind_inside v.text.now v.value kind f;
    }

pub returns : goal.returns
returns c =
    let v = c.args in
    let at = goal.at.returns c in
    let put : (c.put_value.result, c.put_value.new.buffer) ≡ written_of v.code v.width v.text.now v.value v.buffer.now =
    c.put_value.ensures
    ∙ write_form v.code v.width (content_of v.text.now v.value) v.buffer.now c.in_ok-kind.kind (known at.In_ok-kind)
    (plain at.Else-is_blob) (kindred at.Else-not-is_of_kind) c.if-buffer-width.false in
    record {
      buffer_after = put;
      gives_back = λ z.
          reads_back v.code v.width (content_of v.text.now v.value) v.buffer.now c.put_value.new.buffer
          (good_held v.text.now v.value _ c.well_formed.1.1.0) (sym (rw z at put));
    }
