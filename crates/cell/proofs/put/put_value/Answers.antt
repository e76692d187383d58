-- `put_value` meets its contract: what search leaves, a text. Assumes nothing.
use mathlib.Core.Path.{◌≡◌, ap, ◌∙◌, subst}
use Prim.Native.Nat.{ℕ, ◌+◌, ◌≤◌}
use lib.ListN.{length}
use Rattle.cell.specs.Values.{value_part}
use Rattle.cell.specs.Writing.{Form, put_form}
use Rattle.cell.specs.Steps.{TextInside}
use Rattle.cell.specs.declared.value.Value.{Value}
use Rattle.cell.specs.declared.value.Value.TheVariants as Val
use Rattle.cell.proofs.WritingLaws.{form_text}
use Rattle.cell.proofs.put.put_value.Goals as goal
use Rattle.cell.proofs.put.put_value.Goals.{Start}

-- a text is a part of the bytes lent for it
lent : (c : Start) → (start len : ℕ) → c.args.value ≡ Val.Text start len → start + len ≤ length c.args.text.now
unfolding value_part
lent c start len e = subst (λ (v : Value). TextInside c.args.text.now v) e c.requires.text_inside

pub put_text-requires : goal.put_text-requires
put_text-requires c = (
  c.requires.width_in_bounds,
  lent (goal.at.put_text-requires c).Start c.in-Text.start c.in-Text.len c.in-Text.is,
)

pub returns-in-Text : goal.returns-in-Text
returns-in-Text c =
    let v = c.args in
    c.put_text.ensures
    ∙ ap (λ (f : Form). put_form v.width f v.buffer.now)
    (form_text v.text.now v.value v.width c.in-Text.start c.in-Text.len c.in-Text.is
    (lent (goal.at.returns-in-Text c).Start c.in-Text.start c.in-Text.len c.in-Text.is))
