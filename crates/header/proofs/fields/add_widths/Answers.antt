-- `add_widths` meets its contract: after f turns the first f pairs are right and their sums stand. Assumes nothing.
use mathlib.Core.Path.{◌≡◌, sym, ◌∙◌}
use mathlib.Core.Bool.{false≢true}
use Prim.Native.Nat.{◌<◌}
use native.Mathlib.Omega.{arith}
use borrow.Author.Rules.{rules}
use Rattle.header.proofs.FieldLaws.{added_none, added_more, added_broken, added_byte, added_small}
use Rattle.header.proofs.fields.add_widths.Goals as goal
use Rattle.header.proofs.fields.add_widths.Goals.{In-Some}

pub loop-f-init : goal.loop-f-init
loop-f-init c = let v = c.args in added_none v.t.now v.area v.keys v.n v.offsets.now c.requires.2

pub returns-in_default : goal.returns-in_default
returns-in_default c =
    let v = c.args in record {
      value = sym (added_broken v.t.now v.area v.keys v.n c.loop-f.offsets c.loop-f.sum c.loop-f.f
          c.loop-f.invariant (search rules) (sym c.width_at.ensures ∙ c.in_default.is));
      offsets_after = λ e. absurd (false≢true e);
    }

-- the width just taken is a byte
small : (c : In-Some) → c.in-Some.width < 256
small c =
    let v = c.args in
    added_byte v.t.now v.area v.keys v.n c.loop-f.offsets c.loop-f.sum c.loop-f.f c.loop-f.invariant
    (search rules) (λ i. omega (arith, c.type_inv.t i)) c.in-Some.width
    (sym c.width_at.ensures ∙ c.in-Some.is)

pub overflow_cast-sum : goal.overflow_cast-sum
overflow_cast-sum c = omega (arith, small c)

pub overflow_add-sum : goal.overflow_add-sum
overflow_add-sum c =
    let v = c.args in
    record {
      fits = added_small v.t.now v.area v.keys v.n c.loop-f.offsets c.loop-f.sum c.loop-f.f
          c.loop-f.invariant (search rules) (λ i. omega (arith, c.type_inv.t i)) (search rules)
          c.in-Some.width (small c);
    }

pub loop-f-preserved : goal.loop-f-preserved
loop-f-preserved c =
    let v = c.args in
    added_more v.t.now v.area v.keys v.n c.loop-f.offsets c.loop-f.sum c.loop-f.f c.loop-f.invariant
    (search rules) c.in-Some.width
    (sym c.width_at.ensures ∙ c.in-Some.is)

pub returns : goal.returns
returns c =
    let v = c.args in
    let e : c.loop-f.f ≡ v.n = omega arith in
    record { value = sym (rw e at c.loop-f.invariant.1); offsets_after = λ _. rw e at c.loop-f.invariant.2 }
