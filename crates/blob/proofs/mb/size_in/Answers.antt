-- `size_in` meets its contract: a file that ends before a unit has no block there. Assumes nothing.
use native.Mathlib.Omega.{arith}
use mathlib.Core.Path.{sym, ap, ◌∙◌}
use Prim.Native.Nat.{ℕ, ◌*◌}
use Rattle.std.specs.Prelude.{Option, Some}
use Rattle.blob.specs.Mb.{mb_unit}
use Rattle.blob.proofs.MbLaws.{size_unit, size_empty, size_outside, size_inside}
use Rattle.blob.proofs.mb.size_in.Goals as goal

pub returns-then-mb-base : goal.returns-then-mb-base
returns-then-mb-base c = let v = c.args in size_unit v.mb.now v.base c.if-mb-base.true

pub returns-then-units-eq0 : goal.returns-then-units-eq0
returns-then-units-eq0 c = let v = c.args in size_empty v.mb.now v.base (sym c.word-units.ensures ∙ c.if-units-eq0.true)

pub returns-then-mb-base-2 : goal.returns-then-mb-base-2
returns-then-mb-base-2 c =
    let v = c.args in
    size_outside v.mb.now v.base (omega (arith, c.if-mb-base-2.true, c.word-units.ensures))

pub returns : goal.returns
returns c =
    let v = c.args in
    ap {B = Option ℕ} (λ (n : ℕ). Some (mb_unit * n)) c.word-units.ensures
    ∙ size_inside v.mb.now v.base (omega (arith, c.if-units-eq0.false, c.word-units.ensures))
    (omega (arith, c.if-mb-base-2.false, c.word-units.ensures))
