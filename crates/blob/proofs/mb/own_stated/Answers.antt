-- `own_stated` meets its contract: the kind, then the length that the head states. Assumes nothing.
use mathlib.Core.Path.{ap, ◌∙◌}
use Prim.Native.Nat.{ℕ}
use Rattle.std.specs.Prelude.{Option}
use Rattle.blob.specs.Mb.{stated_is, own_head}
use Rattle.blob.specs.declared.mb.Stated.{Stated}
use Rattle.blob.proofs.MbLaws.{own_other, own_states}
use Rattle.blob.proofs.mb.own_stated.Goals as goal

pub returns-then-mb-base-ne-OWN_KIND : goal.returns-then-mb-base-ne-OWN_KIND
returns-then-mb-base-ne-OWN_KIND c = let v = c.args in own_other v.mb.now v.base c.if-mb-base-ne-OWN_KIND.true

pub returns : goal.returns
returns c =
    let v = c.args in
    ap {B = Option Stated} (λ (n : ℕ). stated_is own_head n) c.long.ensures
    ∙ own_states v.mb.now v.base c.if-mb-base-ne-OWN_KIND.false
