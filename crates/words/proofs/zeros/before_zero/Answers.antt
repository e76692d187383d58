-- `before_zero` meets its contract: where the first zero is, or how many bytes there are. Assumes nothing.
use Prim.Native.Nat.{◌+◌, ◌-◌}
use mathlib.Core.Path.{◌≡◌, ◌∙◌}
use lib.Dec.{eqb}
use lib.ListN.{take, drop}
use Rattle.std.proofs.Common.{rules, tests}
use Rattle.std.proofs.lemmas.Iterator.{YieldsList-from_slice}
use Rattle.std.proofs.lemmas.Iterator.Search.{position_from_yields_List}
use Rattle.std.specs.List.{position}
use Rattle.words.proofs.ZeroLaws.{before_first}
use Rattle.words.proofs.zeros.before_zero.Goals as goal

pub returns : goal.returns
returns c =
    let v = c.args in
    let part = take (v.at + v.n - v.at) (drop v.at v.s.now) in
    let e : c.position.result ≡ position (λ b. eqb b 0) part =
    position_from_yields_List (λ b. eqb b 0) _ _ c.position.result c.position.ensures.ran
    (YieldsList-from_slice part (cc)) (λ x b q k. search (rules, tests)) in
    c.unwrap_or.ensures ∙ rw e (before_first v.s.now v.at v.n (search rules))
