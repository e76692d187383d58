-- `compare` meets its contract: what is left of the two ranges compares as the whole. Assumes nothing.
use Prim.Native.Nat.{◌+◌, ◌*◌, ◌/◌}
use mathlib.Core.Path.{◌≡◌, sym, ◌∙◌}
use native.Mathlib.Omega.{arith}
use borrow.Author.Rules.{rules}
use Rattle.std.specs.Ordering.{nat_cmp, ordering_then}
use Rattle.words.specs.Numbers.{big}
use Rattle.words.specs.Order.{order}
use Rattle.words.proofs.NumberOrder.{eight_then}
use Rattle.words.proofs.OrderLaws.{then_eq, then_ne}
use Rattle.words.proofs.Ranges.{rest, rest_whole, rests_order}
use Rattle.words.proofs.compare.Goals as goal
use Rattle.words.proofs.compare.Goals.{After-is_ne}

pub loop-i-init : goal.loop-i-init
loop-i-init c = rw (rest_whole, rest_whole)

-- eight bytes more
step : (c : After-is_ne) → let v = c.args in let i = 8 * c.loop-i.i in
    order (rest v.a.now v.p v.n i) (rest v.b.now v.q v.n i)
    ≡ ordering_then c.cmp-order.result (order (rest v.a.now v.p v.n (i + 8)) (rest v.b.now v.q v.n (i + 8)))
step c =
    let v = c.args in
    let i = 8 * c.loop-i.i in
    let e : c.cmp-order.result ≡ nat_cmp (big v.a.now (v.p + i) 8) (big v.b.now (v.q + i) 8) =
    c.cmp-order.ensures ∙ rw (c.eight.ensures, c.eight-in-loop-i.ensures) in
    rw e (eight_then v.a.now v.b.now v.p v.q v.n i (omega arith) (search rules) (search rules)
    (λ i. omega (arith, c.type_inv.a i)) (λ i. omega (arith, c.type_inv.b i)))

pub returns-then-is_ne : goal.returns-then-is_ne
returns-then-is_ne c =
    sym (c.loop-i.invariant ∙ step (goal.at.returns-then-is_ne c).After-is_ne
    ∙ then_ne c.cmp-order.result _ (sym c.is_ne.ensures ∙ c.if-is_ne.true))

pub loop-i-preserved : goal.loop-i-preserved
loop-i-preserved c =
    let i = c.loop-i.i in
    let e : 8 * i + 8 ≡ 8 * (i + 1) = omega arith in
    rw (← e) (c.loop-i.invariant ∙ step (goal.at.loop-i-preserved c).After-is_ne
    ∙ then_eq c.cmp-order.result _ (sym c.is_ne.ensures ∙ c.if-is_ne.false))

pub returns : goal.returns
returns c =
    let v = c.args in
    let e : c.loop-i.i ≡ v.n / 8 = omega arith in
    c.cmp.ensures ∙ rests_order v.a.now v.b.now v.p v.q v.n (8 * (v.n / 8)) ∙ sym (rw e at c.loop-i.invariant)
