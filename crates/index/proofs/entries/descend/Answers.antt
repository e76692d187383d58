-- `descend` meets its contract: a block without entries is refused, else the key leads on or not. Assumes nothing.
use mathlib.Core.Path.{sym, ap, subst, ◌∙◌}
use Prim.Native.Nat.{ℕ, ◌+◌, ◌<◌}
use native.Mathlib.Omega.{arith}
use lib.ListN.{length}
use Rattle.blocks.specs.Shape.{RunInside}
use Rattle.index.specs.Header.{entry_numbers}
use Rattle.index.specs.Entries.{below}
use Rattle.std.specs.Prelude.{Ok}
use Rattle.index.proofs.EntryLaws.{entries_inside, descent_refused, descent_read}
use borrow.Author.Rules.{rules}
use Rattle.index.proofs.entries.descend.Goals as goal
use Rattle.index.proofs.entries.descend.Goals.{Else-count-eq0}

pub returns-then-count-eq0 : goal.returns-then-count-eq0
returns-then-count-eq0 c =
    let v = c.args in
    let f = v.file.now in
    sym (descent_refused f.bytes.now f.shape v.block v.key.now
    (sym c.entries_in-count.ensures ∙ c.if-count-eq0.true))

some : (c : Else-count-eq0) → 0 < c.entries_in-count.result
some c = search rules

few : (c : Else-count-eq0) → c.entries_in-count.result < 65536
few c = search rules

pub find_below-requires : goal.find_below-requires
find_below-requires c =
    let v = c.args in
    let f = v.file.now in
    let e = c.entries_in-count.ensures in
    subst (λ (n : ℕ). RunInside f.bytes.now f.shape (length v.key.now + entry_numbers) v.block n) (sym e)
    (entries_inside f.bytes.now f.shape v.block f.sound (length v.key.now) c.requires
    (omega (arith, e, some c)) (omega (arith, e, few c)))

pub returns : goal.returns
returns c =
    let v = c.args in
    let f = v.file.now in
    let e = c.entries_in-count.ensures in
    ap Ok (c.find_below.ensures ∙ ap (below f.bytes.now f.shape v.key.now v.block) e)
    ∙ sym (descent_read f.bytes.now f.shape v.block v.key.now (λ z. c.if-count-eq0.false (e ∙ z)))
