-- `ascend` meets its contract: the keys from the present place on, after the last one, are what the whole comes to.
-- Assumes nothing.
use borrow.Author.Rules.{rules}
use native.Mathlib.Omega.{arith}
use mathlib.Core.Path.{◌≡◌, refl, sym, ap, ◌∙◌}
use Prim.Native.Nat.{ℕ, ◌+◌, ◌≤◌}
use lib.ListN.{length}
use Rattle.words.specs.Order.{is_less, order, range}
use Rattle.blocks.specs.Shape.{record_at}
use Rattle.table.specs.declared.keys.Keys.TheVariants.{Last}
use Rattle.table.proofs.KeyLaws.{keys_end, keys_less, keys_broken}
use Rattle.table.proofs.keys.ascend.Goals as goal
use Rattle.table.proofs.keys.ascend.Goals.{After-is_lt, After-record_at-at, Start}

pub loop-place-init : goal.loop-place-init
loop-place-init c = (c.requires.from_bound, c.requires.before_inside, refl)

-- the key at the present place is inside the table
inside : (c : After-record_at-at) → let s =
    (goal.at.compare-requires c).Start in c.record_at-at.result + s.args.key ≤ length s.args.file.now.bytes.now
inside c =
    let l = c.loop-place in
    let r = c.requires.run_inside in
    omega (arith, c.record_at-at.ensures, r.short, r.inside l.place c.loop-place-test.true)

pub compare-requires : goal.compare-requires
compare-requires c = (c.loop-place.invariant.1, inside c)

-- the test is the definition's
tested : (c : After-is_lt) → let l = c.loop-place in
    let v = c.args in
    is_less (order (range v.file.now.bytes.now l.last v.key)
    (range v.file.now.bytes.now (record_at v.file.now.shape v.block l.place) v.key)) ≡ c.is_lt.result
tested c =
    let l = c.loop-place in
    let v = c.args in
    sym (c.is_lt.ensures
    ∙ ap is_less c.compare.ensures
    ∙ ap (λ (a : ℕ). is_less (order (range v.file.now.bytes.now l.last v.key) (range v.file.now.bytes.now a v.key)))
    c.record_at-at.ensures)

pub returns-then-not-is_lt : goal.returns-then-not-is_lt
returns-then-not-is_lt c =
    let l = c.loop-place in
    let v = c.args in
    sym (l.invariant.2 ∙ keys_broken v.file.now.bytes.now v.file.now.shape v.key v.block l.place v.count l.last
    c.loop-place-test.true (tested (goal.at.returns-then-not-is_lt c).After-is_lt ∙ c.if-not-is_lt.true))

pub loop-place-preserved : goal.loop-place-preserved
loop-place-preserved c =
    let l = c.loop-place in
    let v = c.args in (
      search rules,
      inside (goal.at.loop-place-preserved c).After-record_at-at,
      rw c.record_at-at.ensures
          (l.invariant.2 ∙ keys_less v.file.now.bytes.now v.file.now.shape v.key v.block l.place v.count l.last
          c.loop-place-test.true (tested (goal.at.loop-place-preserved c).After-is_lt ∙ c.if-not-is_lt.false)),
    )

pub returns : goal.returns
returns c =
    let l = c.loop-place in
    let v = c.args in
    sym (l.invariant.2 ∙ keys_end v.file.now.bytes.now v.file.now.shape v.key v.block l.place v.count (Last l.last)
    c.loop-place-test.false)
