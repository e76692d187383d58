-- `find_in_data` meets its contract: 8, 9, or the first record with the key in the block. Assumes nothing.
use Rattle.std.specs.Prelude.{Some, None, Err}
use Rattle.std.proofs.lemmas.Result.{err_from_is_err_and}
use mathlib.Core.Path.{◌≡◌, sym, ap, ◌∙◌}
use mathlib.Core.Bool.{true}
use native.Mathlib.Omega.{arith}
use lib.ListN.{length}
use Rattle.header.specs.declared.refusal.Refusal.TheVariants.{WrongCount}
use Rattle.blocks.specs.Shape.{has_block}
use Rattle.blocks.specs.Counts.{count_in}
use Rattle.blocks.proofs.CountLaws.{run_inside}
use Rattle.blocks.proofs.ShapeLaws.{has_block_lem}
use Rattle.index.specs.Walk.{found_after}
use Rattle.index.proofs.WalkLaws.{data_outside, data_bad, data_found}
use borrow.Author.Rules.{rules}
use Rattle.index.proofs.walking.find_in_data.Goals as goal
use Rattle.index.proofs.walking.find_in_data.Goals.{Else-not-has_block, In_ok-count}

-- the block is in the file
inside : (c : Else-not-has_block) → has_block c.args.table.now.shape c.args.block ≡ true
inside c = sym c.has_block.ensures ∙ c.if-not-has_block.false

-- where the count is told
counted : (c : In_ok-count) → let t = c.args.table.now in
    count_in t.bytes.now t.shape c.args.block ≡ Some c.in_ok-count.count
counted c = sym c.count.ensures ∙ grind arith

pub returns-then-not-has_block : goal.returns-then-not-has_block
returns-then-not-has_block c =
    let v = c.args in
    let t = v.table.now in
    sym (data_outside t.bytes.now t.shape v.key.now v.block v.reads
    (sym c.has_block.ensures ∙ c.if-not-has_block.true))

pub count-requires : goal.count-requires
count-requires c = has_block_lem c.args.table.now.shape c.args.block (inside c)

pub returns-in_err-count : goal.returns-in_err-count
returns-in_err-count c =
    let v = c.args in
    let t = v.table.now in
    let p = err_from_is_err_and c.from_residual.result c.from_residual.ensures.1 in
    let none : c.count.result ≡ None = grind arith in
    let bad : c.in_err-count.field-0.0 ≡ WrongCount = grind arith in
    p.1 ∙ ap Err (p.2 ∙ bad)
    ∙ sym (data_bad t.bytes.now t.shape v.key.now v.block v.reads
    (inside (goal.at.returns-in_err-count c).Else-not-has_block) (sym c.count.ensures ∙ none))

pub find_in_block-found-requires : goal.find_in_block-found-requires
find_in_block-found-requires c =
    let v = c.args in
    let t = v.table.now in
    let at = goal.at.find_in_block-found-requires c in
    let p = has_block_lem t.shape v.block (inside at.Else-not-has_block) in
    run_inside t.bytes.now t.shape t.sound v.block p.0 p.1 c.in_ok-count.count (counted at.In_ok-count)
    (length v.key.now) c.requires (search rules)

pub returns : goal.returns
unfolding found_after
returns c =
    let v = c.args in
    let t = v.table.now in
    rw c.find_in_block-found.ensures (sym (data_found t.bytes.now t.shape v.key.now v.block v.reads
    (inside (goal.at.returns c).Else-not-has_block) c.in_ok-count.count (counted (goal.at.returns c).In_ok-count)))
