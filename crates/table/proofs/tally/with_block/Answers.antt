-- `with_block` meets its contract: behind a bad count there is no tally, else the block's count tells. Assumes nothing.
use borrow.Author.Rules.{rules}
use mathlib.Core.Path.{sym, ◌∙◌}
use Rattle.blocks.proofs.CountLaws.{run_inside}
use Rattle.table.specs.Steps.{most_before}
use Rattle.table.proofs.TallyLaws.{add_behind, add_bad, add_good, within_gives}
use Rattle.table.proofs.tally.with_block.Goals as goal

pub returns-in_err-so_far : goal.returns-in_err-so_far
returns-in_err-so_far c =
    let v = c.args in
    let f = v.file.now in
    c.from_residual.ensures ∙ sym (add_behind f.bytes.now f.shape v.key v.tally v.block c.in_err-so_far.was)

pub returns-in_err-count : goal.returns-in_err-count
returns-in_err-count c =
    let v = c.args in
    let f = v.file.now in
    c.from_residual-in_err-count.ensures
    ∙ sym (add_bad f.bytes.now f.shape v.key v.tally c.in_ok-so_far.so_far v.block c.in_ok-so_far.was
    (sym c.in_err-count.ensures))

pub with_records-keys-requires : goal.with_records-keys-requires
with_records-keys-requires c =
    let v = c.args in
    let f = v.file.now in
    let p = c.requires.le_block in
    let w = within_gives f.bytes.now f.shape v.key v.tally c.in_ok-so_far.so_far v.block c.in_ok-so_far.was most_before
    c.requires.within in (
      run_inside f.bytes.now f.shape f.sound v.block p.0 p.1 c.in_ok-count.count (sym c.in_ok-count.ensures) v.key
          c.requires.key_bound (search rules),
      w.1,
    )

pub returns : goal.returns
returns c =
    let v = c.args in
    let f = v.file.now in
    rw c.with_records-keys.ensures (sym (add_good f.bytes.now f.shape v.key v.tally c.in_ok-so_far.so_far v.block
    c.in_ok-so_far.was c.in_ok-count.count (sym c.in_ok-count.ensures)))
