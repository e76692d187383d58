-- `entries_in` meets its contract: outside the file and with a bad count there are none. Assumes nothing.
use Rattle.std.specs.Prelude.{Option}
use Rattle.std.specs.Option.{unwrap_or}
use mathlib.Core.Path.{sym, ap, ◌∙◌}
use Prim.Native.Nat.{ℕ}
use Rattle.blocks.proofs.ShapeLaws.{has_block_lem}
use Rattle.index.proofs.EntryLaws.{entries_outside, entries_file}
use Rattle.index.proofs.entries.entries_in.Goals as goal

pub returns-then-not-has_block : goal.returns-then-not-has_block
returns-then-not-has_block c =
    let f = c.args.file.now in
    sym (entries_outside f.bytes.now f.shape c.args.block (sym c.has_block.ensures ∙ c.if-not-has_block.true))

pub count-requires : goal.count-requires
count-requires c =
    has_block_lem c.args.file.now.shape c.args.block (sym c.has_block.ensures ∙ c.if-not-has_block.false)

pub returns : goal.returns
returns c =
    let f = c.args.file.now in
    c.unwrap_or.ensures
    ∙ ap (λ (n : Option ℕ). unwrap_or n 0) c.count.ensures
    ∙ sym (entries_file f.bytes.now f.shape c.args.block (sym c.has_block.ensures ∙ c.if-not-has_block.false))
