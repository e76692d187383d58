-- `mark_chains` meets its contract, answer by answer (ChainsLaws). Assumes nothing.
use mathlib.Core.Path.{sym, ap, ◌∙◌}
use lib.ListN.{length, length-replicate}
use Rattle.blocks.proofs.ShapeLaws.{shape_size, shape_blocks}
use Rattle.table.proofs.ChainsLaws.{chains_wrong, used_broken, used_wrong, marks_stay, free_broken, block_left}
use Rattle.table.proofs.ChainsLaws.{chains_marked}
use Rattle.table.proofs.chains.mark_chains.Goals as goal

pub follow_used-requires : goal.follow_used-requires
follow_used-requires c =
    let h = c.args.table.now.header in
    let a = c.args.table.now.accepted in
    rw c.of-file.ensures.shape
    (record {
      short = rw shape_size a.key_most;
      few = rw shape_blocks a.blocks_most;
      long = rw shape_blocks (ap length c.requires ∙ length-replicate h.blocks 0);
    })

pub returns-in_err-used : goal.returns-in_err-used
returns-in_err-used c =
    let t = c.args.table.now in
    let f = c.of-file in
    rw c.from_residual.ensures (chains_wrong t.bytes.now t.header
    (used_broken t.bytes.now t.header c.args.marks.now c.requires f.result.shape f.ensures.shape _
    (rw f.ensures.bytes at c.in_err-used.ensures)) _)

-- another last block

pub returns-then-used-h : goal.returns-then-used-h
returns-then-used-h c =
    let t = c.args.table.now in
    let f = c.of-file in
    chains_wrong t.bytes.now t.header
    (used_wrong t.bytes.now t.header c.args.marks.now c.requires f.result.shape f.ensures.shape c.in_ok-used.used _
    (rw f.ensures.bytes at c.in_ok-used.ensures) c.if-used-h.true) _

pub follow_free-requires : goal.follow_free-requires
follow_free-requires c =
    let t = c.args.table.now in
    let f = c.of-file in
    marks_stay t.bytes.now t.header c.args.marks.now c.requires f.result.shape f.ensures.shape c.in_ok-used.used _
    (rw f.ensures.bytes at c.in_ok-used.ensures) c.if-used-h.false

-- after the free chain

pub returns-then-not-follow_free : goal.returns-then-not-follow_free
returns-then-not-follow_free c =
    let t = c.args.table.now in
    let f = c.of-file in
    chains_wrong t.bytes.now t.header
    (free_broken t.bytes.now t.header c.args.marks.now c.requires f.result.shape f.ensures.shape c.in_ok-used.used _
    (rw f.ensures.bytes at c.in_ok-used.ensures) c.if-used-h.false c.follow_free.result _
    (rw f.ensures.bytes at c.follow_free.ensures) c.if-not-follow_free.true) _

pub returns-then-not-all_marked : goal.returns-then-not-all_marked
returns-then-not-all_marked c =
    let t = c.args.table.now in
    let f = c.of-file in
    chains_wrong t.bytes.now t.header
    (block_left t.bytes.now t.header c.args.marks.now c.requires f.result.shape f.ensures.shape c.in_ok-used.used _
    (rw f.ensures.bytes at c.in_ok-used.ensures) c.if-used-h.false c.follow_free.result _
    (rw f.ensures.bytes at c.follow_free.ensures) c.if-not-follow_free.false
    (sym c.all_marked.ensures ∙ c.if-not-all_marked.true)) _

pub returns : goal.returns
returns c =
    let t = c.args.table.now in
    let f = c.of-file in
    chains_marked t.bytes.now t.header c.args.marks.now c.requires f.result.shape f.ensures.shape c.in_ok-used.used _
    (rw f.ensures.bytes at c.in_ok-used.ensures) c.if-used-h.false c.follow_free.result _
    (rw f.ensures.bytes at c.follow_free.ensures) c.if-not-follow_free.false
    (sym c.all_marked.ensures ∙ c.if-not-all_marked.false)
