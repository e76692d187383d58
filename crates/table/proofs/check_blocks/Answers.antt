-- `check_blocks` meets its contract: 14; 8 with the marks taken away; else what the tally answers. The part of the
-- buffer that is lent holds a mark for each block (CheckLaws). Assumes nothing.
use mathlib.Core.Path.{◌∙◌}
use Rattle.table.proofs.CheckLaws.{buffer_short, chains_answered, marks_answered, uncounted_answered}
use Rattle.table.proofs.CheckLaws.{counted_answered}
use Rattle.table.proofs.check_blocks.Goals as goal

pub returns-then-marks-blocks : goal.returns-then-marks-blocks
returns-then-marks-blocks c =
    let t = c.args.table.now in
    let m = c.args.marks.now in
    let b = buffer_short t.bytes.now t.header m c.if-marks-blocks.true in
    record { value = b.0; marks_after = b.1 }

pub returns-in_default : goal.returns-in_default
returns-in_default c =
    let t = c.args.table.now in
    let m = c.args.marks.now in
    let b = chains_answered t.bytes.now t.header m c.clear.new.marks c.mark_chains.new.marks
    c.if-marks-blocks.false c.clear.ensures c.in_default.ensures c.mark_chains.auto.marks _
    c.clear-in_default.ensures in
    record { value = b.0; marks_after = b.1 }

pub returns-in_default-tally : goal.returns-in_default-tally
returns-in_default-tally c =
    let t = c.args.table.now in
    let m = c.args.marks.now in
    record {
      value =
          uncounted_answered t.bytes.now t.header m c.clear.new.marks c.mark_chains.new.marks
          c.if-marks-blocks.false c.clear.ensures c.in-Some.used c.in-Some.ensures t.accepted c.in_default-tally.is;
      marks_after =
          marks_answered t.bytes.now t.header m c.clear.new.marks c.mark_chains.new.marks
          c.if-marks-blocks.false c.clear.ensures c.in-Some.used c.in-Some.ensures;
    }

pub returns : goal.returns
returns c =
    let t = c.args.table.now in
    let m = c.args.marks.now in
    record {
      value =
          c.answer.ensures
          ∙ counted_answered t.bytes.now t.header m c.clear.new.marks c.mark_chains.new.marks
          c.if-marks-blocks.false c.clear.ensures c.in-Some.used c.in-Some.ensures t.accepted c.in-Some-tally.tally
          c.in-Some-tally.is;
      marks_after =
          marks_answered t.bytes.now t.header m c.clear.new.marks c.mark_chains.new.marks
          c.if-marks-blocks.false c.clear.ensures c.in-Some.used c.in-Some.ensures;
    }
