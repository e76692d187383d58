-- `give_blob` meets its contract: the part in front, or the refusal. Assumes nothing.
use Rattle.std.proofs.Common.{◌∙◌}
use Rattle.numbers.proofs.BlobLaws.{given_blank, given_table, given_mb, given_refusal}
use Rattle.numbers.proofs.blobs.give_blob.Goals as goal

pub returns-in-Ok-Blank : goal.returns-in-Ok-Blank
returns-in-Ok-Blank c =
    let b = c.in-Ok-Blank in
    c.with_part.ensures ∙ given_blank c.args.part.now _ b.field-0 b.is (rw b.is at b.field-0-is)

pub returns-in-Ok-InTable : goal.returns-in-Ok-InTable
returns-in-Ok-InTable c =
    let b = c.in-Ok-InTable in
    c.with_part-in-Ok-InTable.ensures ∙ given_table c.args.part.now _ b.field-0 b.its b.is (rw b.is at b.field-0-is)

pub returns-in-Ok-InMb : goal.returns-in-Ok-InMb
returns-in-Ok-InMb c =
    let b = c.in-Ok-InMb in
    c.with_part-in-Ok-InMb.ensures ∙ given_mb c.args.part.now _ b.field-0 b.its b.is (rw b.is at b.field-0-is)

pub returns-in-Err : goal.returns-in-Err
returns-in-Err c = rw c.from.ensures (c.refuse.ensures ∙ given_refusal c.args.part.now _ _ c.in-Err.is)
