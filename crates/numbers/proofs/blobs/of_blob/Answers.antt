-- `of_blob` meets its contract. Assumes nothing.
use Rattle.std.proofs.Common.{◌∙◌, ap, length}
use Rattle.header.specs.Numbers.{numbers_of}
use Rattle.blob.specs.Blob.{block_blob}
use Rattle.numbers.specs.Blob.{blob_given, blob_numbers}
use Rattle.numbers.proofs.LentLaws.{room_there}
use Rattle.numbers.proofs.blobs.of_blob.Goals as goal

pub give_blob-requires : goal.give_blob-requires
give_blob-requires c =
    let v = c.args in
    let t = v.table.now in
    room_there t (length v.part.now) 2 (block_blob t v.mb.now (numbers_of t) v.block v.place v.field) _
    c.blob_answer-answer.ensures

pub returns : goal.returns
unfolding blob_numbers
returns c = c.give_blob.ensures ∙ ap (blob_given c.args.part.now) c.blob_answer-answer.ensures
