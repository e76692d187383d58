-- `blob_answer` meets its contract: 1 to 7, 14, then the blob or its refusal. Assumes nothing.
use Rattle.std.proofs.Common.{sym, ◌∙◌}
use Rattle.header.specs.Numbers.{numbers_of}
use Rattle.blob.specs.Blob.{block_blob}
use Rattle.numbers.proofs.LentLaws.{leaves, room_err, room_asked}
use Rattle.numbers.proofs.blobs.blob_answer.Goals as goal

pub returns-in_err-opened : goal.returns-in_err-opened
returns-in_err-opened c =
    let v = c.args in
    let t = v.table.now in
    let its = block_blob t v.mb.now (numbers_of t) v.block v.place v.field in
    leaves _ c.from_residual.ensures.1 ∙ sym (room_err t v.room 2 its c.in_err-opened.ensures.its_header)

pub returns : goal.returns
returns c =
    let v = c.args in
    let o = c.in_ok-opened.ensures in
    c.find_in.ensures
    ∙ room_asked (λ t h. block_blob t v.mb.now h v.block v.place v.field) v.table v.room 2 _ o.its_header _ o.its_bytes
