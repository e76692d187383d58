-- `put_hex` meets its contract: the digits are the text. Assumes nothing.
use mathlib.Core.Path.{◌≡◌, ◌∙◌}
use lib.ListN.{take}
use Rattle.buffer.specs.Text.{hex_text}
use Rattle.buffer.proofs.PieceLaws.{room_as, wrote_as}
use Rattle.buffer.proofs.TextLaws.{hex_is}
use borrow.Author.Rules.{rules}
use Rattle.buffer.proofs.put_hex.Goals as goal
use Rattle.buffer.proofs.put_hex.Goals.{After-hex-count}

-- the digits are the text
spelt : (c : After-hex-count) → take c.hex-count.result c.hex-count.new.out ≡ hex_text c.args.n
spelt c = c.hex-count.ensures.digits ∙ hex_is _ _ (search rules) c.hex-count.ensures.len

pub put-requires : goal.put-requires
put-requires c = room_as (spelt (goal.at.put-requires c).After-hex-count) c.requires

pub returns : goal.returns
returns c = wrote_as (spelt (goal.at.returns c).After-hex-count) c.put.ensures
