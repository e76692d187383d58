-- `put_decimal` meets its contract: the digits are the text. Assumes nothing.
use mathlib.Core.Path.{◌≡◌, ◌∙◌}
use lib.ListN.{take}
use Rattle.buffer.specs.Text.{decimal}
use Rattle.buffer.proofs.PieceLaws.{room_as, wrote_as}
use Rattle.buffer.proofs.TextLaws.{decimal_is}
use borrow.Author.Rules.{rules}
use Rattle.buffer.proofs.put_decimal.Goals as goal
use Rattle.buffer.proofs.put_decimal.Goals.{After-decimal-count}

-- the digits are the text
spelt : (c : After-decimal-count) → take c.decimal-count.result c.decimal-count.new.out ≡ decimal c.args.n
spelt c = c.decimal-count.ensures.digits ∙ decimal_is _ _ (search rules) c.decimal-count.ensures.len

pub put-requires : goal.put-requires
put-requires c = room_as (spelt (goal.at.put-requires c).After-decimal-count) c.requires

pub returns : goal.returns
returns c = wrote_as (spelt (goal.at.returns c).After-decimal-count) c.put.ensures
