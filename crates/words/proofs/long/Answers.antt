-- `long` meets its contract: its four bytes, low byte first. Assumes nothing.
use mathlib.Core.Path.{◌∙◌}
use Rattle.words.proofs.NumberLaws.{four_bytes}
use Rattle.words.proofs.long.Goals as goal

pub returns : goal.returns
returns c = c.from_le_bytes.ensures ∙ four_bytes c.args.s.now c.args.at
