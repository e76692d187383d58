-- `eight` meets its contract: its eight bytes, high byte first. Assumes nothing.
use mathlib.Core.Path.{◌∙◌}
use Rattle.words.proofs.NumberLaws.{eight_bytes}
use Rattle.words.proofs.eight.Goals as goal

pub returns : goal.returns
returns c = c.from_be_bytes.ensures ∙ eight_bytes c.args.s.now c.args.at
