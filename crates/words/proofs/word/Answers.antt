-- `word` meets its contract: its two bytes, low byte first. Assumes nothing.
use mathlib.Core.Path.{◌∙◌}
use Rattle.words.proofs.NumberLaws.{two_bytes}
use Rattle.words.proofs.word.Goals as goal

pub returns : goal.returns
returns c = c.from_le_bytes.ensures ∙ two_bytes c.args.s.now c.args.at
