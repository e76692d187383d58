-- `all_marked` meets its contract: no block without a mark is found. Assumes nothing.
use mathlib.Core.Path.{ap, ◌∙◌}
use mathlib.Core.Bool.{not}
use Rattle.chain.proofs.MarkLaws.{none_unmarked}
use Rattle.chain.proofs.marks.all_marked.Goals as goal

pub returns : goal.returns
returns c = ap not c.contains.ensures.value ∙ none_unmarked c.args.marks.now
