-- `FieldKind::is_blob` meets its contract, kind by kind. Assumes nothing.
use mathlib.Core.Path.{◌≡◌, refl, ◌∙◌}
use denote.Enum.Bare.{sameb}
use Rattle.header.specs.Kinds.{is_blob}
use Rattle.header.specs.declared.kind.FieldKind.{FieldKind}
use Rattle.header.specs.declared.kind.FieldKind.TheVariants.{Text, Date, Short, Long, Number, Logical, Blob}
use Rattle.header.specs.contracts.kind.FieldKind.{the_type}
use Rattle.header.proofs.kind.FieldKind.is_blob.Goals as goal

same : (kind : FieldKind) → sameb the_type kind Blob ≡ is_blob kind
unfolding is_blob
same Text = refl
same Date = refl
same Short = refl
same Long = refl
same Number = refl
same Logical = refl
same Blob = refl

pub returns : goal.returns
returns c = c.eq.ensures ∙ same c.args.self
