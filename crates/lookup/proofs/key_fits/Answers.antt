-- `key_fits` meets its contract. Assumes nothing.
use mathlib.Core.Path.{refl}
use Rattle.lookup.specs.Sought.{key_fits}
use Rattle.lookup.proofs.key_fits.Goals as goal

pub returns : goal.returns
unfolding key_fits
returns c = refl
