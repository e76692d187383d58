-- `area_at` meets its contract, by the version. Assumes nothing.
use borrow.Author.Tests.{le-leb, lt-leb}
use Rattle.header.proofs.stored.area_at.Goals as goal

pub returns-then-version-le-LAST_EARLY_VERSION : goal.returns-then-version-le-LAST_EARLY_VERSION
returns-then-version-le-LAST_EARLY_VERSION c = rw (le-leb _ _ c.if-version-le-LAST_EARLY_VERSION.true)

pub returns-else-version-le-LAST_EARLY_VERSION : goal.returns-else-version-le-LAST_EARLY_VERSION
returns-else-version-le-LAST_EARLY_VERSION c = rw (lt-leb _ _ c.if-version-le-LAST_EARLY_VERSION.false)
