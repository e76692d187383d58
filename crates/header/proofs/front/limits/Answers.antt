-- `limits` meets its contract: each test decides the next rule of the definition. Assumes nothing.
use mathlib.Core.Path.{◌≡◌, sym, ap, ◌∙◌}
use mathlib.Core.Bool.{true}
use native.Mathlib.Omega.{arith}
use borrow.Author.Tests.{le-leb, lt-leb}
use Rattle.std.specs.Prelude.{Ok}
use Rattle.header.specs.Stored.{stored_of, encryption_at}
use Rattle.header.specs.Header.{least_header, long_enough, is_table, known_version, unencrypted, limits_kept}
use Rattle.header.specs.declared.stored.Stored.{Stored}
use Rattle.header.proofs.HeaderLaws.{verdict_1, verdict_2, verdict_3, verdict_4, verdict_5, verdict_kept}
use Rattle.header.proofs.HeaderLaws.{limits_refused, limits_held}
use Rattle.header.proofs.RuleLaws.{encryption_most}
use Rattle.header.proofs.front.limits.Goals as goal
use Rattle.header.proofs.front.limits.Goals.{After-encryption_at, After-is_table, After-is_unencrypted}
use Rattle.header.proofs.front.limits.Goals.{After-known_version, After-limits_kept, After-read_stored-s}
use Rattle.header.proofs.front.limits.Goals.{Else-not-is_table, Else-not-is_unencrypted, Else-not-known_version}
use Rattle.header.proofs.front.limits.Goals.{Else-not-limits_kept}

-- ---- what each test says of the stored numbers, and that the rule is kept where it does

kept1 : (c : After-read_stored-s) → long_enough c.args.long ≡ true
unfolding long_enough
kept1 c = le-leb least_header c.args.long c.if-long-lt-LEAST_LENGTH.false

verdict2 : (c : After-is_table) → c.is_table.result ≡ is_table (stored_of c.args.front.now)
verdict2 c = rw c.read_stored-s.ensures at c.is_table.ensures

kept2 : (c : Else-not-is_table) → is_table (stored_of c.args.front.now) ≡ true
kept2 c = sym (rw c.read_stored-s.ensures at c.is_table.ensures) ∙ c.if-not-is_table.false

verdict3 : (c : After-known_version) → c.known_version.result ≡ known_version (stored_of c.args.front.now).version
verdict3 c = rw c.read_stored-s.ensures at c.known_version.ensures

kept3 : (c : Else-not-known_version) → known_version (stored_of c.args.front.now).version ≡ true
kept3 c = sym (rw c.read_stored-s.ensures at c.known_version.ensures) ∙ c.if-not-known_version.false

place : (c : After-encryption_at) → c.encryption_at.result ≡ encryption_at (stored_of c.args.front.now).version
place c = rw c.read_stored-s.ensures at c.encryption_at.ensures

verdict4 : (c : After-is_unencrypted) →
    c.is_unencrypted.result ≡ unencrypted c.args.front.now (encryption_at (stored_of c.args.front.now).version)
verdict4 c =
    let place_is : c.encryption_at.result ≡ encryption_at (stored_of c.args.front.now).version =
    rw c.read_stored-s.ensures at c.encryption_at.ensures in
    rw place_is at c.is_unencrypted.ensures

kept4 : (c : Else-not-is_unencrypted) →
    unencrypted c.args.front.now (encryption_at (stored_of c.args.front.now).version) ≡ true
kept4 c =
    let place_is : c.encryption_at.result ≡ encryption_at (stored_of c.args.front.now).version =
    rw c.read_stored-s.ensures at c.encryption_at.ensures in
    sym (rw place_is at c.is_unencrypted.ensures) ∙ c.if-not-is_unencrypted.false

verdict5 : (c : After-limits_kept) → c.limits_kept.result ≡ limits_kept (stored_of c.args.front.now)
verdict5 c = rw c.read_stored-s.ensures at c.limits_kept.ensures

kept5 : (c : Else-not-limits_kept) → limits_kept (stored_of c.args.front.now) ≡ true
kept5 c = sym (rw c.read_stored-s.ensures at c.limits_kept.ensures) ∙ c.if-not-limits_kept.false

-- ---- the answers

pub returns-then-long-lt-LEAST_LENGTH : goal.returns-then-long-lt-LEAST_LENGTH
unfolding long_enough
returns-then-long-lt-LEAST_LENGTH c =
    let v = c.args in
    sym (limits_refused v.front.now v.long
    (verdict_1 v.front.now v.long (lt-leb least_header v.long c.if-long-lt-LEAST_LENGTH.true)))

pub read_stored-s-requires : goal.read_stored-s-requires
read_stored-s-requires c = c.requires.begun c.if-long-lt-LEAST_LENGTH.false

pub returns-then-not-is_table : goal.returns-then-not-is_table
returns-then-not-is_table c =
    let here = goal.at.returns-then-not-is_table c in
    sym (limits_refused c.args.front.now c.args.long
    (verdict_2 c.args.front.now c.args.long (kept1 here.After-read_stored-s)
    (sym (verdict2 here.After-is_table) ∙ c.if-not-is_table.true)))

pub returns-then-not-known_version : goal.returns-then-not-known_version
returns-then-not-known_version c =
    let here = goal.at.returns-then-not-known_version c in
    sym (limits_refused c.args.front.now c.args.long
    (verdict_3 c.args.front.now c.args.long (kept1 here.After-read_stored-s) (kept2 here.Else-not-is_table)
    (sym (verdict3 here.After-known_version) ∙ c.if-not-known_version.true)))

pub is_unencrypted-requires : goal.is_unencrypted-requires
is_unencrypted-requires c =
    let here = c.requires.begun c.if-long-lt-LEAST_LENGTH.false in
    omega (arith, place c, encryption_most (stored_of c.args.front.now).version, here)

pub returns-then-not-is_unencrypted : goal.returns-then-not-is_unencrypted
returns-then-not-is_unencrypted c =
    let here = goal.at.returns-then-not-is_unencrypted c in
    sym (limits_refused c.args.front.now c.args.long
    (verdict_4 c.args.front.now c.args.long (kept1 here.After-read_stored-s) (kept2 here.Else-not-is_table)
    (kept3 here.Else-not-known_version) (sym (verdict4 here.After-is_unencrypted) ∙ c.if-not-is_unencrypted.true)))

pub returns-then-not-limits_kept : goal.returns-then-not-limits_kept
returns-then-not-limits_kept c =
    let here = goal.at.returns-then-not-limits_kept c in
    sym (limits_refused c.args.front.now c.args.long
    (verdict_5 c.args.front.now c.args.long (kept1 here.After-read_stored-s) (kept2 here.Else-not-is_table)
    (kept3 here.Else-not-known_version) (kept4 here.Else-not-is_unencrypted)
    (sym (verdict5 here.After-limits_kept) ∙ c.if-not-limits_kept.true)))

pub returns : goal.returns
returns c =
    let here = goal.at.returns c in
    let t = c.args.front.now in
    ap (λ (s : Stored). Ok s) c.read_stored-s.ensures
    ∙ sym (limits_held t c.args.long
    (verdict_kept t c.args.long (kept1 here.After-read_stored-s) (kept2 here.Else-not-is_table)
    (kept3 here.Else-not-known_version) (kept4 here.Else-not-is_unencrypted) (kept5 here.Else-not-limits_kept)))
