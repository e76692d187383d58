-- The rules as tests are the rules as propositions: they are kept exactly when HeaderRules holds. Assumes nothing.
use Prim.Native.Nat.{ℕ, zero, suc, ◌+◌, ◌*◌, ◌≤◌, ◌<◌}
use mathlib.Core.Path.{◌≡◌, refl, ap}
use mathlib.Core.Bool.{Bool, true, false, cond, not, ◌&&◌, ◌||◌, and-eq-true_iff, false≢true}
use mathlib.Core.List.{List}
use mathlib.Core.Logic.{◌⊎◌, inl, inr}
use native.Mathlib.Omega.{arith}
use lib.Dec.{eqb, leb, ltb}
use borrow.Author.Tests.{eq-eqb, ne_eqb, eqb-true, eqb-false, le-leb, lt-leb, leb-true, leb-false, lt-ltb, ltb-true}
use borrow.Author.Tests.{not-true}
use Rattle.std.specs.Prelude.{Option, Some, None}
use Rattle.words.specs.Each.{each}
use Rattle.words.specs.Numbers.{byte}
use Rattle.words.proofs.Conjunctions.{both, join}
use Rattle.words.proofs.EachLaws.{each_gives, each_takes}
use Rattle.words.proofs.ZeroLaws.{before_nonzero, before_zero_lem, before_is}
use Rattle.header.specs.Kinds.{is_blob}
use Rattle.header.specs.Refusals.{kept}
use Rattle.header.specs.Stored.{stored_of, block_size, encryption_at, area_at, names_at}
use Rattle.header.specs.Fields.{code_at, width_at, allowed, kind_at, pair_right, width_sum, name_length, name_fits}
use Rattle.header.specs.Fields.{names_fit, fields_right}
use Rattle.header.specs.Header.{least_header, least_version, most_version, most_units, block_head, most_blocks}
use Rattle.header.specs.Header.{most_fields, most_records, long_enough, is_table, known_version, unencrypted}
use Rattle.header.specs.Header.{keyed_right, limits_kept, length_right, limits_verdict, stored_length}
use Rattle.header.specs.Header.{fields_verdict, header_verdict}
use Rattle.header.specs.Rules.{Limits, Names, none, some, FieldRules, HeaderRules}
use Rattle.header.proofs.KindLaws.{kind_gives, kind_takes, pair_known}
use Rattle.header.proofs.VerdictLaws.{kept_of}
use Rattle.header.specs.declared.stored.Stored.{Stored}
use Rattle.header.specs.declared.kind.FieldKind.{FieldKind}
use Rattle.header.specs.declared.kind.FieldKind.TheVariants.{Text, Date, Short, Long, Number, Logical, Blob}
use Rattle.header.specs.declared.refusal.Refusal.TheVariants.{TooShort, NotATable, UnknownVersion, Encrypted}
use Rattle.header.specs.declared.refusal.Refusal.TheVariants.{HeaderLimit, WrongLength, FieldRule}

-- ---- 4

pub encryption_most : (version : ℕ) → encryption_at version ≤ 0x5C
encryption_most version = go (leb version 0x04)
  where
    go : (b : Bool) → cond b 0x25 0x5C ≤ 0x5C
    go true = omega arith
    go false = omega arith

unencrypted_gives : (t : List ℕ) (at : ℕ) → unencrypted t at ≡ true → (i : ℕ) → i < 4 → byte t (at + i) ≡ 0
unfolding unencrypted
unencrypted_gives t at e i l = eqb-true (byte t (at + i)) 0 (each_gives (λ (k : ℕ). eqb (byte t (at + k)) 0) 4 e i l)

unencrypted_takes : (t : List ℕ) (at : ℕ) → ((i : ℕ) → i < 4 → byte t (at + i) ≡ 0) → unencrypted t at ≡ true
unfolding unencrypted
unencrypted_takes t at h = each_takes (λ (k : ℕ). eqb (byte t (at + k)) 0) 4 (λ i l. eq-eqb (byte t (at + i)) 0 (h i l))

-- ---- 5

-- byte 04 and the sort byte, with key fields and without
keyed_gives : (s : Stored) → 1 ≤ s.key_fields → keyed_right s ≡ true → (s.kind ≡ 0) × (s.sort ≡ 0)
unfolding keyed_right
keyed_gives s l e =
    let p = both (rw (le-leb 1 s.key_fields l) at e) in
    (eqb-true s.kind 0 p.0, eqb-true s.sort 0 p.1)

unkeyed_gives : (s : Stored) → s.key_fields < 1 → keyed_right s ≡ true → s.kind ≡ 0 → ⊥
unfolding keyed_right
unkeyed_gives s l e = eqb-false s.kind 0 (not-true (eqb s.kind 0) (rw (lt-leb 1 s.key_fields l) at e))

keyed_by_byte : (s : Stored) → keyed_right s ≡ true → s.kind ≡ 0 → 1 ≤ s.key_fields
keyed_by_byte s e z = go (leb 1 s.key_fields) refl
  where
    go : (b : Bool) → leb 1 s.key_fields ≡ b → 1 ≤ s.key_fields
    go true f = leb-true 1 s.key_fields f
    go false f = absurd (unkeyed_gives s (leb-false 1 s.key_fields f) e z)

keyed_takes : (s : Stored) → Limits s → keyed_right s ≡ true
unfolding keyed_right
keyed_takes s l = go (leb 1 s.key_fields) refl
  where
    go : (b : Bool) → leb 1 s.key_fields ≡ b →
        cond b (eqb s.kind 0 && eqb s.sort 0) (not (eqb s.kind 0)) ≡ true
    go true f =
        let k = leb-true 1 s.key_fields f in join (eq-eqb s.kind 0 (l.byte_by_keyed k))
        (eq-eqb s.sort 0 (l.plain_order k))
    go false f =
        rw (ne_eqb s.kind 0 (λ z. absurd (omega (arith, l.keyed_by_byte z, leb-false 1 s.key_fields f))))

pub limits_give : (s : Stored) → limits_kept s ≡ true → Limits s
unfolding limits_kept
limits_give s e =
    let p10 = both e in
    let p9 = both p10.0 in
    let p8 = both p9.0 in
    let p7 = both p8.0 in
    let p6 = both p7.0 in
    let p5 = both p6.0 in
    let p4 = both p5.0 in
    let p3 = both p4.0 in
    let p2 = both p3.0 in
    let p1 = both p2.0 in
    record {
      units_least = leb-true 1 s.units p1.0;
      units_most = leb-true s.units most_units p1.1;
      size_least = leb-true 1 s.record_size p2.1;
      size_most = leb-true (s.record_size + block_head) (block_size s) p3.1;
      header_least = leb-true least_header s.header_size p4.1;
      blocks_most = leb-true s.blocks most_blocks p5.1;
      fields_least = leb-true 1 s.fields p6.1;
      fields_most = leb-true s.fields most_fields p7.1;
      keys_most = leb-true s.key_fields s.fields p8.1;
      records_most = leb-true s.records most_records p9.1;
      keyed_by_byte = keyed_by_byte s p10.1;
      byte_by_keyed = λ l. (keyed_gives s l p10.1).0;
      plain_order = λ l. (keyed_gives s l p10.1).1;
    }

limits_take : (s : Stored) → Limits s → limits_kept s ≡ true
unfolding limits_kept
limits_take s l =
    let units = join (le-leb 1 s.units l.units_least) (le-leb s.units most_units l.units_most) in
    let size = join units (le-leb 1 s.record_size l.size_least) in
    let fits = join size (le-leb (s.record_size + block_head) (block_size s) l.size_most) in
    let header = join fits (le-leb least_header s.header_size l.header_least) in
    let blocks = join header (le-leb s.blocks most_blocks l.blocks_most) in
    let some = join blocks (le-leb 1 s.fields l.fields_least) in
    let fields = join some (le-leb s.fields most_fields l.fields_most) in
    let keys = join fields (le-leb s.key_fields s.fields l.keys_most) in
    join (join keys (le-leb s.records most_records l.records_most)) (keyed_takes s l)

-- ---- 7: pairs

allowed_kind : (keyed : Bool) (k : Option FieldKind) → allowed keyed k ≡ true → (kind : FieldKind) × (k ≡ Some kind)
unfolding allowed
allowed_kind keyed (Some kind) e = (kind, refl)
allowed_kind keyed None e = absurd (false≢true e)

allowed_blob : (k : Option FieldKind) → allowed true k ≡ true → k ≡ Some Blob → ⊥
unfolding allowed is_blob
allowed_blob k e f = false≢true (rw f at e)

-- a kind that the table has is allowed, but for a blob in the key
not_blob : (kind : FieldKind) → (kind ≡ Blob → ⊥) → is_blob kind ≡ false
unfolding is_blob
not_blob Text h = refl
not_blob Date h = refl
not_blob Short h = refl
not_blob Long h = refl
not_blob Number h = refl
not_blob Logical h = refl
not_blob Blob h = absurd (h refl)

allowed_takes : (keyed : Bool) (k : Option FieldKind) → (k ≡ None → ⊥) → (keyed ≡ true → k ≡ Some Blob → ⊥) →
    allowed keyed k ≡ true
unfolding allowed
allowed_takes keyed None h g = absurd (h refl)
allowed_takes false (Some kind) h g = refl
allowed_takes true (Some kind) h g = rw (not_blob kind (λ e. g refl (ap Some e)))

-- ---- 7: names

pub names_give : (t : List ℕ) (end n at : ℕ) → names_fit t end n at ≡ true → Names t end n at
unfolding names_fit name_fits
names_give t end zero at e = none
names_give t end (suc n) at e =
    let p = (and-eq-true_iff (leb 1 (name_length t at) && leb (name_length t at) 25 && ltb (at + name_length t at) end)
    (names_fit t end n (at + name_length t at + 1))).0 e in
    let q =
    (and-eq-true_iff (leb 1 (name_length t at) && leb (name_length t at) 25) (ltb (at + name_length t at) end)).0
    p.0 in
    let r = (and-eq-true_iff (leb 1 (name_length t at)) (leb (name_length t at) 25)).0 q.0 in
    let most = leb-true (name_length t at) 25 r.1 in
    some
    (record {
      least = leb-true 1 (name_length t at) r.0;
      most = most;
      nonzero = λ i l. before_nonzero t at 26 i l;
      ended = before_zero_lem t at 26 (omega arith);
    })
    (ltb-true (at + name_length t at) end q.1)
    (names_give t end n (at + name_length t at + 1) p.1)

pub names_take : (t : List ℕ) (end n at : ℕ) → Names t end n at → names_fit t end n at ≡ true
unfolding names_fit name_fits
names_take t end zero at none = refl
names_take t end (suc n) at (some {l = l} name inside rest) =
    let e : name_length t at ≡ l = before_is t at 26 l (omega (arith, name.most)) name.nonzero name.ended in
    rw (e, le-leb 1 l name.least, le-leb l 25 name.most, lt-ltb (at + l) end inside)
    (names_take t end n (at + l + 1) rest)

-- ---- 7

fields_give : (t : List ℕ) (s : Stored) → s.key_fields ≤ s.fields → fields_right t s ≡ true → FieldRules t s
unfolding fields_right
fields_give t s k e =
    let area = area_at s.version in
    let p = (and-eq-true_iff (each (pair_right t area s.key_fields) s.fields && eqb (width_sum t area s.fields)
    s.record_size) (names_fit t s.header_size s.fields (names_at s))).0 e in
    let q = (and-eq-true_iff (each (pair_right t area s.key_fields) s.fields)
    (eqb (width_sum t area s.fields) s.record_size)).0 p.0 in
    record {
      pairs =
          λ f l. let k = allowed_kind (ltb f s.key_fields) (kind_at t area f)
          (each_gives (pair_right t area s.key_fields) s.fields q.0 f l) in
          (k.0, kind_gives (code_at t area f) (width_at t area f) k.0 k.1);
      keys =
          λ f l g. allowed_blob (kind_at t area f) (rw (lt-ltb f s.key_fields l) at
          (each_gives (pair_right t area s.key_fields) s.fields q.0 f (omega arith)))
          (kind_takes (code_at t area f) (width_at t area f) Blob g);
      widths = eqb-true (width_sum t area s.fields) s.record_size q.1;
      names = names_give t s.header_size s.fields (names_at s) p.1;
    }

fields_take : (t : List ℕ) (s : Stored) → FieldRules t s → fields_right t s ≡ true
unfolding fields_right
fields_take t s r =
    let area = area_at s.version in
    let a : each (pair_right t area s.key_fields) s.fields ≡ true = each_takes
    (pair_right t area s.key_fields) s.fields
    (λ f l. let (kind, good) = r.pairs f l in allowed_takes (ltb f s.key_fields) (kind_at t area f)
    (pair_known (code_at t area f) (width_at t area f) kind good)
    (λ k e. r.keys f (ltb-true f s.key_fields k) (kind_gives (code_at t area f) (width_at t area f) Blob e))) in
    rw (
      a,
      eq-eqb (width_sum t area s.fields) s.record_size r.widths,
      names_take t s.header_size s.fields (names_at s) r.names,
    )

-- ---- all seven

pub verdict_gives : (t : List ℕ) (long : ℕ) → header_verdict t long ≡ kept → HeaderRules t long
unfolding header_verdict limits_verdict fields_verdict long_enough known_version length_right is_table
verdict_gives t long e =
    let s = stored_of t in
    let p1 = kept_of (long_enough long) TooShort _ e in
    let p2 = kept_of (is_table s) NotATable _ p1.1 in
    let p3 = kept_of (known_version s.version) UnknownVersion _ p2.1 in
    let p4 = kept_of (unencrypted t (encryption_at s.version)) Encrypted _ p3.1 in
    let p5 = kept_of (limits_kept s) HeaderLimit _ p4.1 in
    let p6 = kept_of (stored_length long s) WrongLength _ p5.1 in
    let p7 = kept_of (fields_right t s) FieldRule kept p6.1 in
    let v = (and-eq-true_iff (leb least_version s.version) (leb s.version most_version)).0 p3.0 in
    let l = limits_give s p5.0 in
    record {
      long_enough = leb-true least_header long p1.0;
      kind = either (eqb s.kind 0) refl p2.0;
      version_least = leb-true least_version s.version v.0;
      version_most = leb-true s.version most_version v.1;
      unencrypted = unencrypted_gives t (encryption_at s.version) p4.0;
      limits = l;
      whole = eqb-true long (s.header_size + s.blocks * block_size s) p6.0;
      fields = fields_give t s l.keys_most p7.0;
    }
  where
    either : (b : Bool) → eqb (stored_of t).kind 0 ≡ b → (b || eqb (stored_of t).kind 2) ≡ true →
        ((stored_of t).kind ≡ 0) ⊎ ((stored_of t).kind ≡ 2)
    either true e f = inl (eqb-true (stored_of t).kind 0 e)
    either false e f = inr (eqb-true (stored_of t).kind 2 f)

is_table_lem : (s : Stored) → (s.kind ≡ 0) ⊎ (s.kind ≡ 2) → is_table s ≡ true
unfolding is_table
is_table_lem s (inl e) = rw e
is_table_lem s (inr e) = rw e

pub verdict_takes : (t : List ℕ) (long : ℕ) → HeaderRules t long → header_verdict t long ≡ kept
unfolding header_verdict limits_verdict fields_verdict long_enough known_version length_right
verdict_takes t long r =
    let s = stored_of t in
    rw (
      le-leb least_header long r.long_enough,
      is_table_lem s r.kind,
      le-leb least_version s.version r.version_least,
      le-leb s.version most_version r.version_most,
      unencrypted_takes t (encryption_at s.version) r.unencrypted,
      limits_take s r.limits,
      eq-eqb long (s.header_size + s.blocks * block_size s) r.whole,
      fields_take t s r.fields,
    )
