-- The scan of an accepted table with key fields is absent exactly when no record has the key, and what it finds is the
-- only record that has it; a refused one hands out no place. Assumes nothing.
use Rattle.std.specs.Prelude.{Option, None, Result, Ok, Err}
use Prim.Native.Nat.{ℕ, ◌≤◌}
use mathlib.Core.Path.{◌≡◌, sym, ap, subst, ◌∙◌}
use mathlib.Core.Bool.{true}
use mathlib.Core.List.{List}
use native.Mathlib.Omega.{arith}
use lib.ListN.{length, get_or}
use Rattle.header.specs.Refusals.{kept}
use Rattle.header.specs.declared.refusal.Refusal.{Refusal}
use Rattle.header.specs.Numbers.{numbers_of}
use Rattle.header.specs.declared.Header.{Header}
use Rattle.header.proofs.RefusalLaws.{refusal_least}
use Rattle.blocks.specs.Shape.{shape_of}
use Rattle.table.specs.Records.{Position, records_of}
use Rattle.table.specs.Keys.{key_at}
use Rattle.table.specs.Table.{table_answer}
use Rattle.table.proofs.RuleLaws.{accepted_table}
use Rattle.table.proofs.UniqueLaws.{any_default, key_once}
use Rattle.lookup.specs.Sought.{key_fits, first_with}
use Rattle.lookup.specs.Found.{lookup_of, found_at}
use Rattle.lookup.specs.Rules.{HasKey, Finds, NoPlace}
use Rattle.lookup.specs.declared.found.Found.{Found}
use Rattle.lookup.proofs.FoundLaws.{refused_no_place, no_refusal, number_absent, number_found}
use Rattle.lookup.proofs.KeyLaws.{fits_gives, fits_takes, Looked, finds, misses, looked}
use Rattle.scan.specs.Scan.{scan_of, scan_lookup}
use Rattle.scan.proofs.ScanLaws.{scan_first}

-- ---- a refused scan has a number, so absent is told from it by the numbers too

pub refused_number : (t key : List ℕ) (room : ℕ) (r : Refusal) → scan_of t key room ≡ Err r →
    1 ≤ (scan_lookup t key room).refusal
unfolding scan_lookup lookup_of
refused_number t key room r e = rw e (refusal_least r)

-- ---- two places that are the same

same_place : {b p c q : ℕ} → ◌≡◌ {A = Result (Option Found) Refusal} (Ok (found_at b p)) (Ok (found_at c q)) →
    (b ≡ c) × (p ≡ q)
unfolding lookup_of
same_place e = (ap (λ a. (lookup_of a).block) e, ap (λ a. (lookup_of a).place) e)

-- ---- the scan of an accepted table with key fields, for a key of its key length

module _ (t key : List ℕ) (room : ℕ) (e : table_answer t room ≡ kept) (f : key_fits (numbers_of t) key ≡ true) where
  abbrev h : Header
  h = numbers_of t

  -- what the scan came to: the one record with the key, or that there is none
  data Scanned (r : Result (Option Found) Refusal) : Type 0 where
    record_found : (p : Position) → HasKey t h key p → r ≡ Ok (found_at p.block p.place) → Scanned r
    none_found : ((p : Position) → HasKey t h key p → ⊥) → r ≡ Ok None → Scanned r

  scanned : Scanned (scan_of t key room)
  scanned = go (looked t (shape_of h) key (records_of t h))
    where
      size : length key ≡ h.key_length
      size = (fits_gives h key f).1

      first : scan_of t key room ≡ Ok (first_with t (shape_of h) key (records_of t h))
      first = scan_first t key room e f

      go : Looked t (shape_of h) key (records_of t h) (first_with t (shape_of h) key (records_of t h)) →
          Scanned (scan_of t key room)
      go (finds p i l there same at) =
          record_found p (record {
            index = i;
            inside = l;
            there = there;
            same = subst
                (λ (n : ℕ). key_at t (shape_of h) n p ≡ key) size same;
          }) (first ∙ ap Ok at)
      go (misses none at) =
          none_found
          (λ p k. none k.index p k.inside (rw k.there
          (subst (λ (n : ℕ). key_at t (shape_of h) n p ≡ key) (sym size) k.same)))
          (first ∙ ap Ok at)

  -- records with the key are one record
  pub one_record : (p q : Position) → HasKey t h key p → HasKey t h key q → p ≡ q
  one_record p q k l =
      let i : k.index ≡ l.index = key_once t h (accepted_table t room e) (fits_gives h key f).0 k.index l.index
      p q k.inside l.inside (rw (k.there, l.there) (k.same ∙ sym l.same)) in
      sym k.there
      ∙ any_default (records_of t h) k.index p q k.inside
      ∙ ap (λ (n : ℕ). get_or (records_of t h) n q) i
      ∙ l.there

  -- it is not refused
  pub scan_answers : (s : Refusal) → scan_of t key room ≡ Err s → ⊥
  scan_answers s r = go scanned
    where
      go : Scanned (scan_of t key room) → ⊥
      go (record_found p k at) = let z : ◌≡◌ {A = ℕ} 0 1 = cc in omega arith
      go (none_found none at) = let z : ◌≡◌ {A = ℕ} 0 1 = cc in omega arith

  -- absent exactly when no record has the key
  pub absent_gives : scan_of t key room ≡ Ok None → (p : Position) → HasKey t h key p → ⊥
  absent_gives r p l = go scanned
    where
      go : Scanned (scan_of t key room) → ⊥
      go (record_found q k at) = let z : ◌≡◌ {A = ℕ} 0 1 = cc in omega arith
      go (none_found none at) = none p l

  pub absent_takes : ((p : Position) → HasKey t h key p → ⊥) → scan_of t key room ≡ Ok None
  absent_takes none = go scanned
    where
      go : Scanned (scan_of t key room) → scan_of t key room ≡ Ok None
      go (record_found q k at) = absurd (none q k)
      go (none_found _ at) = at

  -- found at a block and place exactly when the record there has the key
  pub found_gives : (p : Position) → scan_of t key room ≡ Ok (found_at p.block p.place) → HasKey t h key p
  found_gives p r = go scanned
    where
      go : Scanned (scan_of t key room) → HasKey t h key p
      go (record_found q k at) = let e = same_place (sym r ∙ at) in rw (e.0, e.1) k
      go (none_found none at) = let z : ◌≡◌ {A = ℕ} 0 1 = cc in absurd (omega arith)

  pub found_takes : (p : Position) → HasKey t h key p → scan_of t key room ≡ Ok (found_at p.block p.place)
  found_takes p l = go scanned
    where
      go : Scanned (scan_of t key room) → scan_of t key room ≡ Ok (found_at p.block p.place)
      go (record_found q k at) = at ∙ rw (one_record q p k l)
      go (none_found none at) = absurd (none p l)

-- ---- the same by the scan's numbers

pub scan_finds : (t key : List ℕ) (room : ℕ) → table_answer t room ≡ kept → 1 ≤ (numbers_of t).key_fields →
    length key ≡ (numbers_of t).key_length → Finds t (numbers_of t) key (scan_lookup t key room)
unfolding scan_lookup lookup_of
scan_finds t key room e keyed size =
    let f = fits_takes (numbers_of t) key keyed size in
    let h = numbers_of t in
    let r = first_with t (shape_of h) key (records_of t h) in
    let first = scan_first t key room e f in
    rw first
    (record {
      accepted = no_refusal r;
      absent_gives = λ z. absent_gives t key room e f (first ∙ ap Ok (number_absent r z));
      absent_takes = λ none. ap (λ a. (lookup_of a).found) (sym first ∙ absent_takes t key room e f none);
      found_gives =
          λ z. found_gives t key room e f
          (record { block = (lookup_of (Ok r)).block; place = (lookup_of (Ok r)).place })
          (first ∙ ap Ok (number_found r z));
      found_takes =
          λ p k. let at = sym first ∙ found_takes t key room e f p k in (
            ap (λ a. (lookup_of a).found) at,
            ap (λ a. (lookup_of a).block) at,
            ap (λ a. (lookup_of a).place) at,
          );
    })

-- a refused scan hands out no place
pub scan_no_place : (t key : List ℕ) (room : ℕ) → ((scan_lookup t key room).refusal ≡ 0 → ⊥) →
    NoPlace (scan_lookup t key room)
unfolding scan_lookup
scan_no_place t key room = refused_no_place (scan_of t key room)
