-- The walk is the walk as a proposition, for any bytes: it answers with a record or absent exactly when WalkRules says
-- so, after as many index blocks as that lists, and with 8, 9 or 27 exactly when WalkMeets says so. Assumes nothing.
use Rattle.std.specs.Prelude.{Option, None, Result, Ok, Err}
use Prim.Native.Nat.{ℕ, ◌≤◌}
use mathlib.Core.Path.{◌≡◌, refl, sym, ap, ◌∙◌}
use mathlib.Core.Bool.{Bool, true, false, cond, false≢true}
use mathlib.Core.List.{List, [], ◌∷◌, ◌++◌}
use mathlib.Core.Logic.{◌⊎◌, inl, inr}
use native.Mathlib.Nat.{zero-add}
use native.Mathlib.Omega.{arith}
use lib.Dec.{eqb}
use lib.ListN.{length}
use borrow.Author.Tests.{eq-eqb, ne_eqb, eqb-true, eqb-false}
use Rattle.header.specs.Refusals.{kept, number, one_of, header_refusals}
use Rattle.header.specs.declared.refusal.Refusal.{Refusal}
use Rattle.header.specs.declared.refusal.Refusal.TheVariants.{ChainRule, WrongCount, BadArgument, IndexTree}
use Rattle.header.specs.Numbers.{numbers_of}
use Rattle.header.specs.Header.{header_refusal}
use Rattle.header.specs.Answers.{header_first}
use Rattle.header.specs.declared.Header.{Header}
use Rattle.header.proofs.VerdictLaws.{unless_kept}
use Rattle.header.proofs.AcceptedLaws.{accepted, accepted_gives, accepted_takes, first_only}
use Rattle.header.proofs.RefusalLaws.{one_of_front, one_of_back, one_of_rest, one_of_not, among_is}
use Rattle.blocks.specs.Shape.{shape_of}
use Rattle.blocks.specs.declared.Shape.{Shape}
use Rattle.blocks.proofs.ShapeLaws.{sound}
use Rattle.lookup.specs.Sought.{key_fits}
use Rattle.lookup.specs.declared.found.Found.{Found}
use Rattle.lookup.proofs.KeyLaws.{fits_gives, fits_takes}
use Rattle.index.specs.Header.{index_refusals, accepted_of, index_numbers, index_of}
use Rattle.index.specs.Walk.{found_of, reads_of, found_after, from_root, walk_tree, way_refusals, walk_key, walk_of}
use Rattle.index.specs.Visits.{RootVisits, RootMeets, WalkBegins, WalkRules, WalkMeets}
use Rattle.index.specs.Visits.RootVisits.{rootless, rooted}
use Rattle.index.specs.declared.IndexHeader.{IndexHeader}
use Rattle.index.specs.declared.walking.Walked.{Walked}
use Rattle.index.proofs.AcceptedLaws.{index_gives, index_takes}
use Rattle.index.proofs.RefusalLaws.{index_refusals_lem}
use Rattle.index.proofs.WalkLaws.{walk_tree_lem, key_unfit, index_refused}
use Rattle.index.proofs.VisitLaws.{meets_number, Judged, judged, visits_take, meets_take}
use Rattle.index.proofs.VisitLaws.{visits_once}
use Rattle.index.proofs.VisitLaws.Judged.{answered, refused}

-- ---- two answers that are the same

same_answer : (m n : ℕ) (e f : Option Found) → found_after m e ≡ found_after n f → (m ≡ n) × (e ≡ f)
unfolding reads_of found_of found_after
same_answer m n e f q = (ap reads_of q, let s = ap found_of q in cc)

refused_found : {X : Type 0} (m : ℕ) (r : Refusal) (f : Option Found) → Err r ≡ found_after m f → X
unfolding found_after
refused_found m r f q = cc

same_refusal : (r s : Refusal) → ◌≡◌ {A = Result Walked Refusal} (Err r) (Err s) → r ≡ s
same_refusal r s q = cc

-- ---- from the root

module _ (t : List ℕ) (g : Shape) (x : List ℕ) (i : IndexHeader) (key : List ℕ) where
  -- what a walk comes to
  data RootJudged : Result Walked Refusal → Type 0 where
    found_by : {visited : List ℕ} {found : Option Found} {r : ℕ} → RootVisits t g x i key visited found →
        r ≡ length visited → RootJudged (found_after r found)
    refused_by : {r : Refusal} → RootMeets t g x i key r → RootJudged (Err r)

  module _ (size : 1 ≤ g.record_size) (size_x : 1 ≤ i.shape.record_size) where
    root_takes : {visited : List ℕ} {found : Option Found} → RootVisits t g x i key visited found →
        walk_tree t g x i key ≡ found_after (length visited) found
    unfolding walk_tree
    root_takes (rootless z) = rw (eq-eqb i.root 0 z)
    root_takes (rooted ne v) =
        rw (ne_eqb i.root 0 ne) (visits_take t g x i.shape key size size_x v 0 ∙ rw zero-add)

    root_meets : {r : Refusal} → RootMeets t g x i key r → walk_tree t g x i key ≡ Err r
    unfolding walk_tree
    root_meets m = rw (ne_eqb i.root 0 m.not_rootless) (meets_take t g x i.shape key size size_x m.meets 0)

    -- no other index blocks are visited
    root_once : {visited others : List ℕ} {found other : Option Found} → RootVisits t g x i key visited found →
        RootVisits t g x i key others other → visited ≡ others
    root_once (rootless z) (rootless y) = refl
    root_once (rootless z) (rooted ne v) = absurd (ne z)
    root_once (rooted ne v) (rootless z) = absurd (ne z)
    root_once (rooted ne v) (rooted other w) = visits_once t g x i.shape key size size_x v w

    root_judged : RootJudged (walk_tree t g x i key)
    unfolding walk_tree
    root_judged = go (eqb i.root 0) refl
      where
        from_root_lem : (i.root ≡ 0 → ⊥) → {w : Result Walked Refusal} → Judged t g x i.shape key i.levels i.root 0 w →
            RootJudged w
        from_root_lem ne (answered {r = r} v e) = found_by {r = r} (rooted ne v) (e ∙ rw zero-add)
        from_root_lem ne (refused m) = refused_by (record { not_rootless = ne; meets = m })

        go : (c : Bool) → eqb i.root 0 ≡ c → RootJudged (cond c (found_after 0 None) (from_root t g x i key))
        go true e = found_by {r = 0} (rootless (eqb-true i.root 0 e)) refl
        go false e =
            from_root_lem (eqb-false i.root 0 e) (judged t g x i.shape key size size_x i.levels i.root 0)

-- ---- the refusals before the walk

-- those of all rules before the walk
abbrev earlier_refusals : List Refusal
earlier_refusals = header_refusals ++ (BadArgument ∷ index_refusals)

-- none of them is the walk's own
not_earlier : (r : Refusal) → one_of way_refusals r ≡ true → one_of earlier_refusals r ≡ true → ⊥
unfolding one_of number header_refusals index_refusals
not_earlier r w v =
    let not27 = one_of_not r earlier_refusals IndexTree v refl in
    let not8 = one_of_not r earlier_refusals ChainRule v refl in
    let not9 = one_of_not r earlier_refusals WrongCount v refl in
    false≢true (one_of_rest r WrongCount [] not9 (one_of_rest r ChainRule (WrongCount ∷ []) not8
    (one_of_rest r IndexTree (ChainRule ∷ WrongCount ∷ []) not27 w)))

-- ---- the whole

module _ (t x key : List ℕ) where
  abbrev h : Header
  h = numbers_of t

  begins_tree : WalkBegins t x key → walk_of t x key ≡ walk_tree t (shape_of h) x (index_numbers x) key
  unfolding walk_of header_first
  begins_tree b =
      unless_kept (header_refusal t) Err (walk_key t h x key) (accepted_takes t b.table)
      ∙ walk_tree_lem t x key (fits_takes h key b.keyed b.long) (index_numbers x) (index_takes x h.key_length b.index)

  -- an answer that is no refusal of an earlier rule: those are kept
  begins_only : (w : Result Walked Refusal) → ((r : Refusal) → one_of earlier_refusals r ≡ true → Err r ≡ w → ⊥) →
      walk_of t x key ≡ w → WalkBegins t x key
  unfolding walk_of one_of number
  begins_only w other e =
      let p = first_only t Err (walk_key t h x key) w
      (λ r o. other r (one_of_front r header_refusals later o)) e in
      by_key p.0 p.1 (key_fits h key) refl
    where
      later : List Refusal
      later = BadArgument ∷ index_refusals

      by_index : header_refusal t ≡ kept → walk_key t h x key ≡ w → key_fits h key ≡ true
          → (i : Result IndexHeader Refusal) → index_of x h.key_length ≡ i → WalkBegins t x key
      by_index z q f (Ok i) k =
          let p = fits_gives h key f in
          record {
            table = accepted_gives t z;
            keyed = p.0;
            long = p.1;
            index = index_gives x h.key_length i k;
          }
      by_index z q f (Err r) k =
          let o = among_is index_refusals (index_of x h.key_length) (index_refusals_lem x h.key_length) k in
          absurd (other r (one_of_back r header_refusals later (one_of_back r (BadArgument ∷ []) index_refusals o))
          (sym (index_refused t x key f r k) ∙ q))

      by_key : header_refusal t ≡ kept → walk_key t h x key ≡ w → (c : Bool) → key_fits h key ≡ c → WalkBegins t x key
      by_key z q true f = by_index z q f (index_of x h.key_length) refl
      by_key z q false f =
          absurd (other BadArgument (one_of_back BadArgument header_refusals later refl)
          (sym (key_unfit t x key f) ∙ q))

  module _ (b : WalkBegins t x key) where
    begins_size : 1 ≤ (shape_of h).record_size
    begins_size = (sound t h (accepted t (accepted_takes t b.table))).size_least

    begins_entries : 1 ≤ (index_numbers x).shape.record_size
    unfolding accepted_of
    begins_entries = omega (arith, b.index.limits.size)

    begins_judged : RootJudged t (shape_of h) x (index_numbers x) key (walk_of t x key)
    begins_judged =
        rw (begins_tree b) (root_judged t (shape_of h) x (index_numbers x) key begins_size begins_entries)

  -- ---- found or absent

  -- the walk that the rules say is the one that is answered
  pub walk_takes : (visited : List ℕ) (found : Option Found) → WalkRules t x key visited found →
      walk_of t x key ≡ found_after (length visited) found
  walk_takes visited found r =
      let b = r.begins in
      begins_tree b ∙ root_takes t (shape_of h) x (index_numbers x) key (begins_size b) (begins_entries b) r.visits

  -- an answer that is no refusal is the one that the rules say
  pub walk_gives : (reads : ℕ) (found : Option Found) → walk_of t x key ≡ found_after reads found →
      (visited : List ℕ) × (WalkRules t x key visited found) × (length visited ≡ reads)
  walk_gives reads found e = go (begins_judged begun) e
    where
      begun : WalkBegins t x key
      begun = begins_only (found_after reads found) (λ r o q. refused_found reads r found q) e

      go : {w : Result Walked Refusal} → RootJudged t (shape_of h) x (index_numbers x) key w
          → w ≡ found_after reads found
          → (visited : List ℕ) × (WalkRules t x key visited found) × (length visited ≡ reads)
      go (found_by {visited = visited} {found = f} {r = r} v l) q =
          let same = same_answer r reads f found q in
          (visited, record { begins = begun; visits = rw same.1 at v }, sym l ∙ same.0)
      go (refused_by {r = s} m) q = refused_found reads s found q

  -- there is one such walk at most
  pub walk_once : (visited others : List ℕ) (found other : Option Found) → WalkRules t x key visited found →
      WalkRules t x key others other → (visited ≡ others) × (found ≡ other)
  walk_once visited others found other r s =
      let b = r.begins in
      let q = sym (walk_takes visited found r) ∙ walk_takes others other s in (
        root_once t (shape_of h) x (index_numbers x) key (begins_size b) (begins_entries b) r.visits s.visits,
        (same_answer (length visited) (length others) found other q).1,
      )

  -- ---- 8, 9 and 27

  -- what a walk meets is what it is refused with
  pub meets_takes : (r : Refusal) → WalkMeets t x key r → walk_of t x key ≡ Err r
  meets_takes r m =
      let b = m.begins in
      begins_tree b ∙ root_meets t (shape_of h) x (index_numbers x) key (begins_size b) (begins_entries b) m.meets

  -- a refusal of the walk's is one that it meets
  pub meets_gives : (r : Refusal) → one_of way_refusals r ≡ true → walk_of t x key ≡ Err r → WalkMeets t x key r
  meets_gives r w e = go (begins_judged begun) e
    where
      begun : WalkBegins t x key
      begun = begins_only (Err r) (λ s o q. not_earlier r w (rw (same_refusal s r q) at o)) e

      go : {a : Result Walked Refusal} → RootJudged t (shape_of h) x (index_numbers x) key a → a ≡ Err r →
          WalkMeets t x key r
      go (found_by {found = f} {r = n} v l) q = refused_found n r f (sym q)
      go (refused_by {r = s} o) q = record { begins = begun; meets = rw (same_refusal s r q) at o }

  -- and it meets no other
  pub meets_own : (r : Refusal) → WalkMeets t x key r → one_of way_refusals r ≡ true
  meets_own r m = meets_number t (shape_of h) x (index_numbers x).shape key m.meets.meets

  -- where the rules before the walk are kept, it finds a record or absence, or meets one of these
  pub walk_comes : WalkBegins t x key →
      ((visited : List ℕ) × (found : Option Found) × (WalkRules t x key visited found))
      ⊎ ((r : Refusal) × (WalkMeets t x key r))
  walk_comes b = go (begins_judged b)
    where
      go : {a : Result Walked Refusal} → RootJudged t (shape_of h) x (index_numbers x) key a
          → ((visited : List ℕ) × (found : Option Found) × (WalkRules t x key visited found))
          ⊎ ((r : Refusal) × (WalkMeets t x key r))
      go (found_by {visited = visited} {found = found} v l) = inl (visited, found, record { begins = b; visits = v })
      go (refused_by {r = r} m) = inr (r, record { begins = b; meets = m })
