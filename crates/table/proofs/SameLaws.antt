-- The same links, the same marks; with the same counts and keys the same answer of the table check. Assumes nothing.
use Rattle.std.specs.Prelude.{Option, Some, None, Err}
use Prim.Native.Nat.{ℕ, zero, suc, ◌+◌, ◌<◌}
use mathlib.Core.Path.{◌≡◌, refl, sym, ap, ◌∙◌, fun_ext}
use mathlib.Core.Bool.{Bool, cond}
use mathlib.Core.List.{List, [], ◌∷◌, ◌++◌, map, map-append}
use native.Mathlib.Nat.{add-zero, zero-add}
use native.Mathlib.Omega.{arith}
use lib.Dec.{leb}
use lib.ListN.{length, replicate, drop}
use Rattle.header.specs.Refusals.{Verdict, kept, first_broken}
use Rattle.header.specs.declared.refusal.Refusal.{Refusal}
use Rattle.header.specs.declared.refusal.Refusal.TheVariants.{ShortBuffer}
use Rattle.header.specs.Header.{header_refusal}
use Rattle.header.specs.Numbers.{numbers_of}
use Rattle.header.specs.Answers.{header_first}
use Rattle.header.specs.declared.Header.{Header}
use Rattle.header.proofs.VerdictLaws.{unless_kept}
use Rattle.blocks.specs.Shape.{shape_of}
use Rattle.blocks.specs.Counts.{count_in}
use Rattle.chain.specs.Chain.{chains_right}
use Rattle.chain.specs.Links.{SameLinks, links_of, used_of}
use Rattle.chain.specs.Marks.{unmarked, marks_of}
use Rattle.chain.proofs.SameLaws.{links_same, used_same}
use Rattle.table.specs.Records.{Position, held, places_from, records_in}
use Rattle.table.specs.Counts.{total, counts_right}
use Rattle.table.specs.Keys.{key_at, keys_in, keys_ascend}
use Rattle.table.specs.Table.{table_chained, tests_answer}
use Rattle.table.specs.Table.{rules_answer, blocks_answer, table_answer, block_marks, buffer_after, table_marks}
use Rattle.table.specs.Same.{SameCounts, SameKeys}

-- ---- counts

module _ (t : List ℕ) (h : Header) (u : List ℕ) (k : Header) (c : SameCounts t h u k) where
  pub total_same : (bs : List ℕ) → total u (shape_of k) bs ≡ total t (shape_of h) bs
  unfolding total
  total_same [] = refl
  total_same (b ∷ bs) = rw (c.count b, total_same bs)

  pub records_same : (bs : List ℕ) → records_in u (shape_of k) bs ≡ records_in t (shape_of h) bs
  unfolding records_in
  records_same [] = refl
  records_same (b ∷ bs) = rw (c.count b, records_same bs)

  pub counts_same : (bs : List ℕ) → counts_right u k bs ≡ counts_right t h bs
  unfolding counts_right
  counts_same bs = rw (fun_ext c.count, total_same bs, c.records)

-- ---- keys

-- what two functions make of n places of a block, where they make the same of each
places_same : (f g : Position → List ℕ) (b place n : ℕ) →
    ((i : ℕ) → i < n → f (record { block = b; place = place + i }) ≡ g (record { block = b; place = place + i })) →
    map f (places_from b place n) ≡ map g (places_from b place n)
unfolding places_from
places_same f g b place zero e = refl
places_same f g b place (suc n) e =
    let first = rw add-zero at (e 0 (omega arith)) in
    rw (
      first,
      places_same f g b (suc place) n
          (λ i l. let s : suc place + i ≡ place + suc i = omega arith in rw s (e (suc i) (omega arith))),
    )

module _ (t : List ℕ) (h : Header) (u : List ℕ) (k : Header) (c : SameCounts t h u k) (s : SameKeys t h u k) where
  abbrev now : Position → List ℕ
  now = key_at u (shape_of k) k.key_length

  abbrev before : Position → List ℕ
  before = key_at t (shape_of h) h.key_length

  -- the keys of the records that block b counts
  block_keys : (b : ℕ) (d : Option ℕ) → count_in t (shape_of h) b ≡ d →
      map now (places_from b 0 (held d)) ≡ map before (places_from b 0 (held d))
  unfolding held
  block_keys b (Some n) e =
      places_same now before b 0 n (λ i l. rw zero-add (s.keys b n i e l))
  block_keys b None e = places_same now before b 0 0 (λ i l. absurd (omega arith))

  pub keys_same : (bs : List ℕ) →
      keys_in u (shape_of k) k.key_length bs ≡ keys_in t (shape_of h) h.key_length bs
  unfolding records_in
  keys_same bs = ap (map now) (records_same t h u k c bs) ∙ go bs
    where
      go : (cs : List ℕ) → map now (records_in t (shape_of h) cs) ≡ map before (records_in t (shape_of h) cs)
      go [] = refl
      go (b ∷ cs) =
          let d = count_in t (shape_of h) b in
          let places = places_from b 0 (held d) in
          map-append now places (records_in t (shape_of h) cs)
          ∙ rw (block_keys b d refl, go cs) (sym (map-append before places (records_in t (shape_of h) cs)))

  pub ascend_same : (bs : List ℕ) → keys_ascend u k bs ≡ keys_ascend t h bs
  unfolding keys_ascend
  ascend_same bs = rw (keys_same bs, s.fields)

-- ---- the table check

-- the same tests, the same answer
tests_same : {a b c : Bool} (a' b' c' : Bool) → a ≡ a' → b ≡ b' → c ≡ c' → tests_answer a b c ≡ tests_answer a' b' c'
tests_same a' b' c' e f g = rw (e, f, g)

-- as many blocks, and the same answer of the rules
room_same : {n : ℕ} {a : Verdict} (n' : ℕ) (a' : Verdict) (room : ℕ) → n ≡ n' → a ≡ a' →
    first_broken (leb n room) ShortBuffer a ≡ first_broken (leb n' room) ShortBuffer a'
room_same n' a' room e f = rw (e, f)

-- as many blocks, the same test of the chains and the same used blocks: the same marks
marks_same : {n : ℕ} {a : Bool} {used : List ℕ} (n' : ℕ) (a' : Bool) (used' m : List ℕ) → n ≡ n' → a ≡ a' → used ≡ used'
    → cond (leb n (length m)) (cond a (marks_of n used) (replicate n unmarked) ++ drop n m) m
    ≡ cond (leb n' (length m)) (cond a' (marks_of n' used') (replicate n' unmarked) ++ drop n' m) m
marks_same n' a' used' m e f g = rw (e, f, g)

module _ (t : List ℕ) (h : Header) (u : List ℕ) (k : Header) (l : SameLinks t h u k) where
  chained_same : table_chained u k ≡ table_chained t h
  chained_same =
      ap (λ (n : ℕ). chains_right n (links_of u k)) l.blocks ∙ ap (chains_right h.blocks) (links_same t h u k l)

  pub buffer_same : (m : List ℕ) → buffer_after u k m ≡ buffer_after t h m
  unfolding buffer_after block_marks
  buffer_same m =
      marks_same h.blocks (table_chained t h) (used_of t h) m l.blocks chained_same (used_same t h u k l)

  pub rules_same : SameCounts t h u k → SameKeys t h u k → rules_answer u k ≡ rules_answer t h
  unfolding rules_answer
  rules_same c s =
      let used = used_of t h in
      let e = used_same t h u k l in
      tests_same (table_chained t h) (counts_right t h used) (keys_ascend t h used) chained_same
      (ap (counts_right u k) e ∙ counts_same t h u k c used)
      (ap (keys_ascend u k) e ∙ ascend_same t h u k c s used)

-- of two files that keep rules 1 to 7
module _ (t u : List ℕ) (e : header_refusal t ≡ kept) (f : header_refusal u ≡ kept)
    (l : SameLinks t (numbers_of t) u (numbers_of u)) where
  pub table_marks_same : (m : List ℕ) → table_marks u m ≡ table_marks t m
  unfolding table_marks header_first
  table_marks_same m =
      unless_kept (header_refusal u) (λ (r : Refusal). m) (buffer_after u (numbers_of u) m) f
      ∙ buffer_same t (numbers_of t) u (numbers_of u) l m
      ∙ sym (unless_kept (header_refusal t) (λ (r : Refusal). m) (buffer_after t (numbers_of t) m) e)

  pub table_answer_same : SameCounts t (numbers_of t) u (numbers_of u) → SameKeys t (numbers_of t) u (numbers_of u) →
      (room : ℕ) → table_answer u room ≡ table_answer t room
  unfolding table_answer header_first blocks_answer
  table_answer_same c s room =
      unless_kept (header_refusal u) Err (blocks_answer u (numbers_of u) room) f
      ∙ room_same (numbers_of t).blocks (rules_answer t (numbers_of t)) room l.blocks
      (rules_same t (numbers_of t) u (numbers_of u) l c s)
      ∙ sym (unless_kept (header_refusal t) Err (blocks_answer t (numbers_of t) room) e)
