-- The first line of a listing, by what the table check answers, and how long it is. Assumes nothing.
use Prim.Native.Nat.{ℕ, ◌≤◌, ◌<◌}
use mathlib.Core.Path.{◌≡◌, sym, ap, ◌∙◌}
use mathlib.Core.List.{List, [], ◌∷◌, ◌++◌}
use native.Mathlib.Omega.{arith}
use lib.ListN.{length, length-append}
use borrow.Author.Tests.{lt-ltb, le-ltb}
use Rattle.io.specs.Counts.{IsPrefixLen}
use Rattle.std.specs.Prelude.{Result, Ok, Err}
use Rattle.header.specs.Refusals.{number, kept}
use Rattle.header.specs.declared.refusal.Refusal.{Refusal}
use Rattle.header.specs.declared.refusal.Refusal.TheVariants.{ShortBuffer}
use Rattle.header.specs.Header.{most_blocks}
use Rattle.header.specs.Numbers.{numbers_of}
use Rattle.header.specs.declared.Header.{Header}
use Rattle.header.proofs.VerdictLaws.{unless_kept, unless_refused_lem}
use Rattle.table.specs.Table.{table_answer, checked_header}
use Rattle.table.proofs.CheckLaws.{checked_refusal, checked_kept}
use Rattle.buffer.specs.Pieces.{AtFront}
use Rattle.buffer.specs.Text.{decimal}
use Rattle.buffer.proofs.PieceLaws.{front_as}
use Rattle.buffer.proofs.TextLaws.{decimal_most}
use Rattle.listing.specs.Listing.{newline, fields_word, key_word, records_word, refused_word, most_bytes}
use Rattle.listing.specs.Listing.{list_answer, head_text, refused_text, head_of, listed_count}

-- ---- the answer

module _ (t : List ℕ) where
  pub long_answer : most_bytes < length t → list_answer t ≡ Err ShortBuffer
  unfolding list_answer
  long_answer l = rw (lt-ltb most_bytes (length t) l)

  short_answer : length t ≤ most_bytes → list_answer t ≡ table_answer t most_blocks
  unfolding list_answer
  short_answer l = rw (le-ltb most_bytes (length t) l)

  -- the table check with marks enough, as it was answered
  module _ (room : ℕ) (a : Result Header Refusal) (read : a ≡ checked_header t room) (l : length t ≤ most_bytes)
      (enough : room ≡ most_blocks) where
    answered : list_answer t ≡ table_answer t room
    answered = short_answer l ∙ ap (table_answer t) (sym enough)

    pub read_refused : {r : Refusal} → a ≡ Err r → list_answer t ≡ Err r
    read_refused e = answered ∙ checked_refusal t room a read e

    pub read_kept : {h : Header} → a ≡ Ok h → list_answer t ≡ kept
    read_kept e = answered ∙ checked_kept t room a read e

-- ---- how long the line is

pub refused_most : (r : Refusal) → length (refused_text r) ≤ 65536
unfolding refused_text
refused_most r =
    let n = number r in
    let x = length-append refused_word (decimal n) in
    let y = length-append (refused_word ++ decimal n) (newline ∷ []) in
    omega (arith, x, y, decimal_most n)

-- the head line as far as its number of fields, and of key fields
abbrev pub fields_text : ℕ → List ℕ
fields_text fields = fields_word ++ decimal fields

abbrev pub keys_text : ℕ → ℕ → List ℕ
keys_text fields keys = fields_text fields ++ key_word ++ decimal keys

pub fields_most : (fields : ℕ) → length (fields_text fields) ≤ 27
fields_most fields = let a = length-append fields_word (decimal fields) in omega (arith, a, decimal_most fields)

pub keys_most : (fields keys : ℕ) → length (keys_text fields keys) ≤ 52
keys_most fields keys =
    let a = length-append (fields_text fields) key_word in
    let b = length-append (fields_text fields ++ key_word) (decimal keys) in
    omega (arith, a, b, fields_most fields, decimal_most keys)

pub head_most : (fields keys records : ℕ) → length (head_text fields keys records) ≤ 65536
unfolding head_text
head_most fields keys records =
    let k = keys_text fields keys in
    let r = decimal records in
    let a = length-append k records_word in
    let b = length-append (k ++ records_word) r in
    let c = length-append (k ++ records_word ++ r) (newline ∷ []) in
    omega (arith, a, b, c, keys_most fields keys, decimal_most records)

-- ---- the line

-- what `listing::head` promises
abbrev Heads : List ℕ → List ℕ → List ℕ → ℕ → ℕ → Type 0
Heads t s e n records = IsPrefixLen n e × (AtFront s (head_of t) e n × (records ≡ listed_count t))

-- the head line of a header
abbrev head_by : Header → List ℕ
head_by h = head_text h.fields h.key_fields h.records

module _ (t s e : List ℕ) (n : ℕ) where
  pub refused_head : (r : Refusal) (records : ℕ) → list_answer t ≡ Err r
      → IsPrefixLen n e × (AtFront s (refused_text r) e n × (records ≡ 0)) → Heads t s e n records
  unfolding head_of listed_count
  refused_head r records a w =
      let is : refused_text r ≡ head_of t = sym (unless_refused_lem (list_answer t) refused_text _ a) in
      let none = sym (unless_refused_lem (list_answer t) (λ (i : Refusal). 0) (numbers_of t).records a) in
      (w.0, (front_as is w.1.0, w.1.1 ∙ none))

  pub accepted_head : (h : Header) → h ≡ numbers_of t → list_answer t ≡ kept
      → IsPrefixLen n e × AtFront s (head_by h) e n → Heads t s e n h.records
  unfolding head_of listed_count
  accepted_head h same a w =
      let is : head_by h ≡ head_of t =
      ap head_by same ∙ sym (unless_kept (list_answer t) refused_text (head_by (numbers_of t)) a) in
      let all = sym (unless_kept (list_answer t) (λ (i : Refusal). 0) (numbers_of t).records a) in
      (w.0, (front_as is w.1, ap (λ (k : Header). k.records) same ∙ all))
