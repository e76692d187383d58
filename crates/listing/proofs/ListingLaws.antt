-- The whole listing: the first line, and then the line of each record that a cursor comes to. Assumes nothing.
use Prim.Native.Nat.{ℕ}
use mathlib.Core.Path.{◌≡◌, sym, ap, ◌∙◌}
use mathlib.Core.Bool.{Bool, true, false, cond}
use mathlib.Core.List.{List, ◌++◌, append-nil}
use lib.Dec.{ltb}
use lib.ListN.{length}
use Rattle.std.specs.Prelude.{Err}
use Rattle.words.proofs.Cases.{apart}
use Rattle.header.specs.Refusals.{kept}
use Rattle.header.specs.declared.refusal.Refusal.{Refusal}
use Rattle.header.specs.declared.refusal.Refusal.TheVariants.{ShortBuffer}
use Rattle.header.specs.Header.{most_blocks}
use Rattle.header.specs.Numbers.{numbers_of}
use Rattle.header.proofs.VerdictLaws.{unless_kept, unless_refused_lem}
use Rattle.table.specs.Records.{Position, records_of}
use Rattle.table.specs.Table.{table_answer}
use Rattle.table.proofs.RuleLaws.{accepted_table}
use Rattle.cursor.specs.Cursor.{start_of}
use Rattle.cursor.specs.Rules.{Gives}
use Rattle.cursor.proofs.Stepping.{stepping}
use Rattle.listing.specs.Listing.{most_bytes, lines_of, list_answer, head_of, refused_text}
use Rattle.listing.specs.Listing.{listed, listed_count, listing_of}

module _ (t : List ℕ) where
  -- a table that is listed is accepted
  accepted_answer : list_answer t ≡ kept → table_answer t most_blocks ≡ kept
  unfolding list_answer
  accepted_answer e = go (ltb most_bytes (length t)) e
    where
      go : (b : Bool) → cond b (Err ShortBuffer) (table_answer t most_blocks) ≡ kept → table_answer t most_blocks ≡ kept
      go true z = apart cc
      go false z = z

  -- its records come one after the other as a cursor is stepped, and they are as many as the first line says
  pub listed_come : list_answer t ≡ kept → Gives t (start_of t) (listed t) × (length (listed t) ≡ listed_count t)
  unfolding listed listed_count
  listed_come e =
      let a = accepted_answer e in
      rw (
        unless_kept (list_answer t) _ (records_of t (numbers_of t)) e,
        unless_kept (list_answer t) _ (numbers_of t).records e,
      )
      ((stepping t most_blocks a).gives, (accepted_table t most_blocks a).records)

  -- so the first line and then the lines of the records that come are the listing
  pub listing_printed : (ps : List Position) → list_answer t ≡ kept → Gives t (start_of t) ps
      → head_of t ++ lines_of t ps ≡ listing_of t
  unfolding listing_of listed
  listing_printed ps e g =
      let only = (stepping t most_blocks (accepted_answer e)).exactly ps g in
      let all = sym (unless_kept (list_answer t) _ (records_of t (numbers_of t)) e) in
      ap (λ (x : List Position). head_of t ++ lines_of t x) (only ∙ all)

  -- of any other table the first line is all
  pub listing_refused : (r : Refusal) → list_answer t ≡ Err r → (refused_text r ≡ listing_of t) × (listed_count t ≡ 0)
  unfolding listing_of listed listed_count head_of lines_of
  listing_refused r e =
      let v = list_answer t in
      rw (unless_refused_lem v refused_text _ e, unless_refused_lem v _ (records_of t (numbers_of t)) e)
      (sym (append-nil (refused_text r)), unless_refused_lem v _ (numbers_of t).records e)
