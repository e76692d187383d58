-- Entries that fit: two lists of them by the test of their equality, an entry's key, and the entries of a block that
-- fits. Assumes nothing.
use Prim.Native.Nat.{ℕ, zero, suc}
use mathlib.Core.Path.{◌≡◌, refl, ap₂}
use mathlib.Core.Bool.{Bool, true, false, not, ◌&&◌, false≢true}
use mathlib.Core.List.{List, [], ◌∷◌}
use lib.Dec.{eqb}
use borrow.Author.Tests.{eq-eqb, eqb-true, not-true}
use Rattle.words.specs.Each.{each}
use Rattle.words.specs.Order.{is_same, order}
use Rattle.words.proofs.Conjunctions.{both, join}
use Rattle.words.proofs.OrderLaws.{same_gives, same_takes}
use Rattle.blocks.specs.declared.Shape.{Shape}
use Rattle.index.specs.Entries.{entries_in, entry_key, entry_block}
use Rattle.pair.specs.Tree.{Entry, entry_at, key_right, fits, leaves, same_entries}
use Rattle.pair.specs.Rules.{KeyRight}

-- ---- two lists of entries

-- an entry is its key and its block
entry_is : (d e : Entry) → d.block ≡ e.block → d.key ≡ e.key → d ≡ e
entry_is d e p q = ap₂ entry q p
  where
    entry : List ℕ → ℕ → Entry
    entry key block = record { key = key; block = block }

-- two lists of entries pass the test exactly when they are equal
pub entries_gives : (us vs : List Entry) → same_entries us vs ≡ true → us ≡ vs
unfolding same_entries
entries_gives [] [] s = refl
entries_gives [] (e ∷ es) s = absurd (false≢true s)
entries_gives (d ∷ ds) [] s = absurd (false≢true s)
entries_gives (d ∷ ds) (e ∷ es) s =
    let p = both {a = eqb d.block e.block && is_same (order d.key e.key)} {b = same_entries ds es} s in
    let q = both {a = eqb d.block e.block} {b = is_same (order d.key e.key)} p.0 in
    let one : d ≡ e = entry_is d e (eqb-true d.block e.block q.0) (same_gives d.key e.key q.1) in
    let others : ds ≡ es = entries_gives ds es p.1 in
    cc

entries_self : (us : List Entry) → same_entries us us ≡ true
unfolding same_entries
entries_self [] = refl
entries_self (e ∷ es) =
    join (join (eq-eqb e.block e.block refl) (same_takes e.key e.key refl)) (entries_self es)

pub entries_takes : (us vs : List Entry) → us ≡ vs → same_entries us vs ≡ true
entries_takes us vs e = rw e (entries_self vs)

-- ---- over keys of n bytes

module _ (x : List ℕ) (g : Shape) (n : ℕ) where
  -- an entry's key is right
  pub key_gives : (level : ℕ) (e : Entry) → key_right x g n level e ≡ true → KeyRight x g n level e
  unfolding key_right
  key_gives zero e r = tt
  key_gives (suc level) e r = same_gives e.key (entry_key x g n e.block 0) r

  pub key_takes : (level : ℕ) (e : Entry) → KeyRight x g n level e → key_right x g n level e ≡ true
  unfolding key_right
  key_takes zero e r = refl
  key_takes (suc level) e r = same_takes e.key (entry_key x g n e.block 0) r

  -- entry i of index block b fits, where its block is at a level
  abbrev pub fitting : ℕ → ℕ → ℕ → Bool
  fitting level b i = fits x g n level (entry_block x g n b i) && key_right x g n level (entry_at x g n b i)

  -- the level 1 entries that it leads to
  abbrev pub under : ℕ → ℕ → ℕ → List Entry
  under level b i = leaves x g n level (entry_at x g n b i)

  pub entry_fits : (level b i : ℕ) → fitting level b i ≡ true →
      (fits x g n level (entry_block x g n b i) ≡ true) × (key_right x g n level (entry_at x g n b i) ≡ true)
  entry_fits level b i f =
      both {a = fits x g n level (entry_block x g n b i)} {b = key_right x g n level (entry_at x g n b i)} f

  -- a block that fits has entries, and each of them fits
  pub block_fits : (level b : ℕ) → fits x g n (suc level) b ≡ true →
      (eqb (entries_in x g b) 0 ≡ false) × (each (fitting level b) (entries_in x g b) ≡ true)
  unfolding fits
  block_fits level b f =
      let p = both {a = not (eqb (entries_in x g b) 0)} {b = each (fitting level b) (entries_in x g b)} f in
      (not-true (eqb (entries_in x g b) 0) p.0, p.1)
