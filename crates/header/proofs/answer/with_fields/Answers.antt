-- `with_fields` meets its contract: pairs, sum and names are judged in turn. Assumes nothing.
use mathlib.Core.Path.{◌≡◌, sym, ◌∙◌, ap}
use mathlib.Core.List.{List}
use Prim.Native.Nat.{ℕ}
use native.Mathlib.Omega.{arith}
use lib.ListN.{get_or}
use Rattle.std.specs.Prelude.{Ok}
use Rattle.words.specs.Each.{each}
use Rattle.header.specs.Stored.{area_at, names_at}
use Rattle.header.specs.Numbers.{numbers_with}
use Rattle.header.specs.declared.Header.{Header}
use Rattle.header.specs.Fields.{pair_right, width_sum, offsets_of, names_fit}
use Rattle.header.proofs.FieldLaws.{offset_at}
use Rattle.header.proofs.HeaderLaws.{fields_broken, pairs_broken, widths_broken, names_unfit, fields_kept}
use Rattle.header.proofs.answer.with_fields.Goals as goal
use Rattle.header.proofs.answer.with_fields.Goals.{After-add_widths, After-names_fit, Else-not-add_widths}

pairs : (c : After-add_widths) →
    c.add_widths.result ≡ each (pair_right c.args.t.now (area_at c.args.s.version) c.args.s.key_fields) c.args.s.fields
pairs c = rw c.area_at-area.ensures at c.add_widths.ensures.value

sums : (c : Else-not-add_widths) →
    c.add_widths.new.offsets ≡ offsets_of c.args.t.now (area_at c.args.s.version) c.args.s.fields
sums c = rw c.area_at-area.ensures at (c.add_widths.ensures.offsets_after c.if-not-add_widths.false)

total : (c : Else-not-add_widths) →
    get_or c.add_widths.new.offsets c.args.s.fields 0
    ≡ width_sum c.args.t.now (area_at c.args.s.version) c.args.s.fields
total c =
    let s = c.args.s in
    ap (λ (l : List ℕ). get_or l s.fields 0) (sums c)
    ∙ offset_at c.args.t.now (area_at s.version) s.fields s.fields c.requires.fields_most (omega arith)

names : (c : After-names_fit) →
    c.names_fit.result ≡ names_fit c.args.t.now c.args.s.header_size c.args.s.fields (names_at c.args.s)
names c = rw c.names_at-names.ensures at c.names_fit.ensures

pub returns-then-not-add_widths : goal.returns-then-not-add_widths
returns-then-not-add_widths c =
    let here = goal.at.returns-then-not-add_widths c in
    sym (fields_broken c.args.t.now c.args.s
    (pairs_broken c.args.t.now c.args.s (sym (pairs here.After-add_widths) ∙ c.if-not-add_widths.true)))

pub returns-then-header-n : goal.returns-then-header-n
returns-then-header-n c =
    let here = goal.at.returns-then-header-n c in
    sym (fields_broken c.args.t.now c.args.s
    (widths_broken c.args.t.now c.args.s (λ e. c.if-header-n.true (total here.Else-not-add_widths ∙ e))))

pub returns-then-not-names_fit : goal.returns-then-not-names_fit
returns-then-not-names_fit c =
    let here = goal.at.returns-then-not-names_fit c in
    sym (fields_broken c.args.t.now c.args.s
    (names_unfit c.args.t.now c.args.s (sym (names here.After-names_fit) ∙ c.if-not-names_fit.true)))

pub add_widths-requires : goal.add_widths-requires
unfolding numbers_with
add_widths-requires c =
    let r = c.requires in (
      r.fields_most,
      omega (arith, c.area_at-area.ensures, r.room, r.inside),
      ap (λ (h : Header). h.offsets) c.numbers-header.ensures,
    )

pub names_fit-requires : goal.names_fit-requires
names_fit-requires c =
    let r = c.requires in (omega (arith, c.names_at-names.ensures, r.room), r.inside)

-- a header with a key length and offsets of its fields
keyed : ℕ → List ℕ → Header → Header
keyed key offsets h =
    record {
      version = h.version;
      header_size = h.header_size;
      block_size = h.block_size;
      blocks = h.blocks;
      record_size = h.record_size;
      records = h.records;
      first = h.first;
      last = h.last;
      free = h.free;
      fields = h.fields;
      key_fields = h.key_fields;
      area = h.area;
      names = h.names;
      key_length = key;
      offsets = offsets;
    }

pub returns : goal.returns
unfolding numbers_with keyed
returns c =
    let here = goal.at.returns c in
    let offsets = c.add_widths.new.offsets in
    let key = get_or offsets c.args.s.key_fields 0 in
    ap (λ (h : Header). Ok (keyed key offsets h)) c.numbers-header.ensures
    ∙ sym (fields_kept c.args.t.now c.args.s offsets c.requires.fields_most c.requires.keys_most
    (sums here.Else-not-add_widths) (sym (pairs here.After-add_widths) ∙ c.if-not-add_widths.false)
    (sym (total here.Else-not-add_widths) ∙ c.if-header-n.false)
    (sym (names here.After-names_fit) ∙ c.if-not-names_fit.false))
