-- `rest` meets its contract: the length, then room for names and rule 7. Assumes nothing.
use mathlib.Core.Path.{sym, ◌∙◌}
use borrow.Author.Tests.{ltb-true, ltb-false}
use Rattle.header.specs.Steps.{rest_answer}
use Rattle.header.proofs.HeaderLaws.{fields_broken, no_room}
use Rattle.header.proofs.answer.rest.Goals as goal

pub has_room-room-requires : goal.has_room-room-requires
has_room-room-requires c = c.requires.fields_most

pub returns-then-not-whole : goal.returns-then-not-whole
unfolding rest_answer
returns-then-not-whole c = rw (sym c.is_length_right-whole.ensures ∙ c.if-not-whole.true)

pub returns-then-not-room : goal.returns-then-not-room
unfolding rest_answer
returns-then-not-room c =
    let v = c.args in
    let full = ltb-false _ _ (sym c.has_room-room.ensures ∙ c.if-not-room.true) in
    rw (sym c.is_length_right-whole.ensures ∙ c.if-not-whole.false)
    (sym (fields_broken v.front.now v.s (no_room v.front.now v.s c.requires.fields_least full)))

pub with_fields-requires : goal.with_fields-requires
with_fields-requires c =
    let r = c.requires in
    record {
      units_most = r.units_most;
      fields_most = r.fields_most;
      keys_most = r.keys_most;
      room = ltb-true _ _ (sym c.has_room-room.ensures ∙ c.if-not-room.false);
      inside = r.inside (sym c.is_length_right-whole.ensures ∙ c.if-not-whole.false);
    }

pub returns : goal.returns
unfolding rest_answer
returns c = rw (sym c.is_length_right-whole.ensures ∙ c.if-not-whole.false) c.with_fields.ensures
