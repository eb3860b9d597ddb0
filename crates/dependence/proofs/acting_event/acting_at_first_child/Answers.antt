use Rattle.std.proofs.Common.{true≢false, sym, ◌∙◌}
use Rattle.dependence.specs.LastEvents.{first_child}
use Rattle.dependence.proofs.ActingPlaces.{none-stands, stands-live, acts-alone, acts-elsewhere}
use Rattle.dependence.proofs.acting_event.acting_at_first_child.Goals as goal

pub returns-in_default : goal.returns-in_default
returns-in_default c =
    none-stands c.args.list.now.live c.args.tables.now (first_child c.args.place.now) c.requires.tables (sym c.at_first_child.ensures ∙ c.in_default.is)

pub event_of-event-requires : goal.event_of-event-requires
event_of-event-requires c =
    stands-live c.args.list.now.live c.args.tables.now (first_child c.args.place.now) c.in-Some.ticket c.requires.tables (sym c.at_first_child.ensures ∙ c.in-Some.is)

pub returns-then-is_first_child : goal.returns-then-is_first_child
returns-then-is_first_child c =
    acts-alone c.args.list.now.live c.args.tables.now (first_child c.args.place.now) c.in-Some.ticket c.event_of-event.result.now c.requires.rising c.requires.tables
    (sym c.at_first_child.ensures ∙ c.in-Some.is) c.event_of-event.ensures
    (sym c.acting_place.ensures ∙ (sym c.entries.ensures ∙ c.is_first_child.ensures.0 c.if-is_first_child.true))

pub returns-else-is_first_child : goal.returns-else-is_first_child
returns-else-is_first_child c =
    acts-elsewhere c.args.list.now.live c.args.tables.now (first_child c.args.place.now) c.in-Some.ticket c.event_of-event.result.now c.requires.rising c.requires.tables
    (sym c.at_first_child.ensures ∙ c.in-Some.is) c.event_of-event.ensures
    (λ acts. true≢false (sym (c.is_first_child.ensures.1 (c.entries.ensures ∙ (c.acting_place.ensures ∙ acts))) ∙ c.if-is_first_child.false))
