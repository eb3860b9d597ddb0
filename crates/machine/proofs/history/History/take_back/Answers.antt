use Rattle.std.proofs.Common.{sym, subst}
use Rattle.std.proofs.lemmas.Option.{get_or_from_slice_get}
use Rattle.runs.specs.Live.{LiveAt}
use Rattle.runs.specs.declared.event.Event.{Event}
use Rattle.event_inverse.specs.View.{both_view}
use Rattle.machine.specs.internal.Histories.{tree_of}
use Rattle.machine.proofs.public.Standing.{live-at, place-within, can-revert, stands-less}
use Rattle.machine.proofs.history.History.take_back.Goals as goal

pub take_boxed-event-requires-clause-live : goal.take_boxed-event-requires-clause-live
take_boxed-event-requires-clause-live c = (c.requires.at.0, live-at c.args.self.now.live.live c.args.ticket c.args.index c.requires.at.0 c.requires.at.1)

pub remove-inverse-requires : goal.remove-inverse-requires
remove-inverse-requires c =
    let h = c.args.self.now in
    place-within c.requires.holds.0 (tree_of h) h.live.live h.inverses h.next c.args.ticket c.args.index c.requires.at.0 c.requires.holds.1 c.requires.at.1

pub undo_by-requires : goal.undo_by-requires
undo_by-requires c =
    let h = c.args.self.now in
    can-revert c.requires.holds.0 (tree_of h) h.live.live h.inverses h.next c.args.ticket c.args.index c.requires.at.0 c.get.result.now
    c.remove-inverse.result c.requires.holds.1 c.requires.at.1 c.requires.alone
    (subst (λ (e : Event). LiveAt h.live.live c.args.ticket e) (sym c.get.ensures) c.take_boxed-event.ensures.event)
    (sym (get_or_from_slice_get h.inverses c.args.index c.remove-inverse.result c.remove-inverse.result c.remove-inverse.ensures.item))

pub returns-clause-holds : goal.returns-clause-holds
returns-clause-holds c = λ system holds.
    let h = c.args.self.now in
    stands-less system (tree_of h) (both_view c.undo_by.new.tree c.undo_by.new.store) h.live.live c.take_boxed-event.new.self.live h.inverses
    c.remove-inverse.new.self h.next c.args.ticket c.args.index c.requires.at.0 c.get.result.now c.remove-inverse.result holds c.requires.at.1
    c.requires.alone c.take_boxed-event.ensures.live
    (subst (λ (e : Event). LiveAt h.live.live c.args.ticket e) (sym c.get.ensures) c.take_boxed-event.ensures.event)
    (sym (get_or_from_slice_get h.inverses c.args.index c.remove-inverse.result c.remove-inverse.result c.remove-inverse.ensures.item))
    c.remove-inverse.ensures.taken c.undo_by.ensures
