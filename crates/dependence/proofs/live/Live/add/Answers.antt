use Rattle.std.proofs.Common.{ℕ, ◌<◌, sym, subst}
use Rattle.runs.specs.Live.{LiveAt}
use Rattle.runs.specs.declared.event.Event.{Event}
use Rattle.dependence.specs.Behind.{ComesBehind}
use Rattle.dependence.specs.Shown.{Shown}
use Rattle.dependence.proofs.ShownStates.{shown-added, shown-same, ok-so, err-so, lower-kept}
use Rattle.dependence.proofs.live.Live.add.Goals as goal

pub add_event-requires : goal.add_event-requires
add_event-requires c = record {
  whole = c.self.invariant.0;
  tabled = c.self.invariant.1;
  above = subst (λ (s : Shown). (t : ℕ) (e : Event) → LiveAt s.live t e → t < c.args.ticket) (sym c.self.view_is) c.requires.above;
  behind = subst (λ (s : Shown). ComesBehind s.live c.args.event) (sym c.self.view_is) c.requires.behind;
}

pub invariant_of-self : goal.invariant_of-self
invariant_of-self c = (
  c.add_event.ensures.whole,
  c.add_event.ensures.tabled,
  lower-kept c.add_event.result _ _ c.self.inside.list.live c.add_event.new.list.live c.self.inside.marks.items c.add_event.new.marks.items c.self.inside.first_marked
      c.self.invariant.2 c.add_event.ensures.added c.add_event.ensures.refused,
  c.add_event.ensures.ended c.self.inside.marked_to c.self.invariant.3,
)

pub returns : goal.returns
returns c = record {
  added = ok-so c.add_event.result _ _
      (λ both. shown-added c.args.self.now c.self.inside.list.live c.add_event.new.list.live _ _ c.args.ticket c.args.event c.self.view_is both.0 both.1)
      c.add_event.ensures.added;
  refused = err-so c.add_event.result _ _ (λ back h. (
    h.0,
    shown-same c.args.self.now c.self.inside.list.live c.add_event.new.list.live c.self.inside.marks.items c.add_event.new.marks.items c.self.view_is h.1 h.2,
  )) c.add_event.ensures.refused;
}
