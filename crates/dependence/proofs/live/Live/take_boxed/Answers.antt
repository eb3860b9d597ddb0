use Rattle.std.proofs.Common.{◌≡◌, ℕ, sym, subst}
use Rattle.runs.specs.Dependence.{Without}
use Rattle.runs.specs.Live.{LiveAt, NoDependent, WithoutTickets, IsLive}
use Rattle.dependence.specs.Shown.{Shown, tickets_marked}
use Rattle.dependence.proofs.public.Markings.{less-marked, without-in}
use Rattle.dependence.proofs.live.Live.take_boxed.Goals as goal

pub take_event-requires : goal.take_event-requires
take_event-requires c = record {
  whole = c.self.invariant.0;
  ended = c.self.invariant.3;
  tabled = c.self.invariant.1;
  live = subst (λ (s : Shown). IsLive s.live c.args.ticket) (sym c.self.view_is) c.requires.live;
  alone = subst (λ (s : Shown). NoDependent s.live c.args.ticket) (sym c.self.view_is) c.requires.alone;
}

pub returns : goal.returns
returns c = record {
  event = subst (λ (s : Shown). LiveAt s.live c.args.ticket c.take_event.result) c.self.view_is c.take_event.ensures.event;
  live = subst (λ (s : Shown). WithoutTickets (λ t. t ≡ c.args.ticket) s.live c.take_event.new.list.live) c.self.view_is c.take_event.ensures.live;
  marked = subst (λ (s : Shown). Without (λ (t : ℕ). t ≡ c.args.ticket) s.marked (tickets_marked c.take_event.new.list.live c.take_event.new.marks.items)) c.self.view_is
      c.take_event.ensures.marked;
}

pub invariant_of-self : goal.invariant_of-self
invariant_of-self c = (
  c.take_event.ensures.whole,
  c.take_event.ensures.tabled,
  less-marked c.self.inside.first_marked _ _ (without-in (λ (v : ℕ). v ≡ c.args.ticket) _ _ c.take_event.ensures.marked) c.self.invariant.2,
  c.take_event.ensures.ended,
)
