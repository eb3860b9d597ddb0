use Rattle.std.proofs.Common.{List, sym, subst, refl}
use Rattle.std.specs.Prelude.{IfOk}
use Rattle.runs.specs.Live.{Live, IsLive, ConsequencesList}
use Rattle.dependence.specs.Shown.{Shown}
use Rattle.dependence.specs.declared.links.Links.{Links}
use Rattle.dependence.specs.internal.Tables.{IsRising, Linked}
use Rattle.dependence.proofs.live.Live.consequences.Goals as goal

pub consequences-requires : goal.consequences-requires
consequences-requires c = record {
  rising = subst (λ (k : Live). IsRising k) (sym refl) c.self.invariant.0.rising;
  linked = subst (λ (k : Live). Linked k c.self.inside.list.links) (sym refl)
      (subst (λ (k : List Links). Linked c.self.inside.list.live k) (sym refl) c.self.invariant.0.linked);
  live = subst (λ (k : Live). IsLive k c.args.ticket) (sym refl)
      (subst (λ (s : Shown). IsLive s.live c.args.ticket) (sym c.self.view_is) c.requires);
}

pub returns : goal.returns
returns c =
    subst (λ (s : Shown). IfOk c.consequences.result (λ tickets. ConsequencesList s.live c.args.ticket tickets.items)) c.self.view_is
    (subst (λ (k : Live). IfOk c.consequences.result (λ tickets. ConsequencesList k c.args.ticket tickets.items)) refl
    c.consequences.ensures)
