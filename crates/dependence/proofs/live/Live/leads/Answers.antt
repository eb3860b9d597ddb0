use Rattle.std.proofs.Common.{List, sym, subst, refl}
use Rattle.runs.specs.Live.{Live, IsLive}
use Rattle.dependence.specs.Followers.{ListsLeads}
use Rattle.dependence.specs.Shown.{Shown}
use Rattle.dependence.specs.declared.links.Links.{Links}
use Rattle.dependence.specs.internal.Tables.{IsRising, Linked}
use Rattle.dependence.proofs.live.Live.leads.Goals as goal

pub leads_at-requires : goal.leads_at-requires
leads_at-requires c = record {
  rising = subst (λ (k : Live). IsRising k) (sym refl) c.self.invariant.0.rising;
  linked = subst (λ (k : Live). Linked k c.self.inside.list.links) (sym refl)
      (subst (λ (k : List Links). Linked c.self.inside.list.live k) (sym refl) c.self.invariant.0.linked);
  live = subst (λ (k : Live). IsLive k c.args.ticket) (sym refl)
      (subst (λ (s : Shown). IsLive s.live c.args.ticket) (sym c.self.view_is) c.requires);
}

pub returns : goal.returns
returns c =
    subst (λ (s : Shown). ListsLeads s.live c.args.ticket c.leads_at.result.now) c.self.view_is
    (subst (λ (k : Live). ListsLeads k c.args.ticket c.leads_at.result.now) refl c.leads_at.ensures)
