use Rattle.std.proofs.Common.{List, sym, subst, refl}
use Rattle.runs.specs.Live.{Live, IsLive}
use Rattle.dependence.specs.Followers.{ListsFollowers}
use Rattle.dependence.specs.Shown.{Shown}
use Rattle.dependence.specs.declared.links.Links.{Links}
use Rattle.dependence.specs.internal.Tables.{IsRising, Linked}
use Rattle.dependence.proofs.live.Live.followers.Goals as goal

pub followers_of-requires : goal.followers_of-requires
followers_of-requires c = record {
  rising = subst (λ (k : Live). IsRising k) (sym refl) c.self.invariant.0.rising;
  linked = subst (λ (k : Live). Linked k c.self.inside.list.links) (sym refl)
      (subst (λ (k : List Links). Linked c.self.inside.list.live k) (sym refl) c.self.invariant.0.linked);
  live = subst (λ (k : Live). IsLive k c.args.ticket) (sym refl)
      (subst (λ (s : Shown). IsLive s.live c.args.ticket) (sym c.self.view_is) c.requires);
}

pub returns : goal.returns
returns c =
    subst (λ (s : Shown). ListsFollowers s.live c.args.ticket c.followers_of.result.now) c.self.view_is
    (subst (λ (k : Live). ListsFollowers k c.args.ticket c.followers_of.result.now) refl c.followers_of.ensures)
