use Rattle.std.proofs.Common.{List, sym, subst, refl}
use Rattle.std.specs.Prelude.{MatchOption}
use Rattle.runs.specs.Live.{Live, NoDependent, FirstDependent, IsLive}
use Rattle.dependence.specs.Shown.{Shown}
use Rattle.dependence.specs.declared.links.Links.{Links}
use Rattle.dependence.specs.internal.Tables.{IsRising, Linked}
use Rattle.dependence.proofs.live.Live.first_dependent.Goals as goal

pub least_dependent-requires : goal.least_dependent-requires
least_dependent-requires c = record {
  rising = subst (λ (k : Live). IsRising k) (sym refl) c.self.invariant.0.rising;
  linked = subst (λ (k : Live). Linked k c.self.inside.list.links) (sym refl)
      (subst (λ (k : List Links). Linked c.self.inside.list.live k) (sym refl) c.self.invariant.0.linked);
  live = subst (λ (k : Live). IsLive k c.args.ticket) (sym refl)
      (subst (λ (s : Shown). IsLive s.live c.args.ticket) (sym c.self.view_is) c.requires);
}

pub returns : goal.returns
returns c =
    subst (λ (s : Shown). MatchOption c.least_dependent.result (NoDependent s.live c.args.ticket) (λ u. FirstDependent s.live c.args.ticket u)) c.self.view_is
    (subst (λ (k : Live). MatchOption c.least_dependent.result (NoDependent k c.args.ticket) (λ u. FirstDependent k c.args.ticket u)) refl
    c.least_dependent.ensures)
