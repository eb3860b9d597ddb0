-- Events in one lane depend on one another: their places are not apart.
use Rattle.std.proofs.Common.{◌≡◌, inl, inr, ℕ, ◌<◌}
use Rattle.syntax.specs.Lists.{In}
use Rattle.system.specs.declared.system.System.{System}
use Rattle.branch_lanes.specs.Lanes.{lane_of}
use Rattle.branch_lanes.proofs.public.Trimming.{apart-in-lanes}
use Rattle.runs.specs.Events.{places}
use Rattle.runs.specs.Live.{Live, LiveAt, Rising, events}
use Rattle.runs.specs.Moves.{Place}
use Rattle.runs.specs.Steps.{State, Run, opening}
use Rattle.runs.specs.declared.event.Event.{Event}
use Rattle.runs.proofs.public.DependsOnLaw.{earlier-by-tickets}
use Rattle.runs.proofs.public.FromOpening.{earlier_places}
use Rattle.dependence.specs.Followers.{DirectDependent}

pub lanes-are-chains : (system : System) (l : Live) (S : State) (low next t u : ℕ) (e f : Event) (a b : Place) →
    Run (opening system) (events l) S → Rising low l next → LiveAt l t e → LiveAt l u f → t < u →
    In a (places e) → In b (places f) → lane_of a ≡ lane_of b → DirectDependent l t u
lanes-are-chains system l S low next t u e f a b run rising at-t at-u less in-e in-f one =
    let early = earlier-by-tickets low next l t u e f rising at-t at-u less in
    elim (earlier_places system (events l) S e f a b run early in-e in-f) [
      | inl before ↦ record {
        event = e;
        dependent = f;
        live = at-t;
        dependent_live = at-u;
        less = less;
        direct = inl (a, b, in-e, in-f, before);
      }
      | inr apart ↦ absurd (apart-in-lanes a b apart one)
    ]
