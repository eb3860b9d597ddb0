-- The laws of followers, and of a new event.
use Rattle.std.specs.Prelude.{◌≡◌, ◌≢◌, ◌↔◌, ℕ, [], ◌∷◌, ◌++◌}
use Rattle.system.specs.declared.system.System.{System}
use Rattle.sharing_rule.specs.Rule.{SharesWell}
use Rattle.runs.specs.Live.{Live, events, Rising, DependsOn, FirstDependent, NoDependent, WithoutTickets}
use Rattle.runs.specs.Steps.{State, Run, opening}
use Rattle.runs.specs.declared.event.Event.{Event}
use Rattle.dependence.specs.Behind.{ComesBehind}
use Rattle.dependence.specs.Followers.{Follower, Reached}

-- the least ticket of another live event that depends on that of ticket t is that of a follower
abbrev pub LeastIsFollower : Type 0
LeastIsFollower = (l : Live) (t u : ℕ) → FirstDependent l t u → Follower l t u

-- what depends on an event is reached from it by going from event to follower, and nothing else is
abbrev pub ReachedThroughFollowers : Type 0
ReachedThroughFollowers = (low next : ℕ) (l : Live) (t u : ℕ) → Rising low l next → DependsOn l t u ↔ Reached l t u

-- where the event of ticket t, which no other needs, is taken out, the other followers are followers still, and none is
-- new
abbrev pub NoNewFollower : Type 0
NoNewFollower =
    (l k : Live) (t u v : ℕ) → NoDependent l t → WithoutTickets (λ w. w ≡ t) l k → Follower k u v ↔
    (Follower l u v × (v ≢ t))

-- where the live events with a new one behind them run in a system that keeps the rule on sharing, it comes behind them
abbrev pub LastComesBehind : Type 0
LastComesBehind =
    (system : System) (l : Live) (n : ℕ) (f : Event) (T : State) → SharesWell system →
    Run (opening system) (events (l ++ (n, f) ∷ [])) T → ComesBehind l f
