-- Where the events of a branch act, and a list that has them all.
-- No reader has to believe it: the proof of `branch_step` ties it to `in_branch` of `Branching.antt`.
use Rattle.std.specs.Prelude.{◌≡◌, ℕ, ◌+◌, ◌-◌, List, [], ◌∷◌, Bool, true, cond, nat_lt}
use Rattle.syntax.specs.Lists.{In}
use Rattle.address.specs.declared.Entry.TheVariants.{Branch}
use Rattle.runs.specs.InOrder.{InOrder}
use Rattle.runs.specs.Moves.{Place}
use Rattle.runs.specs.Ready.{Sooner}
use Rattle.runs.specs.Steps.{State, Allowed}
use Rattle.runs.specs.declared.event.Event.{Event}
use Rattle.local_actions.specs.Actions.{Under}
use Rattle.machine.specs.declared.branch.Site.{Site}
use Rattle.machine.specs.declared.branch.Site.TheVariants.{Child, Body, Port, Unknown}

-- a place is where branch k lies
abbrev pub IsAtSite : ℕ → Site → Place → Type 0
IsAtSite k Child a = Under (Branch 0 ∷ Branch k ∷ []) a
IsAtSite k Body a = Under (Branch 0 ∷ []) a
IsAtSite k (Port n) a = Under (Branch n ∷ []) a
IsAtSite k Unknown a = Under [] a

-- the site of branch k, where so many are those of the body, and this is their site
abbrev pub site_among : ℕ → ℕ → Site → Site
site_among count k body =
    cond (nat_lt k count) body (cond (nat_lt (k - count + 1) 4294967296) (Port (k - count + 1)) Unknown)

-- events that are allowed in S, in order, and among them all that pass the test
pub record ReadyWith (S : State) (test : Event → Bool) (es : List Event) : Type 0 where
  pub allowed : (e : Event) → In e es → Allowed S e
  pub all : (e : Event) → Allowed S e → test e ≡ true → In e es
  pub in_order : InOrder Sooner es
