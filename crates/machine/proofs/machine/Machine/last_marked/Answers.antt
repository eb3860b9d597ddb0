use Rattle.std.proofs.Common.{◌≡◌, ℕ, [], Option, Some, None, subst}
use Rattle.std.specs.Prelude.{IfSome, MatchOption}
use Rattle.runs.specs.Live.{IsLive}
use Rattle.dependence.specs.Shown.{Shown, Greatest, IsSound}
use Rattle.machine.specs.AtMachine.{AtMachine}
use Rattle.machine.proofs.machine.Machine.last_marked.Goals as goal

-- a marked event is live
marked-live : (s : Shown) (r : Option ℕ) → IsSound s → MatchOption r (s.marked ≡ []) (λ t. Greatest s.marked t) → IfSome r (λ t. IsLive s.live t)
marked-live s None sound h = tt
marked-live s (Some t) sound h = sound.live t h.inside

pub returns-clause-last : goal.returns-clause-last
returns-clause-last c =
    subst (λ (h : AtMachine). MatchOption c.last_marked.result (h.marked ≡ []) (λ t. Greatest h.marked t)) c.self.view_is c.last_marked.ensures

pub returns-clause-live : goal.returns-clause-live
returns-clause-live c =
    subst (λ (h : AtMachine). IfSome c.last_marked.result (λ t. IsLive h.live t)) c.self.view_is
    (marked-live c.self.inside.history.live c.last_marked.result c.is_sound.ensures c.last_marked.ensures)
