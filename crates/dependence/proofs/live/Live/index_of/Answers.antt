use Rattle.std.proofs.Common.{sym, subst, refl}
use Rattle.std.specs.Prelude.{MatchOption}
use Rattle.runs.specs.Live.{Live, NoneAt}
use Rattle.dependence.specs.Shown.{Shown}
use Rattle.dependence.specs.internal.Tables.{IsRising, StandsAt}
use Rattle.dependence.proofs.live.Live.index_of.Goals as goal

pub returns : goal.returns
returns c =
    subst (λ (s : Shown). MatchOption c.index_of.result (NoneAt s.live c.args.ticket) (λ i. StandsAt s.live c.args.ticket i)) c.self.view_is
    (subst (λ (k : Live). MatchOption c.index_of.result (NoneAt k c.args.ticket) (λ i. StandsAt k c.args.ticket i)) refl c.index_of.ensures)
