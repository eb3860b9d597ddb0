use Rattle.std.proofs.Common.{sym, subst, refl}
use Rattle.std.specs.Prelude.{MatchOption}
use Rattle.runs.specs.Live.{Live}
use Rattle.dependence.specs.LastEvents.{first_child}
use Rattle.dependence.specs.Acting.{ActsAlone, NoneActs}
use Rattle.dependence.specs.Shown.{Shown}
use Rattle.dependence.specs.internal.Tables.{IsRising}
use Rattle.dependence.specs.internal.Tabled.{TablesOf}
use Rattle.dependence.proofs.live.Live.acting_at_first_child.Goals as goal

pub acting_at_first_child-requires : goal.acting_at_first_child-requires
acting_at_first_child-requires c = record {
  rising = subst (λ (k : Live). IsRising k) (sym refl) c.self.invariant.0.rising;
  tables = subst (λ (k : Live). TablesOf k c.self.inside.tables) (sym refl) c.self.invariant.1.tables;
}

pub returns : goal.returns
returns c =
    subst (λ (s : Shown). MatchOption c.acting_at_first_child.result (NoneActs s.live (first_child c.args.place.now)) (λ e. ActsAlone s.live (first_child c.args.place.now) e.now)) c.self.view_is
    (subst (λ (k : Live). MatchOption c.acting_at_first_child.result (NoneActs k (first_child c.args.place.now)) (λ e. ActsAlone k (first_child c.args.place.now) e.now)) refl
    c.acting_at_first_child.ensures)
