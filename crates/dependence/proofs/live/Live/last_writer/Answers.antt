use Rattle.std.proofs.Common.{sym, subst, refl}
use Rattle.std.specs.Prelude.{MatchOption}
use Rattle.runs.specs.Live.{Live, LastWriter, NoWriter}
use Rattle.dependence.specs.Shown.{Shown}
use Rattle.dependence.specs.internal.Tables.{IsRising}
use Rattle.dependence.specs.internal.Tabled.{TablesOf}
use Rattle.dependence.proofs.live.Live.last_writer.Goals as goal

pub last_writer-requires : goal.last_writer-requires
last_writer-requires c = record {
  rising = subst (λ (k : Live). IsRising k) (sym refl) c.self.invariant.0.rising;
  tables = subst (λ (k : Live). TablesOf k c.self.inside.tables) (sym refl) c.self.invariant.1.tables;
}

pub returns : goal.returns
returns c =
    subst (λ (s : Shown). MatchOption c.last_writer.result (NoWriter s.live c.args.variable) (λ t. LastWriter s.live c.args.variable t)) c.self.view_is
    (subst (λ (k : Live). MatchOption c.last_writer.result (NoWriter k c.args.variable) (λ t. LastWriter k c.args.variable t)) refl
    c.last_writer.ensures)
