-- One declaration may be two.
use Rattle.types.proofs.StandingApart.{locals_apart, ports_apart}
use Rattle.types.proofs.laws.names_may_stand_apart.Goals as goal

pub returns : goal.returns
returns c = record { locals = locals_apart; ports = ports_apart }
