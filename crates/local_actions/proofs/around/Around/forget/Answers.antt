-- One value less.
use Rattle.std.proofs.Common.{ap, ◌∙◌}
use Rattle.local_actions.specs.Walk.{outside}
use Rattle.local_actions.proofs.public.Walks.{gone-received}
use Rattle.local_actions.proofs.around.Around.forget.Goals as goal

pub returns : goal.returns
returns c = gone-received c.self.inside.arrived c.pop.new.self c.pop.result c.pop.ensures ∙ ap outside c.self.view_is
