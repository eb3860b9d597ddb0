use Rattle.std.proofs.Common.{sym, subst}
use Rattle.process_tree.specs.Proc.{sender}
use Rattle.process_tree.specs.View.{phase_view, sender_view}
use Rattle.process_tree.specs.declared.proc.Phase.{Phase}
use Rattle.idle_branches.specs.declared.sight.Sight.{Sight}
use Rattle.idle_branches.specs.internal.Sights.{Sees}
use Rattle.idle_branches.proofs.sight.sight_of_sender.Goals as goal

pub returns-in-Holding : goal.returns-in-Holding
returns-in-Holding c =
    subst (λ (p : Phase). Sees (Sight.Gives c.channel_of.result) (sender (sender_view c.args.sender.now) (phase_view p)))
    (sym c.in-Holding.is) c.channel_of.ensures
