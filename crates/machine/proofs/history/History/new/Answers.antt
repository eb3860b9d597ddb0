use Rattle.event_inverse.specs.View.{both_view}
use Rattle.std.proofs.Common.{ap, ◌∙◌}
use Rattle.system.specs.declared.system.System.{System}
use Rattle.system.specs.Translation.{opening_store}
use Rattle.process_tree.specs.Proc.{started}
use Rattle.process_tree.specs.Translation.{system_code}
use Rattle.dependence.specs.Shown.{Shown}
use Rattle.machine.proofs.public.Standing.{stands-new}
use Rattle.machine.proofs.history.History.new.Goals as goal

pub returns-clause-shown : goal.returns-clause-shown
returns-clause-shown c =
    ap (λ (s : Shown). record { checked = c.args.system.now; live = s.live; next = 1; marked = s.marked }) c.new-3.ensures

pub returns-clause-holds : goal.returns-clause-holds
returns-clause-holds c =
    stands-new c.args.system.now (both_view c.in_ok-tree.tree c.in_ok-store.store) c.new-3.result.live c.new-4.result
    (c.in_ok-tree.ensures ∙ ap (λ (s : System). started (system_code s)) c.system.ensures) (c.in_ok-store.ensures ∙ ap opening_store c.system-2.ensures)
    (ap (λ (s : Shown). s.live) c.new-3.ensures) c.new-4.ensures
