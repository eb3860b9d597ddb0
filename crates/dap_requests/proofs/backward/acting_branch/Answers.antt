use Rattle.std.proofs.Common.{◌∙◌, ap}
use Rattle.system.specs.declared.system.System.{System}
use Rattle.system_places.specs.SystemBranches.{branch_at}
use Rattle.runs.specs.Moves.{Place}
use Rattle.dap_requests.proofs.backward.acting_branch.Goals as goal

pub returns-in-Some : goal.returns-in-Some
returns-in-Some c = λ live. (
  c.in-Some.event.now,
  c.in-Some.ensures,
  c.branch_at.ensures
      ∙ ap (λ (s : System). branch_at s c.acting_place.result.now) (c.system.ensures ∙ c.checked.ensures)
      ∙ ap (λ (p : Place). branch_at c.args.machine.now.checked p) c.acting_place.ensures,
)

pub returns-in-None : goal.returns-in-None
returns-in-None c = λ live. absurd (c.in-None.ensures live.0 live.1)
