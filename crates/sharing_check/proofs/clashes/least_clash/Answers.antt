-- What is found in the whole system is the least offset of a clash.
use Rattle.std.proofs.Common.{◌≡◌, ap, ◌∙◌, [], None}
use Rattle.sharing_check.specs.internal.Gathering.{Gathered, gathered, gathering}
use Rattle.sharing_check.proofs.AddsCommand.{least_is}
use Rattle.sharing_check.proofs.clashes.least_clash.Goals as goal

pub returns : goal.returns
returns c =
    let system = c.args.system.now in
    let found : c.add_command.new.found ≡ gathering system.variables system.main (gathered [] None) =
    c.in_ok-add_command.ensures
    ∙ (ap (λ variables. gathering variables system.main c.new-found.result) c.as_slice.ensures
    ∙ ap (gathering system.variables system.main) c.new-found.ensures) in
    least_is system c.least.result (c.least.ensures ∙ ap (λ (g : Gathered). g.least) found)
