use Rattle.std.proofs.Common.{ap, sym, ◌∙◌}
use Rattle.std.specs.Option.{option_map}
use Rattle.serde_json.specs.View.{view}
use Rattle.dap.specs.Anew.{brought}
use Rattle.dap.specs.Asking.{asked_by}
use Rattle.dap.proofs.Machines.{again_by, again_same}
use Rattle.dap.proofs.restart.started_again.Goals as goal

pub returns-in-Some : goal.returns-in-Some
returns-in-Some g c =
    again_by c.start.result (g.F.Sources.reads c.args.files.now) c.args.program.now.counting (asked_by c.args.program.now.launch)
    (brought c.args.request.now) (view c.in-Some.arguments.now) c.args.answer.now c.start.new.answer
    (sym c.brought_by.ensures ∙ ap (λ o. option_map (λ v. view v.now) o) c.in-Some.is) c.start.ensures

pub returns-in-None : goal.returns-in-None
returns-in-None g c =
    again_same c.start_same.result (g.F.Sources.reads c.args.files.now) c.args.program.now.counting (asked_by c.args.program.now.launch)
    (brought c.args.request.now) c.args.answer.now c.start_same.new.answer
    (sym c.brought_by.ensures ∙ ap (λ o. option_map (λ v. view v.now) o) c.in-None.is) c.start_same.ensures
