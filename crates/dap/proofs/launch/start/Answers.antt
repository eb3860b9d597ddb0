use Rattle.std.proofs.Common.{inl}
use Rattle.serde_json.specs.View.{view}
use Rattle.dap.specs.Asking.{asked_by}
use Rattle.dap.specs.Unlaunched.{AsksForNothing, CannotLaunch}
use Rattle.dap.proofs.Machines.{begun_by}
use Rattle.dap.proofs.Refusing.{noted}
use Rattle.dap.proofs.launch.start.Goals as goal

pub returns-in-Ok : goal.returns-in-Ok
returns-in-Ok g c =
    begun_by c.start_as.result (g.F.Sources.reads c.args.files.now) (view c.args.arguments.now) c.args.counting (asked_by c.in-Ok.asked)
    c.args.answer.now c.launch_of.new.answer c.start_as.new.answer c.in-Ok.ensures c.start_as.ensures

pub returns-in-Err : goal.returns-in-Err
returns-in-Err g c =
    noted (AsksForNothing (view c.args.arguments.now)) (CannotLaunch (g.F.Sources.reads c.args.files.now) (view c.args.arguments.now))
    c.in-Err.failed c.launch_of.new.answer c.note.new.answer c.note.ensures.memory c.note.ensures.told (λ n it. inl it) c.in-Err.ensures
