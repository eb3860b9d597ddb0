use Rattle.std.proofs.Common.{inl, refl}
use Rattle.dap.specs.Asking.{asked_by}
use Rattle.dap.proofs.Machines.{begun_same}
use Rattle.dap.proofs.restart.start_same.Goals as goal

pub returns-in-Ok : goal.returns-in-Ok
returns-in-Ok g c =
    begun_same c.start_as.result (g.F.Sources.reads c.args.files.now) c.args.program.now.counting (asked_by c.in-Ok.asked)
    (asked_by c.args.program.now.launch) c.args.answer.now c.start_as.new.answer c.in-Ok.ensures c.start_as.ensures

pub returns-in-Err : goal.returns-in-Err
returns-in-Err g c = inl refl
