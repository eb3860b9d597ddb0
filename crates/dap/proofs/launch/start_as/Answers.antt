use Rattle.std.proofs.Common.{inl}
use Rattle.dap.specs.Asking.{asked_by}
use Rattle.dap.specs.Files.{IsUnread, text_of}
use Rattle.dap.specs.Unlaunched.{CannotBegin}
use Rattle.dap.proofs.Machines.{begun_as}
use Rattle.dap.proofs.Refusing.{noted}
use Rattle.dap.proofs.launch.start_as.Goals as goal

pub returns-in-Ok : goal.returns-in-Ok
returns-in-Ok g c =
    begun_as c.start_on.result (g.F.Sources.reads c.args.files.now) c.args.counting (asked_by c.args.asked) c.in-Ok.texts.source.items
    c.in-Ok.texts.stimulus.items (text_of c.in-Ok.texts.trace) c.args.answer.now c.texts_of.new.answer c.start_on.new.answer c.in-Ok.ensures
    c.start_on.ensures

pub returns-in-Err : goal.returns-in-Err
returns-in-Err g c =
    noted (IsUnread (g.F.Sources.reads c.args.files.now) (asked_by c.args.asked))
    (CannotBegin (g.F.Sources.reads c.args.files.now) (asked_by c.args.asked)) c.in-Err.failed c.texts_of.new.answer c.note.new.answer
    c.note.ensures.memory c.note.ensures.told (λ n it. inl it) c.in-Err.ensures
