use Rattle.std.proofs.Common.{inl}
use Rattle.dap_messages.specs.declared.kind.Kind.{Kind}
use Rattle.dap.proofs.Going.{steps_as, steps_forward}
use Rattle.dap.proofs.moves.make_move.Goals as goal

pub returns-in-StepBack-clause-goes : goal.returns-in-StepBack-clause-goes
returns-in-StepBack-clause-goes c =
    steps_as c.args.answer.now c.back.new.answer c.args.program.now c.args.memo.now.seen.items c.back.new.memo.seen.items c.args.desk.now
    c.back.new.desk c.args.request.now.kind Kind.StepBack c.args.request.now c.in-StepBack.is c.back.ensures.goes

pub returns-in-Continue-clause-goes : goal.returns-in-Continue-clause-goes
returns-in-Continue-clause-goes c =
    steps_as c.args.answer.now c.go.new.answer c.args.program.now c.args.memo.now.seen.items c.go.new.memo.seen.items c.args.desk.now
    c.go.new.desk c.args.request.now.kind Kind.Continue c.args.request.now c.in-Continue.is c.go.ensures.goes

pub returns-in-ReverseContinue-clause-goes : goal.returns-in-ReverseContinue-clause-goes
returns-in-ReverseContinue-clause-goes c =
    steps_as c.args.answer.now c.reverse.new.answer c.args.program.now c.args.memo.now.seen.items c.reverse.new.memo.seen.items
    c.args.desk.now c.reverse.new.desk c.args.request.now.kind Kind.ReverseContinue c.args.request.now c.in-ReverseContinue.is
    c.reverse.ensures.goes

pub returns-in-Pause-clause-goes : goal.returns-in-Pause-clause-goes
returns-in-Pause-clause-goes c =
    steps_as c.args.answer.now c.pause.new.answer c.args.program.now c.args.memo.now.seen.items c.args.memo.now.seen.items c.args.desk.now
    c.args.desk.now c.args.request.now.kind Kind.Pause c.args.request.now c.in-Pause.is
    (c.pause.ensures.goes c.args.memo.now.seen.items)

pub returns-in-ReverseContinue-clause-denied : goal.returns-in-ReverseContinue-clause-denied
returns-in-ReverseContinue-clause-denied c = λ done refused. inl (c.reverse.ensures.denied done refused)

pub returns-in_default-clause-goes : goal.returns-in_default-clause-goes
returns-in_default-clause-goes c =
    steps_forward c.args.answer.now c.step.new.answer c.args.program.now c.args.memo.now.seen.items c.step.new.memo.seen.items c.args.desk.now
    c.step.new.desk c.args.request.now.kind c.args.request.now c.in_default.not-StepBack c.in_default.not-Continue
    c.in_default.not-ReverseContinue c.in_default.not-Pause c.step.ensures.goes
