use Rattle.std.proofs.Common.{◌≡◌, ℕ, refl}
use Rattle.dap_messages.specs.declared.told.Stop.{Stop}
use Rattle.dap_requests.specs.Denied.{NamesNoStep}
use Rattle.dap_requests.specs.Forth.{StepsForth, target_in}
use Rattle.dap_requests.proofs.Forward.{runs_target}
use Rattle.dap_requests.proofs.public.Saying.{never_refused, runs_refused}
use Rattle.dap_requests.proofs.moves.step_in.Goals as goal

pub returns-in-Some-clause-goes : goal.returns-in-Some-clause-goes
returns-in-Some-clause-goes c =
    runs_target c.args.program.now.excepts c.args.answer.now c.target_asked.new.answer c.next_in.new.answer c.args.desk.now c.next_in.new.desk c.args.branch
    c.in-Some.number (target_in c.args.request.now) c.args.memo.now.seen.items c.next_in.new.memo.seen.items c.in-Some.ensures.1 c.in-Some.ensures.0
    c.next_in.ensures.goes

pub returns-in-None-clause-goes : goal.returns-in-None-clause-goes
returns-in-None-clause-goes c =
    let kept = c.args.memo.now.seen.items in
    runs_refused c.args.answer.now c.target_asked.new.answer c.args.desk.now c.args.desk.now kept kept
    (λ (stop : Stop) (there : ℕ). (there ≡ c.args.branch)
    × StepsForth c.args.program.now.excepts c.args.desk.now c.args.branch (target_in c.args.request.now) kept stop c.args.desk.now kept)
    c.in-None.ensures.0 c.in-None.ensures.1 refl refl

pub returns-in-Some-clause-denied : goal.returns-in-Some-clause-denied
returns-in-Some-clause-denied c =
    never_refused c.args.answer.now c.target_asked.new.answer c.next_in.new.answer c.next_in.ensures.goes.0 c.args.branch
    (NamesNoStep c.args.request.now) c.in-Some.ensures.1 c.next_in.ensures.goes.1

pub returns-in-Some-clause-named : goal.returns-in-Some-clause-named
returns-in-Some-clause-named c = λ none. absurd (c.in-Some.ensures.2 none)

pub returns-in-None-clause-named : goal.returns-in-None-clause-named
returns-in-None-clause-named c = λ none. c.in-None.ensures.0

pub returns-in-None-clause-denied : goal.returns-in-None-clause-denied
returns-in-None-clause-denied c = λ done refused. c.in-None.ensures.2
