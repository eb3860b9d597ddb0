use Rattle.std.proofs.Common.{ℕ, refl}
use Rattle.dap_messages.specs.declared.told.Stop.{Stop}
use Rattle.dap_requests.specs.Back.{ReversesFor}
use Rattle.dap_requests.specs.Denied.{NamesNoThread}
use Rattle.dap_requests.proofs.Denying.{no_thread}
use Rattle.dap_requests.proofs.Forward.{reverses_thread}
use Rattle.dap_requests.proofs.public.Saying.{never_refused, runs_on, runs_refused}
use Rattle.dap_requests.proofs.backward.reverse.Goals as goal

pub returns-in-Some-clause-goes : goal.returns-in-Some-clause-goes
returns-in-Some-clause-goes c =
    let d = c.args.desk.now in
    let d' = c.reverse_in.new.desk in
    let after = c.reverse_in.new.memo.seen.items in
    let it = c.reverse_in.ensures.goes in
    runs_on c.args.answer.now c.thread_in.new.answer c.reverse_in.new.answer d d' c.args.memo.now.seen.items after
    (λ (stop : Stop) (there : ℕ). ReversesFor c.args.program.now d c.args.request.now stop there d' after) c.in-Some.ensures.outcome (
      it.0,
      it.1,
      it.2,
      reverses_thread c.args.program.now d d' c.machine.result.now c.args.request.now c.thread_in.result c.in-Some.branch c.flag-single.result it.0
          it.1 after c.machine.ensures c.thread_in.ensures.thread c.in-Some.is c.flag-single.ensures it.3,
    )

pub returns-in-None-clause-goes : goal.returns-in-None-clause-goes
returns-in-None-clause-goes c =
    let kept = c.args.memo.now.seen.items in
    runs_refused c.args.answer.now c.thread_in.new.answer c.args.desk.now c.args.desk.now kept kept
    (λ (stop : Stop) (there : ℕ). ReversesFor c.args.program.now c.args.desk.now c.args.request.now stop there c.args.desk.now kept)
    c.in-None.ensures.outcome.0 c.in-None.ensures.outcome.1 refl refl

pub returns-in-Some-clause-denied : goal.returns-in-Some-clause-denied
returns-in-Some-clause-denied c =
    never_refused c.args.answer.now c.thread_in.new.answer c.reverse_in.new.answer c.reverse_in.ensures.goes.0 c.reverse_in.ensures.goes.1
    (NamesNoThread c.args.desk.now c.args.request.now) c.in-Some.ensures.outcome c.reverse_in.ensures.goes.2

pub returns-in-None-clause-denied : goal.returns-in-None-clause-denied
returns-in-None-clause-denied c = λ done refused.
    no_thread c.args.desk.now c.machine.result.now c.args.request.now c.thread_in.result c.machine.ensures c.thread_in.ensures.thread c.in-None.is
