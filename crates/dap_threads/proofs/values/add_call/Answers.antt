use Rattle.std.proofs.Common.{ℕ, Option, sym, ap, ◌∙◌}
use Rattle.dap_threads.specs.Variables.{is_call}
use Rattle.dap_threads.proofs.Unfolding.{calls_more, calls_same}
use Rattle.dap_threads.proofs.values.add_call.Goals as goal

pub returns-then-is_call : goal.returns-then-is_call
returns-then-is_call c = λ before adds.
    calls_more c.args.program.now.index c.args.instance c.args.index before c.args.list.now c.push.new.self c.call.result
    (sym (c.is_call.ensures ∙ ap (λ (o : Option ℕ). is_call c.args.instance o) c.around.ensures) ∙ c.if-is_call.true) adds c.call.ensures
    c.push.ensures

pub returns-else-is_call : goal.returns-else-is_call
returns-else-is_call c = λ before adds.
    calls_same c.args.program.now.index c.args.instance c.args.index before c.args.list.now
    (sym (c.is_call.ensures ∙ ap (λ (o : Option ℕ). is_call c.args.instance o) c.around.ensures) ∙ c.if-is_call.false) adds
