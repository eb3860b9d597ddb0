use Rattle.std.proofs.Common.{◌∙◌}
use Rattle.dap_threads.proofs.public.Numbered.{numbered_more}
use Rattle.dap_requests.proofs.Choosing.{numbered_all, numbered_last, target_past, target_within}
use Rattle.dap_requests.proofs.choices.target_list.Goals as goal

pub loop-number-preserved : goal.loop-number-preserved
loop-number-preserved c =
    record {
      told =
          numbered_more c.loop-number.list c.push.new.self c.target.result c.loop-number.number c.loop-number.invariant.told c.target.ensures
          c.push.ensures;
      within =
          target_within c.args.machine.now c.system-system.result.now c.args.branch c.args.events.now c.loop-number.number c.in-Some.event.now
          (c.system-system.ensures ∙ c.checked.ensures) c.in-Some.ensures;
    }

pub returns-after-loop-number : goal.returns-after-loop-number
returns-after-loop-number c =
    numbered_all c.args.machine.now c.args.branch c.loop-number.number c.args.events.now c.loop-number.list c.loop-number.invariant.told
    c.loop-number.invariant.within c.loop-number-test.false

pub returns-in-None : goal.returns-in-None
returns-in-None c =
    numbered_last c.args.machine.now c.args.branch c.loop-number.number c.args.events.now c.loop-number.list c.loop-number.invariant.told
    c.loop-number.invariant.within
    (target_past c.args.machine.now c.system-system.result.now c.args.branch c.args.events.now c.loop-number.number
    (c.system-system.ensures ∙ c.checked.ensures) c.in-None.ensures)
