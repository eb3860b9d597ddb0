use Rattle.std.proofs.Common.{refl, ◌∙◌, length, Some, ap, arith}
use Rattle.machine.specs.AtMachine.{AtMachine}
use Rattle.dap_moves.proofs.GoingOut.{none_behind}
use Rattle.dap_moves.proofs.public.Leading.{led_nowhere, led_on}
use Rattle.dap_moves.proofs.Returning.{rest_on, rest_whole}
use Rattle.dap_moves.proofs.taken_back.rewind_branch.Goals as goal

pub loop-index-init : goal.loop-index-init
loop-index-init c = record {
  led = led_nowhere c.args.desk.now;
  system = refl;
  rest = rest_whole (Some c.args.branch) c.args.marks.now.lines.now c.args.marks.now.watched.now c.args.desk.now;
  none =
      let all = c.len-below.ensures ∙ ap length (c.live_events.ensures.live ∙ ap (λ (m : AtMachine). m.live) c.machine.ensures) in
      none_behind c.args.desk.now c.args.branch c.len-below.result (omega (arith, all));
  kept = c.clear.ensures.items;
}

pub loop-index-preserved : goal.loop-index-preserved
loop-index-preserved c = record {
  led = led_on c.args.desk.now c.loop-index.desk c.roll_newest.new.desk c.loop-index.invariant.led c.roll_newest.ensures.led;
  system = c.roll_newest.ensures.system ∙ c.loop-index.invariant.system;
  rest =
      rest_on (Some c.args.branch) c.args.marks.now.lines.now c.args.marks.now.watched.now c.args.desk.now c.loop-index.desk c.roll_newest.new.desk
      c.loop-index.invariant.rest c.in-On.ensures.takes.0.0;
  none = c.in-On.ensures.takes.1;
  kept = c.in-On.ensures.takes.0.1;
}

pub returns-in-Ended-clause-led : goal.returns-in-Ended-clause-led
returns-in-Ended-clause-led c =
    led_on c.args.desk.now c.loop-index.desk c.roll_newest.new.desk c.loop-index.invariant.led c.roll_newest.ensures.led

pub returns-in-Ended-clause-system : goal.returns-in-Ended-clause-system
returns-in-Ended-clause-system c = c.roll_newest.ensures.system ∙ c.loop-index.invariant.system

pub returns-in-Ended-clause-back : goal.returns-in-Ended-clause-back
returns-in-Ended-clause-back c =
    c.loop-index.invariant.rest c.roll_newest.new.desk c.in-Ended.ended c.roll_newest.new.kept.items c.in-Ended.ensures.takes
