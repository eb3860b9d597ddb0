use Rattle.std.proofs.Common.{refl, sym, ap, ◌∙◌}
use Rattle.system.specs.declared.system.System.{System}
use Rattle.system_places.specs.SystemBranches.{branch_count}
use Rattle.machine.specs.AtMachine.{AtMachine}
use Rattle.dap_moves.proofs.public.Leading.{led_nowhere, led_on}
use Rattle.dap_moves.proofs.Running.{counted-none, counted-more, ends-after, ends-behind, ends-watched}
use Rattle.dap_moves.proofs.run.go_on.Goals as goal

pub loop-taken-init : goal.loop-taken-init
loop-taken-init c = record {
  led = led_nowhere c.args.desk.now;
  system = refl;
  count =
      c.branch_count-count.ensures
      ∙ ap (λ (s : System). branch_count s) (c.system.ensures ∙ c.checked.ensures ∙ ap (λ (m : AtMachine). m.checked) c.machine.ensures);
  runs = counted-none c.args.desk.now c.args.plan.now c.args.seen.now.items;
}

pub loop-taken-preserved : goal.loop-taken-preserved
loop-taken-preserved c = record {
  led = led_on c.args.desk.now c.loop-taken.desk c.take_turn.new.desk c.loop-taken.invariant.led c.take_turn.ensures.led;
  system = c.take_turn.ensures.system ∙ c.loop-taken.invariant.system;
  count = c.loop-taken.invariant.count ∙ ap (λ (s : System). branch_count s) (sym c.take_turn.ensures.system);
  runs =
      counted-more c.args.plan.now c.args.desk.now c.loop-taken.desk c.take_turn.new.desk c.args.seen.now.items c.loop-taken.seen.items
      c.clear.new.self.items c.loop-taken.taken c.loop-taken.turn c.in-Took.branch c.in-Took.ticket c.branch_count-count.result
      c.turn_behind-turn.result c.in-Took.watched c.loop-taken-test.true c.loop-taken.invariant.runs c.in-Took.ensures.takes c.if-watched.false
      c.clear.ensures.items c.turn_behind-turn.ensures c.loop-taken.invariant.count;
}

pub returns-then-watched-clause-led : goal.returns-then-watched-clause-led
returns-then-watched-clause-led c =
    led_on c.args.desk.now c.loop-taken.desk c.take_turn.new.desk c.loop-taken.invariant.led c.take_turn.ensures.led

pub returns-then-watched-clause-runs : goal.returns-then-watched-clause-runs
returns-then-watched-clause-runs c =
    ends-watched c.args.plan.now c.args.desk.now c.loop-taken.desk c.take_turn.new.desk c.args.seen.now.items c.loop-taken.seen.items
    c.clear.new.self.items c.loop-taken.taken c.loop-taken.turn c.in-Took.branch c.in-Took.ticket c.in-Took.watched c.loop-taken-test.true
    c.loop-taken.invariant.runs c.in-Took.ensures.takes c.if-watched.true c.clear.ensures.items

pub returns-in-Ended-clause-runs : goal.returns-in-Ended-clause-runs
returns-in-Ended-clause-runs c =
    ends-behind c.args.plan.now c.args.desk.now c.loop-taken.desk c.take_turn.new.desk c.args.seen.now.items c.loop-taken.seen.items
    c.take_turn.new.seen.items c.loop-taken.taken c.loop-taken.turn c.in-Ended.ended c.loop-taken.invariant.runs c.in-Ended.ensures.takes

pub returns-clause-runs : goal.returns-clause-runs
returns-clause-runs c =
    ends-after c.args.plan.now c.args.desk.now c.loop-taken.desk c.after_most.new.desk c.args.seen.now.items c.loop-taken.seen.items
    c.loop-taken.taken c.loop-taken.turn c.after_most.result c.loop-taken.invariant.runs c.loop-taken-test.false c.after_most.ensures.same
    c.after_most.ensures.ends
