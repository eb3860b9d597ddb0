use Rattle.std.proofs.Common.{refl, ◌∙◌, None}
use Rattle.dap_moves.proofs.GoingOut.{fewer_on}
use Rattle.dap_moves.proofs.public.Leading.{led_nowhere, led_on}
use Rattle.dap_moves.proofs.Returning.{rest_on, rest_whole}
use Rattle.dap_moves.proofs.taken_back.rewind.Goals as goal

pub loop-ended-init : goal.loop-ended-init
loop-ended-init c = record {
  led = led_nowhere c.args.desk.now;
  system = refl;
  rest = rest_whole None c.args.marks.now.lines.now c.args.marks.now.watched.now c.args.desk.now;
  kept = c.clear.ensures.items;
}

pub loop-ended-preserved : goal.loop-ended-preserved
loop-ended-preserved c = record {
  led = led_on c.args.desk.now c.loop-ended.desk c.undo_last.new.desk c.loop-ended.invariant.led c.undo_last.ensures.led;
  system = c.undo_last.ensures.system ∙ c.loop-ended.invariant.system;
  rest =
      rest_on None c.args.marks.now.lines.now c.args.marks.now.watched.now c.args.desk.now c.loop-ended.desk c.undo_last.new.desk
      c.loop-ended.invariant.rest c.in_default.ensures.takes.0;
  kept = c.in_default.ensures.takes.1;
}

pub loop-ended-smaller : goal.loop-ended-smaller
loop-ended-smaller c =
    fewer_on c.args.marks.now.lines.now c.args.marks.now.watched.now c.loop-ended.desk c.undo_last.new.desk c.in_default.ensures.takes.0

pub returns-in-Some-clause-led : goal.returns-in-Some-clause-led
returns-in-Some-clause-led c =
    led_on c.args.desk.now c.loop-ended.desk c.undo_last.new.desk c.loop-ended.invariant.led c.undo_last.ensures.led

pub returns-in-Some-clause-system : goal.returns-in-Some-clause-system
returns-in-Some-clause-system c = c.undo_last.ensures.system ∙ c.loop-ended.invariant.system

pub returns-in-Some-clause-back : goal.returns-in-Some-clause-back
returns-in-Some-clause-back c =
    c.loop-ended.invariant.rest c.undo_last.new.desk c.in-Some.ended c.undo_last.new.kept.items c.in-Some.ensures.takes
