use Rattle.std.proofs.Common.{[], refl, ◌∙◌, arith, take}
use Rattle.machine.proofs.public.HeadlineLaws.{headline}
use Rattle.runs.proofs.public.ObjectLaws.{stays-over-lists, tickets-grow}
use Rattle.locked_execution.specs.AtDesk.{execution}
use Rattle.locked_execution.proofs.public.AskedLists.{answered-more, answered-all, session-within}
use Rattle.locked_execution.proofs.public.BackLaws.{none-take-less, all-amount-to-back-and-forth}
use Rattle.locked_execution.proofs.public.BridgeLaws.{commands_of, are-on-execution}
use Rattle.locked_execution.proofs.asked.run_commands.Goals as goal

pub perform-reply-requires : goal.perform-reply-requires
perform-reply-requires c =
    session-within c.args.commands.now c.loop-session.session-index c.loop-session-item.result c.requires c.loop-session-test.true c.loop-session-item.is

pub loop-session-preserved : goal.loop-session-preserved
loop-session-preserved c = record {
  answered =
      answered-more c.args.desk.now c.loop-session.desk c.perform-reply.new.self c.args.commands.now c.loop-session.session-index
      c.loop-session-item.result c.loop-session.replies.items _ c.perform-reply.result c.loop-session-test.true c.loop-session-item.is
      c.loop-session.invariant.answered c.perform-reply.ensures.answers c.push_reserved.ensures.items;
  system = c.perform-reply.ensures.system ∙ c.loop-session.invariant.system;
  room = c.push_reserved.ensures.capacity ∙ c.loop-session.invariant.room;
  number = omega arith;
}

pub returns-in_err-replies-clause-headline : goal.returns-in_err-replies-clause-headline
returns-in_err-replies-clause-headline c = c.is_sound.ensures.execution

pub returns-clause-answered : goal.returns-clause-answered
returns-clause-answered c =
    answered-all c.args.desk.now c.loop-session.desk c.args.commands.now c.loop-session.session-index c.loop-session.replies.items
    c.loop-session-test.false c.loop-session.invariant.answered

pub returns-clause-headline : goal.returns-clause-headline
returns-clause-headline c =
    let done = take c.loop-session.session-index c.args.commands.now in
    let there = are-on-execution c.args.desk.now c.loop-session.desk done c.loop-session.replies.items c.loop-session.invariant.answered in
    headline (execution c.loop-session.desk)
    (stays-over-lists (execution c.args.desk.now) (execution c.loop-session.desk) (commands_of done c.loop-session.replies.items)
    there.0 c.is_sound.ensures.execution.sound there.2)

pub returns-clause-tickets : goal.returns-clause-tickets
returns-clause-tickets c =
    let done = take c.loop-session.session-index c.args.commands.now in
    let there = are-on-execution c.args.desk.now c.loop-session.desk done c.loop-session.replies.items c.loop-session.invariant.answered in
    tickets-grow (execution c.args.desk.now) (execution c.loop-session.desk) (commands_of done c.loop-session.replies.items)
    there.0 c.is_sound.ensures.execution.sound there.2

pub returns-in_err-replies-clause-least : goal.returns-in_err-replies-clause-least
returns-in_err-replies-clause-least c =
    none-take-less c.args.desk.now c.args.desk.now [] [] c.is_sound.ensures.execution.sound (refl, refl)

pub returns-in_err-replies-clause-back_and_forth : goal.returns-in_err-replies-clause-back_and_forth
returns-in_err-replies-clause-back_and_forth c =
    all-amount-to-back-and-forth c.args.desk.now c.args.desk.now [] [] c.is_sound.ensures.sharing c.is_sound.ensures.execution.sound (refl, refl)

pub returns-clause-least : goal.returns-clause-least
returns-clause-least c =
    none-take-less c.args.desk.now c.loop-session.desk (take c.loop-session.session-index c.args.commands.now) c.loop-session.replies.items
    c.is_sound.ensures.execution.sound c.loop-session.invariant.answered

pub returns-clause-back_and_forth : goal.returns-clause-back_and_forth
returns-clause-back_and_forth c =
    all-amount-to-back-and-forth c.args.desk.now c.loop-session.desk (take c.loop-session.session-index c.args.commands.now) c.loop-session.replies.items
    c.is_sound.ensures.sharing c.is_sound.ensures.execution.sound c.loop-session.invariant.answered
