use Rattle.std.proofs.Common.{◌≡◌, ◌∙◌, ℕ, sym, subst}
use Rattle.runs.specs.Commands.{Command, Reply}
use Rattle.runs.specs.Does.{Does}
use Rattle.runs.specs.Live.{Live, IsLive, ConsequencesList}
use Rattle.runs.specs.Object.{Object}
use Rattle.runs.specs.Steps.{opening}
use Rattle.machine.specs.AtMachine.{object}
use Rattle.rollback.proofs.Rolling.{alone, begun, more, rolled}
use Rattle.rollback.proofs.roll_live.Goals as goal

pub loop-last-init : goal.loop-last-init
loop-last-init c =
    let m = c.mark_consequences-count.new.self in
    let marked = c.mark_consequences-count.ensures in
    begun m c.args.ticket (subst (λ (l : Live). IsLive l c.args.ticket) (sym marked.live) c.requires)
    (subst (λ (l : Live). ConsequencesList l c.args.ticket m.marked) (sym marked.live) marked.marked)

pub undo_alone-requires : goal.undo_alone-requires
undo_alone-requires c = record {
  live = c.in-Some.ensures.live;
  alone = alone c.mark_consequences-count.new.self c.loop-last.machine c.args.ticket c.in-Some.last c.loop-last.invariant c.in-Some.ensures.last;
}

pub loop-last-preserved : goal.loop-last-preserved
loop-last-preserved c =
    (more c.mark_consequences-count.new.self c.loop-last.machine c.undo_alone.new.machine c.args.ticket c.in-Some.last c.loop-last.invariant
    c.is_sound.ensures.sound c.in-Some.ensures.last c.in-Some.ensures.live c.undo_alone.ensures).0

pub loop-last-smaller : goal.loop-last-smaller
loop-last-smaller c =
    (more c.mark_consequences-count.new.self c.loop-last.machine c.undo_alone.new.machine c.args.ticket c.in-Some.last c.loop-last.invariant
    c.is_sound.ensures.sound c.in-Some.ensures.last c.in-Some.ensures.live c.undo_alone.ensures).1

pub returns-clause-rolled : goal.returns-clause-rolled
returns-clause-rolled c =
    let m = c.mark_consequences-count.new.self in
    let marked = c.mark_consequences-count.ensures in
    let begins : object m ≡ object c.args.machine.now =
    (λ i. record { opening = opening (marked.system i); live = marked.live i; next = marked.next i }) in
    subst (λ (o : Object). Does o (Command.Roll c.args.ticket) (Reply.Rolled c.mark_consequences-count.result) (object c.loop-last.machine)) begins
    (subst (λ (n : ℕ). Does (object m) (Command.Roll c.args.ticket) (Reply.Rolled n) (object c.loop-last.machine)) (sym marked.counted)
    (rolled m c.loop-last.machine c.args.ticket c.loop-last.invariant c.in_default.ensures.last))

pub returns-clause-system : goal.returns-clause-system
returns-clause-system c = c.loop-last.invariant.system ∙ c.mark_consequences-count.ensures.system

pub returns-clause-marked : goal.returns-clause-marked
returns-clause-marked c = c.in_default.ensures.last
